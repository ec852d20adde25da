-- Operations whose answers and steps are computed.
use Rattle.std.proofs.Common.{◌≡◌, ℕ, ℤ, pos, negsuc, ◌-◌, ◌^◌, true, false, List, [], ◌∷◌, refl, codes, None}
use Rattle.ytt_base.specs.declared.fault.FaultKind.{FaultKind}
use Rattle.ytt_base.specs.declared.fault.FaultKind.TheVariants as kind
use Rattle.ytt_base.specs.Outcomes.{fault_at, first_place}
use Rattle.code_spec.specs.Code.{inversion, logical_not, BinaryOperator, addition, multiplication, floor_division, remainder, bit_and, bit_or, shift_left, shift_right, equal, unequal, less, at_most, contained, not_contained}
use Rattle.ytt_base.specs.Trees.{boolean, scalar, list, no_trees, tree}
use Rattle.code_spec.specs.Program.{element_item}
use Rattle.operator_spec.specs.Operators.{unary_row, binary_row, augment_row, tuple_of}
use Rattle.value_spec.specs.Outcomes.{State, done, bad}
use Rattle.value_spec.specs.Store.{with_object}
use Rattle.value_spec.specs.Values.{Value, none_value, bool_value, int_value, text_value, range_value, struct_value, no_fields, a_field, fragment_value, list_value, dict_value, native_value, builtin, method, child, no_children, a_child, no_built, one, list_of, of_list, of_dict, Store}

abbrev with_steps : ℕ → State (Unit {0})
with_steps n = record { store = []; steps = n; host = tt }

abbrev in_store : ℕ → Store → State (Unit {0})
in_store n store = record { store = store; steps = n; host = tt }

-- where no step is left
abbrev gives : BinaryOperator → Value → Value → Value → Type 0
gives o a b v = binary_row first_place o a b (with_steps 0) ≡ done v (with_steps 0)

-- where so many steps are left, and all are taken
abbrev takes : ℕ → BinaryOperator → Value → Value → Value → Type 0
takes n o a b v = binary_row first_place o a b (with_steps n) ≡ done v (with_steps 0)

abbrev refuses : BinaryOperator → Value → Value → FaultKind → Type 0
refuses o a b k = binary_row first_place o a b (with_steps 0) ≡ bad (fault_at k first_place) (with_steps 0)

abbrev int : ℤ → Value
int z = int_value z

abbrev word : List ℕ → Value
word t = text_value t

-- ---- integers

rounded_down : gives floor_division (int (negsuc 6)) (int (pos 2)) (int (negsuc 3))
rounded_down = refl

divisors_sign : gives remainder (int (negsuc 6)) (int (pos 2)) (int (pos 1))
divisors_sign = refl

negative_divisor : gives remainder (int (pos 7)) (int (negsuc 1)) (int (negsuc 0))
negative_divisor = refl

no_divisor : refuses remainder (int (pos 7)) (int (pos 0)) kind.DivideZero
no_divisor = refl

least_by_less_one : gives remainder (int (negsuc (2 ^ 127 - 1))) (int (negsuc 0)) (int (pos 0))
least_by_less_one = refl

shifted_to_least : gives shift_left (int (negsuc 0)) (int (pos 127)) (int (negsuc (2 ^ 127 - 1)))
shifted_to_least = refl

shifted_out : refuses shift_left (int (pos 1)) (int (pos 127)) kind.IntOverflow
shifted_out = refl

shifted_down : gives shift_right (int (negsuc 4)) (int (pos 1)) (int (negsuc 2))
shifted_down = refl

no_places : refuses shift_right (int (pos 4)) (int (negsuc 0)) kind.ValueKind
no_places = refl

bits_of_both : gives bit_and (int (negsuc 0)) (int (pos 12)) (int (pos 12))
bits_of_both = refl

turned : unary_row first_place inversion (int (pos 5)) (with_steps 0) ≡ done (int (negsuc 5)) (with_steps 0)
turned = refl

-- ---- equality

kinds_differ : gives equal (bool_value true) (int (pos 1)) (bool_value false)
kinds_differ = refl

lengths_differ : gives unequal (tuple_of (int (pos 1) ∷ [])) (tuple_of []) (bool_value true)
lengths_differ = refl

-- a step for each pair of members up to the first difference
first_difference : takes 2 equal (tuple_of (int (pos 1) ∷ int (pos 2) ∷ none_value ∷ [])) (tuple_of (int (pos 1) ∷ int (pos 3) ∷ none_value ∷ [])) (bool_value false)
first_difference = refl

-- ---- order

-- a tuple takes a step for each member of both
longer_is_above : takes 3 less (tuple_of (int (pos 1) ∷ [])) (tuple_of (int (pos 1) ∷ none_value ∷ [])) (bool_value true)
longer_is_above = refl

by_rank : takes 2 less (tuple_of (int (pos 9) ∷ [])) (tuple_of (word (codes "a") ∷ [])) (bool_value true)
by_rank = refl

no_order : refuses less none_value none_value kind.ValueKind
no_order = refl

unlike_kinds : refuses at_most (int (pos 1)) (word (codes "a")) kind.ValueKind
unlike_kinds = refl

-- ---- texts and tuples

repeated_members : takes 3 multiplication (int (pos 2)) (tuple_of (none_value ∷ [])) (tuple_of (none_value ∷ none_value ∷ []))
repeated_members = refl

below_one : takes 1 multiplication (tuple_of (none_value ∷ [])) (int (negsuc 0)) (tuple_of [])
below_one = refl

joined_members : refuses addition (tuple_of (none_value ∷ [])) (tuple_of []) kind.Steps
joined_members = refl

part_of_it : gives contained (word (codes "bc")) (word (codes "abcd")) (bool_value true)
part_of_it = refl

second_member : takes 2 not_contained (int (pos 2)) (tuple_of (none_value ∷ int (pos 2) ∷ none_value ∷ [])) (bool_value false)
second_member = refl

empty_is_false : unary_row first_place logical_not (tuple_of []) (with_steps 0) ≡ done (bool_value true) (with_steps 0)
empty_is_false = refl

-- ---- objects

-- a list of 1 and 2, a dict, one of the same pairs in another order, and a list that holds itself
abbrev some_objects : Store
some_objects =
    with_object (of_list (list_value 3 ∷ []))
    (with_object (of_dict ((word (codes "b"), int (pos 2)) ∷ (word (codes "a"), int (pos 1)) ∷ []))
    (with_object (of_dict ((word (codes "a"), int (pos 1)) ∷ (word (codes "b"), int (pos 2)) ∷ []))
    (with_object (of_list (int (pos 1) ∷ int (pos 2) ∷ [])) [])))

abbrev finds : ℕ → BinaryOperator → Value → Value → Value → Type 0
finds n o a b v = binary_row first_place o a b (in_store n some_objects) ≡ done v (in_store 0 some_objects)

abbrev refuses_of : ℕ → BinaryOperator → Value → Value → FaultKind → Type 0
refuses_of n o a b k = binary_row first_place o a b (in_store n some_objects) ≡ bad (fault_at k first_place) (in_store 0 some_objects)

two_lists : binary_row first_place addition (list_value 0) (list_value 0) (in_store 8 some_objects) ≡ done (list_value 4) (in_store 0 (with_object (of_list (int (pos 1) ∷ int (pos 2) ∷ int (pos 1) ∷ int (pos 2) ∷ [])) some_objects))
two_lists = refl

list_again : binary_row first_place multiplication (int (pos 2)) (list_value 0) (in_store 6 some_objects) ≡ done (list_value 4) (in_store 0 (with_object (of_list (int (pos 1) ∷ int (pos 2) ∷ int (pos 1) ∷ int (pos 2) ∷ [])) some_objects))
list_again = refl

-- three counts of two pairs each; the places are the left's
both_dicts : binary_row first_place bit_or (dict_value 1) (dict_value 2) (in_store 6 some_objects) ≡ done (dict_value 4) (in_store 0 (with_object (of_dict ((word (codes "a"), int (pos 1)) ∷ (word (codes "b"), int (pos 2)) ∷ [])) some_objects))
both_dicts = refl

any_order : finds 2 equal (dict_value 1) (dict_value 2) (bool_value true)
any_order = refl

-- a list that holds itself is as deep as may be, and one more
itself : refuses_of 100 equal (list_value 3) (list_value 3) kind.TooDeep
itself = refl

itself_in_order : refuses_of 100 less (list_value 3) (list_value 3) kind.TooDeep
itself_in_order = refl

numbers_alike : finds 2 equal (range_value (pos 0) (pos 4) (pos 2)) (range_value (pos 0) (pos 3) (pos 2)) (bool_value true)
numbers_alike = refl

second_number : finds 2 equal (range_value (pos 0) (pos 4) (pos 2)) (range_value (pos 0) (pos 2) (pos 1)) (bool_value false)
second_number = refl

names_in_any_order : finds 2 equal (struct_value (a_field (codes "x") none_value (a_field (codes "y") (int (pos 1)) no_fields))) (struct_value (a_field (codes "y") (int (pos 1)) (a_field (codes "x") none_value no_fields))) (bool_value true)
names_in_any_order = refl

by_name : finds 0 equal (native_value (method (codes "index") none_value)) (native_value (builtin (codes "index"))) (bool_value true)
by_name = refl

-- one that was built of items, and one whose tree is the same
as_trees : finds 2 equal
    (fragment_value element_item (a_child (child first_place no_built None (list_of (a_child (child first_place no_built None (one (scalar (boolean true)))) no_children))) no_children))
    (fragment_value element_item (a_child (child first_place no_built None (one (list (tree (scalar (boolean true)) no_trees)))) no_children)) (bool_value true)
as_trees = refl

a_list_is_no_tuple : finds 0 equal (list_value 0) (tuple_of (int (pos 1) ∷ int (pos 2) ∷ [])) (bool_value false)
a_list_is_no_tuple = refl

lists_in_order : finds 4 at_most (list_value 0) (list_value 0) (bool_value true)
lists_in_order = refl

a_key : finds 0 contained (word (codes "a")) (dict_value 1) (bool_value true)
a_key = refl

a_value_is_no_key : finds 0 contained (int (pos 1)) (dict_value 1) (bool_value false)
a_value_is_no_key = refl

no_key : refuses_of 0 contained (list_value 0) (dict_value 1) kind.ValueKind
no_key = refl

last_number : finds 3 contained (int (negsuc 0)) (range_value (pos 3) (negsuc 1) (negsuc 1)) (bool_value true)
last_number = refl

between_numbers : finds 3 contained (int (pos 2)) (range_value (pos 3) (negsuc 1) (negsuc 1)) (bool_value false)
between_numbers = refl

no_member : refuses_of 0 contained (int (pos 0)) (struct_value no_fields) kind.ValueKind
no_member = refl

-- ---- in place

longer : augment_row first_place addition (list_value 0) (range_value (pos 0) (pos 1) (pos 1)) (in_store 3 (with_object (of_list (none_value ∷ none_value ∷ [])) [])) ≡ done (list_value 0) (in_store 0 (with_object (of_list (none_value ∷ none_value ∷ int (pos 0) ∷ [])) []))
longer = refl

-- that it can't be changed comes before the kind of what is added
frozen_first : augment_row first_place addition (list_value 0) none_value (in_store 0 (record { contents = of_list []; frozen = true; loops = 1 } ∷ [])) ≡ bad (fault_at kind.Frozen first_place) (in_store 0 (record { contents = of_list []; frozen = true; loops = 1 } ∷ []))
frozen_first = refl

no_members : augment_row first_place addition (list_value 0) none_value (in_store 0 some_objects) ≡ bad (fault_at kind.ValueKind first_place) (in_store 0 some_objects)
no_members = refl
