-- Indexes and slices whose answers and steps are computed.
use Rattle.std.proofs.Common.{◌≡◌, ℕ, ℤ, pos, negsuc, ◌^◌, ◌-◌, true, List, [], ◌∷◌, Some, refl, codes}
use Rattle.ytt_base.specs.declared.fault.FaultKind.{FaultKind}
use Rattle.ytt_base.specs.declared.fault.FaultKind.TheVariants as kind
use Rattle.ytt_base.specs.Outcomes.{fault_at, first_place}
use Rattle.ytt_base.specs.Trees.{integer, string, scalar, list, no_trees, tree}
use Rattle.code_spec.specs.Program.{pair_item, element_item}
use Rattle.value_spec.specs.Values.{Value, none_value, bool_value, int_value, text_value, range_value, list_value, dict_value, struct_value, no_fields, a_field, fragment_value, child, Children, no_children, a_child, no_built, Body, one, map_of, Store, of_list, of_dict}
use Rattle.value_spec.specs.Outcomes.{State, done, bad, Computation, fail_with}
use Rattle.value_spec.specs.Store.{with_object}
use Rattle.operator_spec.specs.Operators.{tuple_of}
use Rattle.index_spec.specs.Index.{index_row}
use Rattle.index_spec.specs.Slices.{Cut, slice_row}

abbrev at : ℕ → Store → State (Unit {0})
at n store = record { store = store; steps = n; host = tt }

abbrev int : ℤ → Value
int z = int_value z

abbrev word : List ℕ → Value
word t = text_value t

-- the second of two characters, of which the first has two bytes
abbrev cafe : Value
cafe = word (195 ∷ 169 ∷ 98 ∷ [])

abbrev three : Store
three = with_object (of_list (int (pos 1) ∷ int (pos 2) ∷ int (pos 3) ∷ [])) []

-- where so many steps are left, and all are taken
abbrev takes : ℕ → Store → Computation (Unit {0}) Value → Value → Type 0
takes n store m v = m (at n store) ≡ done v (at 0 store)

abbrev refuses : Store → Computation (Unit {0}) Value → FaultKind → Type 0
refuses store m k = m (at 0 store) ≡ bad (fault_at k first_place) (at 0 store)

-- ---- places

from_the_end : takes 0 three (index_row first_place (list_value 0) (int (negsuc 0))) (int (pos 3))
from_the_end = refl

past_the_last : refuses three (index_row first_place (list_value 0) (int (pos 3))) kind.IndexRange
past_the_last = refl

before_the_first : refuses three (index_row first_place (list_value 0) (int (negsuc 3))) kind.IndexRange
before_the_first = refl

no_bool : refuses three (index_row first_place (list_value 0) (bool_value true)) kind.ValueKind
no_bool = refl

of_a_range : takes 0 [] (index_row first_place (range_value (pos 9) (pos 0) (negsuc 2)) (int (negsuc 0))) (int (pos 3))
of_a_range = refl

half_a_character : refuses [] (index_row first_place cafe (int (pos 0))) kind.CutsCharacter
half_a_character = refl

a_character : takes 0 [] (index_row first_place cafe (int (negsuc 0))) (word (codes "b"))
a_character = refl

-- ---- keys

abbrev one_pair : Store
one_pair = with_object (of_dict ((word (codes "0123456789abcdef"), int (pos 7)) ∷ [])) []

by_key : takes 1 one_pair (index_row first_place (dict_value 0) (word (codes "0123456789abcdef"))) (int (pos 7))
by_key = refl

no_such_key : index_row first_place (dict_value 0) (tuple_of (none_value ∷ word (codes "a\"") ∷ [])) (at 2 one_pair) ≡ fail_with kind.KeyMissing first_place (codes "(None, \"a\\\"\")") (at 0 one_pair)
no_such_key = refl

no_key : refuses one_pair (index_row first_place (dict_value 0) (dict_value 0)) kind.ValueKind
no_key = refl

true_is_not_1 : index_row first_place (struct_value (a_field (codes "x") none_value no_fields)) (bool_value true) (at 0 []) ≡ fail_with {A = Value} kind.KeyMissing first_place (codes "True") (at 0 [])
true_is_not_1 = refl

-- ---- fragments

abbrev held : Body → Children → Children
held b cs = a_child (child first_place no_built (Some (string (codes "k"))) b) cs

-- a member that a tree gave is a fresh value, and takes its size
fresh_list : index_row first_place (fragment_value pair_item (held (one (list (tree (scalar (integer (pos 1))) no_trees))) no_children)) (word (codes "k")) (at 1 []) ≡ done (list_value 0) (at 0 (with_object (of_list (int (pos 1) ∷ [])) []))
fresh_list = refl

-- one that was built of items is a fragment
inner_fragment : index_row first_place (fragment_value element_item (held (map_of no_children) no_children)) (int (pos 0)) (at 0 []) ≡ done (fragment_value pair_item no_children) (at 0 [])
inner_fragment = refl

-- ---- slices

abbrev cut : Value → Value → Value → Cut
cut a b c = record { from = a; to = b; step = c }

abbrev made : Store → Value → Cut → (steps : ℕ) → List Value → Type 0
made store v c n vs = slice_row first_place v c (at n store) ≡ done (list_value 1) (at 0 (with_object (of_list vs) store))

the_rest : made three (list_value 0) (cut (int (pos 1)) none_value none_value) 5 (int (pos 2) ∷ int (pos 3) ∷ [])
the_rest = refl

turned_round : made three (list_value 0) (cut none_value none_value (int (negsuc 0))) 6 (int (pos 3) ∷ int (pos 2) ∷ int (pos 1) ∷ [])
turned_round = refl

far_bounds : made three (list_value 0) (cut (int (negsuc (2 ^ 127 - 1))) (int (pos (2 ^ 127 - 1))) (int (pos 2))) 5 (int (pos 1) ∷ int (pos 3) ∷ [])
far_bounds = refl

down_to_an_end : made three (list_value 0) (cut none_value (int (negsuc 2)) (int (negsuc 0))) 5 (int (pos 3) ∷ int (pos 2) ∷ [])
down_to_an_end = refl

nothing_between : made three (list_value 0) (cut (int (pos 2)) (int (pos 1)) none_value) 3 []
nothing_between = refl

no_step : refuses three (slice_row first_place (list_value 0) (cut none_value none_value (int (pos 0)))) kind.ValueKind
no_step = refl

nothing_of_half : takes 0 [] (slice_row first_place cafe (cut (int (pos 1)) (int (pos 1)) none_value)) (word [])
nothing_of_half = refl

whole_character : takes 0 [] (slice_row first_place cafe (cut none_value (int (pos 2)) none_value)) (word (195 ∷ 169 ∷ []))
whole_character = refl

cut_in_two : refuses [] (slice_row first_place cafe (cut (int (pos 1)) none_value none_value)) kind.CutsCharacter
cut_in_two = refl

no_bytes_alone : refuses [] (slice_row first_place cafe (cut none_value none_value (int (negsuc 0)))) kind.CutsCharacter
no_bytes_alone = refl
