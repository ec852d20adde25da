-- Attributes, calls and operators whose answers and steps are computed.
use Rattle.std.proofs.Common.{◌≡◌, ℕ, pos, negsuc, Bool, true, false, List, [], ◌∷◌, refl, codes}
use Rattle.std.specs.Fmt.{digits}
use Rattle.ytt_base.specs.declared.fault.FaultKind.TheVariants as kind
use Rattle.ytt_base.specs.declared.fault.Fault.{Fault}
use Rattle.ytt_base.specs.Outcomes.{fault_at, first_place}
use Rattle.code_spec.specs.Code.{Name, remainder}
use Rattle.builtin_spec.specs.Attributes.{attribute_row}
use Rattle.builtin_spec.specs.Calls.{asked_row, own_row}
use Rattle.builtin_spec.specs.Operators.{operator_row}
use Rattle.builtin_spec.specs.Sorting.{Keyed, Wanted, asks_keys, wanted_row, without_keys}
use Rattle.operator_spec.specs.Operators.{tuple_of}
use Rattle.value_spec.specs.Outcomes.{State, done, bad, Computation}
use Rattle.value_spec.specs.Store.{object, with_object}
use Rattle.value_spec.specs.Values.{Value, none_value, bool_value, int_value, text_value, range_value, list_value, dict_value, native_value, builtin, method, values_from, no_fields, a_field, Fields, arguments, Store, of_list, of_dict, struct_value}

abbrev at : ℕ → Store → State (Unit {0})
at n store = record { store = store; steps = n; host = tt }

abbrev int : ℕ → Value
int n = int_value (pos n)

abbrev word : List ℕ → Value
word t = text_value t

abbrev call : Name → List Value → Computation (Unit {0}) Value
call x vs = own_row first_place (native_value (builtin x)) (arguments (values_from vs) no_fields)

-- where so many steps are left, and all are taken
abbrev gives : ℕ → Computation (Unit {0}) Value → Value → Type 0
gives n m v = m (at n []) ≡ done v (at 0 [])

-- and no step is taken
abbrev refuses : Computation (Unit {0}) Value → Fault → Type 0
refuses m f = m (at 0 []) ≡ bad f (at 0 [])

-- ---- attributes

method_of_text : gives 0 (attribute_row first_place (word (codes "a")) (codes "upper")) (native_value (method (codes "upper") (word (codes "a"))))
method_of_text = refl

formatting : gives 0 (attribute_row first_place (word (codes "a")) (codes "format")) (native_value (method (codes "format") (word (codes "a"))))
formatting = refl

no_title : refuses (attribute_row first_place (word (codes "a")) (codes "title")) (record (fault_at kind.KeyMissing first_place) { detail = codes "title" })
no_title = refl

field_of_struct : gives 0 (attribute_row first_place (struct_value (a_field (codes "a") (int 1) no_fields)) (codes "a")) (int 1)
field_of_struct = refl

none_has_none : refuses (attribute_row first_place none_value (codes "a")) (record (fault_at kind.KeyMissing first_place) { detail = codes "a" })
none_has_none = refl

-- ---- functions

length_of_text : gives 0 (call (codes "len") (word (codes "abc") ∷ [])) (int 3)
length_of_text = refl

length_of_range : gives 0 (call (codes "len") (range_value (pos 0) (pos 10) (pos 3) ∷ [])) (int 4)
length_of_range = refl

length_of_integer : refuses (call (codes "len") (int 1 ∷ [])) (fault_at kind.ValueKind first_place)
length_of_integer = refl

length_of_two : refuses (call (codes "len") (int 1 ∷ int 2 ∷ [])) (fault_at kind.ArgBind first_place)
length_of_two = refl

text_of_tuple : gives 2 (call (codes "str") (tuple_of (int 1 ∷ word (codes "a") ∷ []) ∷ [])) (word (codes "(1, \"a\")"))
unfolding digits
text_of_tuple = refl

text_of_text : gives 0 (call (codes "str") (word (codes "a") ∷ [])) (word (codes "a"))
text_of_text = refl

quoted_text : gives 0 (call (codes "repr") (word (codes "a") ∷ [])) (word (codes "\"a\""))
quoted_text = refl

shown_function : gives 0 (call (codes "repr") (native_value (builtin (codes "len")) ∷ [])) (word (codes "<builtin len>"))
shown_function = refl

type_of_function : gives 0 (call (codes "type") (native_value (builtin (codes "len")) ∷ [])) (word (codes "builtin_function_or_method"))
type_of_function = refl

truth_of_nothing : gives 0 (call (codes "bool") []) (bool_value false)
truth_of_nothing = refl

truth_of_text : gives 0 (call (codes "bool") (word (codes "a") ∷ [])) (bool_value true)
truth_of_text = refl

asked_for : refuses (call (codes "fail") (word (codes "no") ∷ [])) (record (fault_at kind.Failed first_place) { detail = codes "no" })
asked_for = refl

-- ---- operators

filled_text : gives 0 (operator_row first_place remainder (word (codes "%d!")) (int 3)) (word (codes "3!"))
unfolding digits
filled_text = refl

remainder_of_integers : gives 0 (operator_row first_place remainder (int 7) (int 3)) (int 1)
remainder_of_integers = refl

-- ---- members

-- the objects 0 and 1: a list of 1 and "ab", and a dict of "a" and 1
abbrev two_objects : Store
two_objects = object (of_list (int 1 ∷ word (codes "ab") ∷ [])) ∷ object (of_dict ((word (codes "a"), int 1) ∷ [])) ∷ []

-- of the list and of the dict
abbrev of_list_0 : Name → List Value → Computation (Unit {0}) Value
of_list_0 x vs = own_row first_place (native_value (method x (list_value 0))) (arguments (values_from vs) no_fields)

abbrev of_dict_1 : Name → List Value → Computation (Unit {0}) Value
of_dict_1 x vs = own_row first_place (native_value (method x (dict_value 1))) (arguments (values_from vs) no_fields)

-- with these objects and so many steps, which are all taken; these objects are left
abbrev turns : ℕ → Computation (Unit {0}) Value → Value → Store → Type 0
turns n m v store = m (at n two_objects) ≡ done v (at 0 store)

abbrev keeps : ℕ → Computation (Unit {0}) Value → Value → Type 0
keeps n m v = turns n m v two_objects

abbrev with_list : List Value → Store
with_list vs = object (of_list vs) ∷ object (of_dict ((word (codes "a"), int 1) ∷ [])) ∷ []

abbrev with_dict : List (Value × Value) → Store
with_dict ps = object (of_list (int 1 ∷ word (codes "ab") ∷ [])) ∷ object (of_dict ps) ∷ []

abbrev refused : ℕ → Computation (Unit {0}) Value → Fault → Type 0
refused n m f = m (at n two_objects) ≡ bad f (at 0 two_objects)

appended : turns 0 (of_list_0 (codes "append") (int 2 ∷ [])) none_value (with_list (int 1 ∷ word (codes "ab") ∷ int 2 ∷ []))
appended = refl

cleared : turns 2 (of_list_0 (codes "clear") []) none_value (with_list [])
cleared = refl

extended : turns 4 (of_list_0 (codes "extend") (list_value 0 ∷ [])) none_value (with_list (int 1 ∷ word (codes "ab") ∷ int 1 ∷ word (codes "ab") ∷ []))
extended = refl

place_found : keeps 2 (of_list_0 (codes "index") (word (codes "ab") ∷ [])) (int 1)
place_found = refl

no_place : refused 2 (of_list_0 (codes "index") (int 7 ∷ [])) (fault_at kind.KeyMissing first_place)
no_place = refl

not_before : refused 1 (of_list_0 (codes "index") (int 1 ∷ int 1 ∷ [])) (fault_at kind.KeyMissing first_place)
not_before = refl

inserted : turns 2 (of_list_0 (codes "insert") (int 0 ∷ int 5 ∷ [])) none_value (with_list (int 5 ∷ int 1 ∷ word (codes "ab") ∷ []))
inserted = refl

inserted_behind_all : turns 2 (of_list_0 (codes "insert") (int 9 ∷ int 5 ∷ [])) none_value (with_list (int 1 ∷ word (codes "ab") ∷ int 5 ∷ []))
inserted_behind_all = refl

last_popped : turns 0 (of_list_0 (codes "pop") []) (word (codes "ab")) (with_list (int 1 ∷ []))
last_popped = refl

first_popped : turns 2 (of_list_0 (codes "pop") (int 0 ∷ [])) (int 1) (with_list (word (codes "ab") ∷ []))
first_popped = refl

none_to_pop : refused 0 (of_list_0 (codes "pop") (int 2 ∷ [])) (fault_at kind.IndexRange first_place)
none_to_pop = refl

no_integer : refused 0 (of_list_0 (codes "pop") (none_value ∷ [])) (fault_at kind.ValueKind first_place)
no_integer = refl

removed : turns 2 (of_list_0 (codes "remove") (word (codes "ab") ∷ [])) none_value (with_list (int 1 ∷ []))
removed = refl

got : keeps 0 (of_dict_1 (codes "get") (word (codes "a") ∷ [])) (int 1)
got = refl

got_another : keeps 0 (of_dict_1 (codes "get") (word (codes "b") ∷ int 5 ∷ [])) (int 5)
got_another = refl

no_key : refused 0 (of_dict_1 (codes "get") (list_value 0 ∷ [])) (fault_at kind.ValueKind first_place)
no_key = refl

listed_items : of_dict_1 (codes "items") [] (at 2 two_objects) ≡ done (list_value 2) (at 0 (with_object (of_list (tuple_of (word (codes "a") ∷ int 1 ∷ []) ∷ [])) two_objects))
listed_items = refl

listed_keys : of_dict_1 (codes "keys") [] (at 2 two_objects) ≡ done (list_value 2) (at 0 (with_object (of_list (word (codes "a") ∷ [])) two_objects))
listed_keys = refl

key_popped : turns 0 (of_dict_1 (codes "pop") (word (codes "a") ∷ [])) (int 1) (with_dict [])
key_popped = refl

another_popped : keeps 0 (of_dict_1 (codes "pop") (word (codes "b") ∷ none_value ∷ [])) none_value
another_popped = refl

no_key_to_pop : refused 0 (of_dict_1 (codes "pop") (word (codes "b") ∷ [])) (record (fault_at kind.KeyMissing first_place) { detail = codes "\"b\"" })
no_key_to_pop = refl

item_popped : turns 0 (of_dict_1 (codes "popitem") []) (tuple_of (word (codes "a") ∷ int 1 ∷ [])) (with_dict [])
item_popped = refl

default_set : turns 0 (of_dict_1 (codes "setdefault") (word (codes "b") ∷ int 2 ∷ [])) (int 2) (with_dict ((word (codes "a"), int 1) ∷ (word (codes "b"), int 2) ∷ []))
default_set = refl

default_left : keeps 0 (of_dict_1 (codes "setdefault") (word (codes "a") ∷ int 2 ∷ [])) (int 1)
default_left = refl

-- ---- more functions

nothing_listed : call (codes "list") [] (at 0 []) ≡ done (list_value 0) (at 0 (with_object (of_list []) []))
nothing_listed = refl

none_listed : refuses (call (codes "list") (none_value ∷ [])) (fault_at kind.ValueKind first_place)
none_listed = refl

made_tuple : gives 4 (call (codes "tuple") (tuple_of (int 1 ∷ int 2 ∷ []) ∷ [])) (tuple_of (int 1 ∷ int 2 ∷ []))
made_tuple = refl

turned_round : call (codes "reversed") (tuple_of (int 1 ∷ int 2 ∷ []) ∷ []) (at 4 []) ≡ done (list_value 0) (at 0 (with_object (of_list (int 2 ∷ int 1 ∷ [])) []))
turned_round = refl

some_is_true : gives 2 (call (codes "any") (tuple_of (int 0 ∷ int 2 ∷ []) ∷ [])) (bool_value true)
some_is_true = refl

not_all_are_true : gives 2 (call (codes "all") (tuple_of (int 0 ∷ int 2 ∷ []) ∷ [])) (bool_value false)
not_all_are_true = refl

without_sign : gives 0 (call (codes "abs") (int_value (negsuc 4) ∷ [])) (int 5)
without_sign = refl

numbers_to : gives 0 (call (codes "range") (int 3 ∷ [])) (range_value (pos 0) (pos 3) (pos 1))
numbers_to = refl

no_step : refuses (call (codes "range") (int 0 ∷ int 3 ∷ int 0 ∷ [])) (fault_at kind.ValueKind first_place)
no_step = refl

no_bounds : refuses (call (codes "range") []) (fault_at kind.ArgBind first_place)
no_bounds = refl

has_upper : gives 0 (call (codes "hasattr") (word (codes "a") ∷ word (codes "upper") ∷ [])) (bool_value true)
has_upper = refl

has_no_title : gives 0 (call (codes "hasattr") (word (codes "a") ∷ word (codes "title") ∷ [])) (bool_value false)
has_no_title = refl

otherwise : gives 0 (call (codes "getattr") (word (codes "a") ∷ word (codes "title") ∷ int 1 ∷ [])) (int 1)
otherwise = refl

no_attribute : refuses (call (codes "getattr") (word (codes "a") ∷ word (codes "title") ∷ [])) (record (fault_at kind.KeyMissing first_place) { detail = codes "title" })
no_attribute = refl

with_numbers : call (codes "enumerate") (tuple_of (int 7 ∷ int 8 ∷ []) ∷ int 3 ∷ []) (at 4 []) ≡ done (list_value 0) (at 0 (with_object (of_list (tuple_of (int 3 ∷ int 7 ∷ []) ∷ tuple_of (int 4 ∷ int 8 ∷ []) ∷ [])) []))
with_numbers = refl

two_at_a_time : call (codes "zip") (tuple_of (int 1 ∷ int 2 ∷ int 3 ∷ []) ∷ tuple_of (int 4 ∷ int 5 ∷ []) ∷ []) (at 7 []) ≡ done (list_value 0) (at 0 (with_object (of_list (tuple_of (int 1 ∷ int 4 ∷ []) ∷ tuple_of (int 2 ∷ int 5 ∷ []) ∷ [])) []))
two_at_a_time = refl

none_zipped : call (codes "zip") [] (at 0 []) ≡ done (list_value 0) (at 0 (with_object (of_list []) []))
none_zipped = refl

read_number : gives 0 (call (codes "int") (word (codes "-12") ∷ [])) (int_value (negsuc 11))
read_number = refl

read_in_base : gives 0 (call (codes "int") (word (codes "zZ") ∷ int 36 ∷ [])) (int 1295)
read_in_base = refl

no_prefix : refuses (call (codes "int") (word (codes "-0x1") ∷ int 16 ∷ [])) (fault_at kind.ValueKind first_place)
no_prefix = refl

no_digits : refuses (call (codes "int") (word (codes "+") ∷ [])) (fault_at kind.ValueKind first_place)
no_digits = refl

base_for_integer : refuses (call (codes "int") (int 5 ∷ int 10 ∷ [])) (fault_at kind.ValueKind first_place)
base_for_integer = refl

truth_as_integer : gives 0 (call (codes "int") (bool_value true ∷ [])) (int 1)
truth_as_integer = refl

-- ---- order

-- a call that may ask for keys, with arguments by position and by name
abbrev asks : Name → List Value → Fields → Computation (Unit {0}) Keyed
asks x vs fs = asked_row first_place (native_value (builtin x)) (arguments (values_from vs) fs)

-- with so many steps, which are all taken, it gives a new list of these
abbrev sorts : ℕ → Computation (Unit {0}) Keyed → List Value → Type 0
sorts n m vs = m (at n []) ≡ done (without_keys (list_value 0)) (at 0 (with_object (of_list vs) []))

-- it gives this
abbrev finds : ℕ → Computation (Unit {0}) Keyed → Value → Type 0
finds n m v = m (at n []) ≡ done (without_keys v) (at 0 [])

abbrev doubts : ℕ → Computation (Unit {0}) Keyed → Fault → Type 0
doubts n m f = m (at n []) ≡ bad f (at n [])

abbrev three : Value
three = tuple_of (int 2 ∷ int 3 ∷ int 1 ∷ [])

abbrev wanted : (first_alone descending : Bool) → Wanted
wanted a d = record { first_alone = a; descending = d }

rising : sorts 6 (asks (codes "sorted") (three ∷ []) no_fields) (int 1 ∷ int 2 ∷ int 3 ∷ [])
rising = refl

falling : sorts 6 (asks (codes "sorted") (three ∷ none_value ∷ bool_value true ∷ []) no_fields) (int 3 ∷ int 2 ∷ int 1 ∷ [])
falling = refl

sorted_nothing : sorts 0 (asks (codes "sorted") (tuple_of [] ∷ []) no_fields) []
sorted_nothing = refl

key_asked : asks (codes "sorted") (three ∷ []) (a_field (codes "key") (native_value (builtin (codes "abs"))) no_fields) (at 0 []) ≡
    done (asks_keys (wanted false false) (native_value (builtin (codes "abs"))) (int 2 ∷ int 3 ∷ int 1 ∷ [])) (at 0 [])
key_asked = refl

no_key_function : doubts 9 (asks (codes "sorted") (three ∷ int 1 ∷ []) no_fields) (fault_at kind.ValueKind first_place)
no_key_function = refl

no_flag : doubts 9 (asks (codes "sorted") (three ∷ none_value ∷ int 1 ∷ []) no_fields) (fault_at kind.ValueKind first_place)
no_flag = refl

two_kinds : doubts 9 (asks (codes "sorted") (tuple_of (int 2 ∷ word (codes "a") ∷ []) ∷ []) no_fields) (fault_at kind.ValueKind first_place)
two_kinds = refl

no_order : doubts 9 (asks (codes "sorted") (tuple_of (none_value ∷ []) ∷ []) no_fields) (fault_at kind.ValueKind first_place)
no_order = refl

-- where the keys are equal members stay in their order, the greatest first too
equal_rising : wanted_row {H = Unit {0}} first_place (wanted false false) (int 7 ∷ int 8 ∷ int 9 ∷ []) (int 1 ∷ int 0 ∷ int 1 ∷ []) (at 6 []) ≡ done (list_value 0) (at 0 (with_object (of_list (int 8 ∷ int 7 ∷ int 9 ∷ [])) []))
equal_rising = refl

equal_falling : wanted_row {H = Unit {0}} first_place (wanted false true) (int 7 ∷ int 8 ∷ int 9 ∷ []) (int 1 ∷ int 0 ∷ int 1 ∷ []) (at 6 []) ≡ done (list_value 0) (at 0 (with_object (of_list (int 7 ∷ int 9 ∷ int 8 ∷ [])) []))
equal_falling = refl

first_greatest : wanted_row {H = Unit {0}} first_place (wanted true true) (int 7 ∷ int 8 ∷ int 9 ∷ []) (int 0 ∷ int 1 ∷ int 1 ∷ []) (at 3 []) ≡ done (int 8) (at 0 [])
first_greatest = refl

least : finds 3 (asks (codes "min") (three ∷ []) no_fields) (int 1)
least = refl

greatest_of_two : finds 2 (asks (codes "max") (int 2 ∷ int 3 ∷ []) no_fields) (int 3)
greatest_of_two = refl

least_of_none : doubts 9 (asks (codes "min") (tuple_of [] ∷ []) no_fields) (fault_at kind.ValueKind first_place)
least_of_none = refl

nothing_given : doubts 9 (asks (codes "min") [] no_fields) (fault_at kind.ArgBind first_place)
nothing_given = refl

-- `min` takes no argument by name but its key
other_name : doubts 9 (asks (codes "min") (three ∷ []) (a_field (codes "reverse") none_value no_fields)) (fault_at kind.ArgBind first_place)
other_name = refl

long_range : doubts 2 (asks (codes "max") (range_value (pos 0) (pos 3) (pos 1) ∷ []) (a_field (codes "key") (native_value (builtin (codes "abs"))) no_fields)) (fault_at kind.Steps first_place)
long_range = refl

-- 20 bytes are of the size 1, which is taken before the members are counted
sized_key : finds 2 (asks (codes "min") (tuple_of (word (codes "aaaaaaaaaaaaaaaaaaaa") ∷ []) ∷ []) no_fields) (word (codes "aaaaaaaaaaaaaaaaaaaa"))
sized_key = refl

-- ---- pairs that are put into a dict

abbrev a : Value
a = word (codes "a")

abbrev b : Value
b = word (codes "b")

-- what `update` and `dict` take: a pair of "b" and 2, and "a" by name
abbrev one_pair : List Value
one_pair = tuple_of (tuple_of (b ∷ int 2 ∷ []) ∷ []) ∷ []

abbrev a_named : Fields
a_named = a_field (codes "a") (int 9) no_fields

-- a key that is there keeps its place
updated : own_row first_place (native_value (method (codes "update") (dict_value 1))) (arguments (values_from one_pair) a_named) (at 2 two_objects) ≡ done none_value (at 0 (with_dict ((a, int 9) ∷ (b, int 2) ∷ [])))
updated = refl

updated_by_itself : turns 2 (of_dict_1 (codes "update") (dict_value 1 ∷ [])) none_value two_objects
updated_by_itself = refl

updated_by_nothing : keeps 1 (of_dict_1 (codes "update") []) none_value
updated_by_nothing = refl

no_pairs : refused 0 (of_dict_1 (codes "update") (list_value 0 ∷ [])) (fault_at kind.ValueKind first_place)
no_pairs = refl

no_such_key : refused 0 (of_dict_1 (codes "update") (tuple_of (tuple_of (list_value 0 ∷ int 1 ∷ []) ∷ []) ∷ [])) (fault_at kind.ValueKind first_place)
no_such_key = refl

two_of_them : refused 0 (of_dict_1 (codes "update") (dict_value 1 ∷ dict_value 1 ∷ [])) (fault_at kind.ArgBind first_place)
two_of_them = refl

made_dict : own_row first_place (native_value (builtin (codes "dict"))) (arguments (values_from one_pair) a_named) (at 3 []) ≡ done (dict_value 0) (at 0 (with_object (of_dict ((b, int 2) ∷ (a, int 9) ∷ [])) []))
made_dict = refl

empty_dict : call (codes "dict") [] (at 0 []) ≡ done (dict_value 0) (at 0 (with_object (of_dict []) []))
empty_dict = refl

names_in_order : call (codes "dir") (struct_value (a_field (codes "b") (int 1) (a_field (codes "a") (int 2) no_fields)) ∷ []) (at 2 []) ≡ done (list_value 0) (at 0 (with_object (of_list (a ∷ b ∷ [])) []))
names_in_order = refl

no_fields_there : call (codes "dir") (int 1 ∷ []) (at 0 []) ≡ done (list_value 0) (at 0 (with_object (of_list []) []))
no_fields_there = refl
