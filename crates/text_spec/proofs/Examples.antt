-- Methods, `%`, `format` and `repr` whose answers and steps are computed.
use Rattle.std.proofs.Common.{◌≡◌, ℕ, pos, negsuc, true, false, List, [], ◌∷◌, refl, codes}
use Rattle.std.specs.Fmt.{digits}
use Rattle.ytt_base.specs.declared.fault.FaultKind.{FaultKind}
use Rattle.ytt_base.specs.declared.fault.FaultKind.TheVariants as kind
use Rattle.ytt_base.specs.Outcomes.{fault_at, first_place}
use Rattle.code_spec.specs.Code.{Name}
use Rattle.operator_spec.specs.Operators.{tuple_of}
use Rattle.value_spec.specs.Outcomes.{State, done, bad, Computation, fail_with}
use Rattle.value_spec.specs.Store.{with_object}
use Rattle.value_spec.specs.Values.{Value, none_value, bool_value, int_value, text_value, range_value, list_value, dict_value, values_from, Fields, no_fields, a_field, arguments, Store, of_list, of_dict}
use Rattle.text_spec.specs.Methods.{text_method}
use Rattle.text_spec.specs.Percent.{percent_row}
use Rattle.text_spec.specs.Shown.{repr_of, str_of}

abbrev at : ℕ → Store → State (Unit {0})
at n store = record { store = store; steps = n; host = tt }

abbrev int : ℕ → Value
int n = int_value (pos n)

abbrev word : List ℕ → Value
word t = text_value t

abbrev call : List ℕ → Name → List Value → Computation (Unit {0}) Value
call t x vs = text_method first_place x t (arguments (values_from vs) no_fields)

abbrev call_with : List ℕ → Name → List Value → Fields → Computation (Unit {0}) Value
call_with t x vs fs = text_method first_place x t (arguments (values_from vs) fs)

-- where so many steps are left, and all are taken
abbrev gives : ℕ → Computation (Unit {0}) Value → Value → Type 0
gives n m v = m (at n []) ≡ done v (at 0 [])

-- a new list of these texts
abbrev lists : ℕ → Computation (Unit {0}) Value → List Value → Type 0
lists n m vs = m (at n []) ≡ done (list_value 0) (at 0 (with_object (of_list vs) []))

-- and no step is taken
abbrev refuses : Computation (Unit {0}) Value → FaultKind → Type 0
refuses m k = m (at 0 []) ≡ bad (fault_at k first_place) (at 0 [])

-- ---- searches

found_first : gives 0 (call (codes "abcab") (codes "find") (word (codes "ab") ∷ [])) (int 0)
found_first = refl

found_last : gives 0 (call (codes "abcab") (codes "rfind") (word (codes "ab") ∷ [])) (int 3)
found_last = refl

found_nowhere : gives 0 (call (codes "abc") (codes "find") (word (codes "x") ∷ [])) (int_value (negsuc 0))
found_nowhere = refl

not_there : refuses (call (codes "abc") (codes "index") (word (codes "x") ∷ [])) kind.KeyMissing
not_there = refl

from_a_place : gives 0 (call (codes "abcab") (codes "find") (word (codes "ab") ∷ int 1 ∷ [])) (int 3)
from_a_place = refl

by_its_name : gives 0 (call_with (codes "abcab") (codes "find") (word (codes "ab") ∷ []) (a_field (codes "end") (int_value (negsuc 0)) no_fields)) (int 0)
by_its_name = refl

counted_apart : gives 0 (call (codes "aaaa") (codes "count") (word (codes "aa") ∷ [])) (int 2)
counted_apart = refl

-- an empty text stands at each bound of a character: of two characters, of which the first has two bytes, there are three
bounds_counted : gives 0 (call (195 ∷ 169 ∷ 98 ∷ []) (codes "count") (word [] ∷ [])) (int 3)
bounds_counted = refl

bound_behind : gives 0 (call (195 ∷ 169 ∷ []) (codes "find") (word [] ∷ int 1 ∷ [])) (int 2)
bound_behind = refl

behind_the_text : gives 0 (call (codes "ab") (codes "find") (word [] ∷ int 3 ∷ [])) (int_value (negsuc 0))
behind_the_text = refl

-- 16 bytes are one step
one_step : gives 1 (call (codes "0123456789abcd") (codes "find") (word (codes "cd") ∷ [])) (int 12)
one_step = refl

starts_with_one : gives 2 (call (codes "abc") (codes "startswith") (tuple_of (word (codes "x") ∷ word (codes "ab") ∷ []) ∷ [])) (bool_value true)
starts_with_one = refl

no_text : refuses (call (codes "abc") (codes "startswith") (int 1 ∷ [])) kind.ValueKind
no_text = refl

-- ---- pieces

split_up : lists 4 (call (codes "a,b,,c") (codes "split") (word (codes ",") ∷ [])) (word (codes "a") ∷ word (codes "b") ∷ word [] ∷ word (codes "c") ∷ [])
split_up = refl

split_once : lists 2 (call (codes "a,b,c") (codes "split") (word (codes ",") ∷ int 1 ∷ [])) (word (codes "a") ∷ word (codes "b,c") ∷ [])
split_once = refl

split_back_once : lists 2 (call (codes "a,b,c") (codes "rsplit") (word (codes ",") ∷ int 1 ∷ [])) (word (codes "a,b") ∷ word (codes "c") ∷ [])
split_back_once = refl

split_words : lists 2 (call (codes " a  b ") (codes "split") []) (word (codes "a") ∷ word (codes "b") ∷ [])
split_words = refl

split_one_word : lists 2 (call (codes " a  b ") (codes "split") (none_value ∷ int 1 ∷ [])) (word (codes "a") ∷ word (codes "b ") ∷ [])
split_one_word = refl

split_last_word : lists 2 (call (codes " a  b ") (codes "rsplit") (none_value ∷ int 1 ∷ [])) (word (codes " a") ∷ word (codes "b") ∷ [])
split_last_word = refl

empty_separator : refuses (call (codes "ab") (codes "split") (word [] ∷ [])) kind.ValueKind
empty_separator = refl

in_lines : lists 3 (call (97 ∷ 13 ∷ 10 ∷ 98 ∷ 13 ∷ 99 ∷ 10 ∷ []) (codes "splitlines") []) (word (codes "a") ∷ word (codes "b") ∷ word (codes "c") ∷ [])
in_lines = refl

lines_with_ends : lists 2 (call (97 ∷ 13 ∷ 10 ∷ 98 ∷ []) (codes "splitlines") (bool_value true ∷ [])) (word (97 ∷ 13 ∷ 10 ∷ []) ∷ word (codes "b") ∷ [])
lines_with_ends = refl

parted : gives 3 (call (codes "a=b=c") (codes "partition") (word (codes "=") ∷ [])) (tuple_of (word (codes "a") ∷ word (codes "=") ∷ word (codes "b=c") ∷ []))
parted = refl

parted_back : gives 3 (call (codes "abc") (codes "rpartition") (word (codes "=") ∷ [])) (tuple_of (word [] ∷ word [] ∷ word (codes "abc") ∷ []))
parted_back = refl

-- ---- texts

replaced : gives 0 (call (codes "aaa") (codes "replace") (word (codes "aa") ∷ word (codes "b") ∷ [])) (word (codes "ba"))
replaced = refl

replaced_at_bounds : gives 0 (call (codes "abc") (codes "replace") (word [] ∷ word (codes "-") ∷ [])) (word (codes "-a-b-c-"))
replaced_at_bounds = refl

replaced_twice : gives 0 (call (codes "abc") (codes "replace") (word [] ∷ word (codes "-") ∷ int 2 ∷ [])) (word (codes "-a-bc"))
replaced_twice = refl

joined : gives 2 (call (codes ", ") (codes "join") (tuple_of (word (codes "a") ∷ word (codes "b") ∷ []) ∷ [])) (word (codes "a, b"))
joined = refl

no_numbers : refuses (call (codes ",") (codes "join") (range_value (pos 0) (pos 3) (pos 1) ∷ [])) kind.ValueKind
no_numbers = refl

stripped : gives 0 (call (codes "--x-") (codes "strip") (word (codes "-") ∷ [])) (word (codes "x"))
stripped = refl

stripped_characters : gives 0 (call (195 ∷ 169 ∷ 120 ∷ 195 ∷ 168 ∷ []) (codes "strip") (word (195 ∷ 169 ∷ []) ∷ [])) (word (120 ∷ 195 ∷ 168 ∷ []))
stripped_characters = refl

stripped_white : gives 0 (call (32 ∷ 11 ∷ 120 ∷ 10 ∷ []) (codes "rstrip") []) (word (32 ∷ 11 ∷ 120 ∷ []))
stripped_white = refl

capital : gives 1 (call (codes "hELLO wORLD") (codes "capitalize") []) (word (codes "Hello world"))
capital = refl

no_capital_beyond : gives 0 (call (195 ∷ 169 ∷ 65 ∷ []) (codes "lower") []) (word (195 ∷ 169 ∷ 97 ∷ []))
no_capital_beyond = refl

no_letter_beyond : gives 0 (call (195 ∷ 169 ∷ []) (codes "isalpha") []) (bool_value false)
no_letter_beyond = refl

too_many : refuses (call (codes "a") (codes "lower") (int 1 ∷ [])) kind.ArgBind
too_many = refl

-- ---- `%`, `format`

percent : gives 2 (percent_row first_place (codes "%d-%s") (tuple_of (int 3 ∷ word (codes "x") ∷ []))) (word (codes "3-x"))
unfolding digits
percent = refl

no_integer : refuses (percent_row first_place (codes "%d") (word (codes "x"))) kind.ValueKind
no_integer = refl

of_floats : refuses (percent_row first_place (codes "%f") (int 1)) kind.FloatRefused
of_floats = refl

first_fault : refuses (percent_row first_place (codes "%d %f") (word (codes "x"))) kind.ValueKind
first_fault = refl

too_few : refuses (percent_row first_place (codes "%s%s") (int 1)) kind.ValueKind
too_few = refl

left_over : refuses (percent_row first_place (codes "%s") (tuple_of (int 1 ∷ int 2 ∷ []))) kind.ValueKind
left_over = refl

in_bases : gives 4 (percent_row first_place (codes "%x %X %o%%") (tuple_of (int 255 ∷ int 255 ∷ int_value (negsuc 7) ∷ []))) (word (codes "ff FF -10%"))
unfolding digits
in_bases = refl

formatted : gives 0 (call (codes "{}/{}") (codes "format") (int 1 ∷ int 2 ∷ [])) (word (codes "1/2"))
unfolding digits
formatted = refl

by_names : gives 1 (call_with (codes "{{{a}}}{b!r}") (codes "format") [] (a_field (codes "b") (word (codes "x")) (a_field (codes "a") (int 1) no_fields))) (word (codes "{1}\"x\""))
unfolding digits
by_names = refl

mixed : refuses (call (codes "{0}{}") (codes "format") (int 1 ∷ [])) kind.ValueKind
mixed = refl

no_such_place : refuses (call (codes "{1}") (codes "format") (int 1 ∷ [])) kind.IndexRange
no_such_place = refl

no_such_name : call (codes "{x}") (codes "format") [] (at 0 []) ≡ fail_with kind.KeyMissing first_place (codes "x") (at 0 [])
no_such_name = refl

lone_brace : refuses (call (codes "a}") (codes "format") []) kind.ValueKind
lone_brace = refl

-- ---- `repr`

shown : repr_of first_place (tuple_of (word (97 ∷ 34 ∷ 10 ∷ 1 ∷ []) ∷ [])) (at 1 []) ≡ done (codes "(\"a\\\"\\n\\x01\",)") (at 0 [])
shown = refl

shown_dict : repr_of first_place (dict_value 0) (at 1 (with_object (of_dict ((word (codes "a"), none_value) ∷ [])) [])) ≡ done (codes "{\"a\": None}") (at 0 (with_object (of_dict ((word (codes "a"), none_value) ∷ [])) []))
shown_dict = refl

shown_range : repr_of first_place (range_value (pos 0) (pos 9) (pos 2)) (at 5 []) ≡ done (codes "range(0, 9, 2)") (at 0 [])
unfolding digits
shown_range = refl

-- a list that holds itself
holds_itself : repr_of first_place (list_value 0) (at 100 (with_object (of_list (list_value 0 ∷ [])) [])) ≡ bad (fault_at kind.TooDeep first_place) (at 0 (with_object (of_list (list_value 0 ∷ [])) []))
holds_itself = refl

itself : str_of first_place (word (codes "a\"b")) (at 0 []) ≡ done (codes "a\"b") (at 0 [])
itself = refl
