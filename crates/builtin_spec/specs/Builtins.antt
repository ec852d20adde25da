-- The language's own functions.
use Rattle.std.specs.Prelude.{ℕ, zero, suc, ◌+◌, ◌-◌, ◌*◌, min, ◌==◌, ℤ, pos, neg_ℤ, ◌+ℤ◌, nat_le, nat_lt, Bool, true, false, ◌&&◌, ◌||◌, List, [], ◌∷◌, length, reverse, drop, map as each, Option, Some, None, option_map, codes, is_some, if◌then◌else◌}
use Rattle.ytt_base.specs.declared.fault.FaultKind.TheVariants as kind
use Rattle.ytt_base.specs.declared.fault.Place.{Place}
use Rattle.builtin_spec.specs.Attributes.{attribute_of, or_missing}
use Rattle.builtin_spec.specs.Binding.{Own, is_given, own_in, taking}
use Rattle.code_spec.specs.Code.{Name}
use Rattle.operator_spec.specs.Operators.{int_of, tuple_of}
use Rattle.builtin_spec.specs.Dicts.{dict_row}
use Rattle.builtin_spec.specs.Lists.{bound_in}
use Rattle.builtin_spec.specs.Sorting.{in_order}
use Rattle.index_spec.specs.Slices.{is_bound}
use Rattle.text_spec.specs.Answers.{paid_operation}
use Rattle.text_spec.specs.Classes.{is_all, is_digit, is_letter, lower_byte}
use Rattle.text_spec.specs.Shown.{repr_of, str_of}
use Rattle.text_spec.specs.Signatures.{value_at}
use Rattle.value_spec.specs.Members.{as_int, as_text, count_in, members_in, truth_in}
use Rattle.value_spec.specs.Numbers.{fits, is_negative, is_zero}
use Rattle.value_spec.specs.Outcomes.{Computation, fail, fail_with, give, need, new_list, or_fail, paid_by, reads, ◌>>=◌}
use Rattle.value_spec.specs.Values.{Value, none_value, bool_value, int_value, text_value, tuple_value, range_value, struct_value, fragment_value, list_value, dict_value, function_value, module_value, native_value, values_in, Fields, no_fields, a_field, Arguments, arguments, Store}

-- ---- of one value

-- how many bytes a text has, or members another value
abbrev pub length_row : {H : Type 0} → Place → Value → Computation H Value
length_row p (text_value t) = int_of p (pos (length t))
length_row p v = do
  u ← reads (λ store. is_some (members_in store v)) >>= need kind.ValueKind p
  n ← reads (λ store. count_in store v)
  int_of p (pos n)

abbrev pub type_name : Value → List ℕ
type_name none_value = codes "NoneType"
type_name (bool_value b) = codes "bool"
type_name (int_value z) = codes "int"
type_name (text_value t) = codes "string"
type_name (tuple_value vs) = codes "tuple"
type_name (range_value a b d) = codes "range"
type_name (struct_value fs) = codes "struct"
type_name (fragment_value k cs) = codes "yamlfragment"
type_name (list_value r) = codes "list"
type_name (dict_value r) = codes "dict"
type_name (function_value r) = codes "function"
type_name (module_value x fs) = codes "module"
type_name (native_value f) = codes "builtin_function_or_method"

abbrev pub text_given : {H : Type 0} → Computation H (List ℕ) → Computation H Value
text_given m = m >>= λ t. give (text_value t)

abbrev pub truth_row : {H : Type 0} → Value → Computation H Value
truth_row v = reads (λ store. bool_value (truth_in store v))

-- a fault that code asks for, with the text of a value
abbrev pub failure_row : {H : Type 0} → Place → Value → Computation H Value
failure_row p v = str_of p v >>= λ t. fail_with kind.Failed p t

-- ---- members

abbrev pub members_or_none : Option (List Value) → List Value
members_or_none None = []
members_or_none (Some vs) = vs

-- the members of a value, after so many times their number of steps; ValueKind where it has none to have
abbrev pub members_paid : {H : Type 0} → (times : ℕ) → Place → Value → Computation H (List Value)
members_paid n p v = do
  u ← reads (λ store. is_some (members_in store v)) >>= need kind.ValueKind p
  k ← reads (λ store. count_in store v)
  paid_by (n * k) p (reads (λ store. members_or_none (members_in store v)))

abbrev pub list_row : {H : Type 0} → Place → Value → Computation H Value
list_row p v = members_paid 2 p v >>= new_list

abbrev pub tuple_row : {H : Type 0} → Place → Value → Computation H Value
tuple_row p v = members_paid 2 p v >>= λ vs. give (tuple_of vs)

abbrev pub reversed_row : {H : Type 0} → Place → Value → Computation H Value
reversed_row p v = members_paid 2 p v >>= λ vs. new_list (reverse vs)

abbrev pub some_true : Store → List Value → Bool
some_true store [] = false
some_true store (v ∷ vs) = truth_in store v || some_true store vs

abbrev pub all_true : Store → List Value → Bool
all_true store [] = true
all_true store (v ∷ vs) = truth_in store v && all_true store vs

abbrev pub test_row : {H : Type 0} → (Store → List Value → Bool) → Place → Value → Computation H Value
test_row test p v = members_paid 1 p v >>= λ vs. reads (λ store. bool_value (test store vs))

-- the members with their numbers, in tuples
abbrev pub numbered : ℤ → List Value → List Value
numbered z [] = []
numbered z (v ∷ vs) = tuple_of (int_value z ∷ v ∷ []) ∷ numbered (z +ℤ pos 1) vs

-- the number of the last of so many, if there is one, has 128 bits
abbrev pub last_fits : ℤ → List Value → Bool
last_fits z [] = true
last_fits z (v ∷ vs) = fits (z +ℤ pos (length vs))

-- a new list of the members with their numbers, from 0 or from a start on
abbrev pub enumerate_row : {H : Type 0} → Place → (of start : Value) → Computation H Value
enumerate_row p v start = do
  u ← need kind.ValueKind p (is_bound start)
  vs ← members_paid 2 p v
  w ← need kind.IntOverflow p (last_fits (bound_in (pos 0) start) vs)
  new_list (numbered (bound_in (pos 0) start) vs)

-- ---- several values

abbrev pub sum_of : List ℕ → ℕ
sum_of [] = 0
sum_of (n ∷ ns) = n + sum_of ns

abbrev pub least_of : List ℕ → ℕ
least_of [] = 0
least_of (n ∷ []) = n
least_of (n ∷ m ∷ ns) = min n (least_of (m ∷ ns))

-- the first member of each that has one
abbrev pub firsts : List (List Value) → List Value
firsts [] = []
firsts ([] ∷ vss) = firsts vss
firsts ((v ∷ vs) ∷ vss) = v ∷ firsts vss

-- so many tuples, each of the next member of each
abbrev pub zipped : ℕ → List (List Value) → List Value
zipped zero vss = []
zipped (suc n) vss = tuple_of (firsts vss) ∷ zipped n (each (drop 1) vss)

abbrev pub all_have_members : Store → List Value → Bool
all_have_members store [] = true
all_have_members store (v ∷ vs) = is_some (members_in store v) && all_have_members store vs

-- it takes a step for each member of its operands and of the list that it gives
abbrev pub zip_row : {H : Type 0} → Own H
zip_row p (arguments vs (a_field x v fs)) = fail kind.ArgBind p
zip_row p (arguments vs no_fields) = do
  u ← reads (λ store. all_have_members store (values_in vs)) >>= need kind.ValueKind p
  ns ← reads (λ store. each (count_in store) (values_in vs))
  ws ← paid_by (sum_of ns + least_of ns) p (reads (λ store. zipped (least_of ns) (each (λ v. members_or_none (members_in store v)) (values_in vs))))
  new_list ws

-- ---- numbers

-- what a byte is as a digit; 36 where it is none
abbrev pub digit_of : ℕ → ℕ
digit_of b = if is_digit b then b - 48 else if is_letter b then lower_byte b - 87 else 36

abbrev pub number_of : (base so_far : ℕ) → List ℕ → ℕ
number_of base n [] = n
number_of base n (b ∷ t) = number_of base (n * base + digit_of b) t

abbrev pub digits_read : (base : ℕ) → List ℕ → Option ℕ
digits_read base t = if is_all (λ b. nat_lt (digit_of b) base) t then Some (number_of base 0 t) else None

-- digits behind a sign, or without one
abbrev pub integer_read : (base : ℕ) → List ℕ → Option ℤ
integer_read base [] = None
integer_read base (b ∷ t) =
    if b == 45 then option_map (λ n. neg_ℤ (pos n)) (digits_read base t)
    else if b == 43 then option_map pos (digits_read base t)
    else option_map pos (digits_read base (b ∷ t))

abbrev pub read_row : {H : Type 0} → Place → (base : ℕ) → List ℕ → Computation H Value
read_row p base t = paid_operation p (text_value t ∷ []) 0 0 (or_fail kind.ValueKind p (integer_read base t) >>= int_of p)

abbrev pub base_of : Value → Option ℕ
base_of (int_value (pos n)) = if nat_le 2 n && nat_le n 36 then Some n else None
base_of _ = None

-- a text in a base, which is 10 where none is given; an integer, or a bool as 0 or 1
abbrev pub integer_row : {H : Type 0} → Place → (of : Value) → (given : Bool) → (base : Value) → Computation H Value
integer_row p (text_value t) true b = or_fail kind.ValueKind p (base_of b) >>= λ base. read_row p base t
integer_row p (text_value t) false b = read_row p 10 t
integer_row p (int_value z) false b = give (int_value z)
integer_row p (bool_value c) false b = give (int_value (pos (if c then 1 else 0)))
integer_row p _ given b = fail kind.ValueKind p

abbrev pub absolute_row : {H : Type 0} → Place → Value → Computation H Value
absolute_row p v = or_fail kind.ValueKind p (as_int v) >>= λ z. int_of p (if is_negative z then neg_ℤ z else z)

abbrev pub range_by : {H : Type 0} → Place → (start stop step : ℤ) → Computation H Value
range_by p a b d = if is_zero d then fail kind.ValueKind p else give (range_value a b d)

-- its bounds and its step, by their number
abbrev pub range_from : {H : Type 0} → Place → List ℤ → Computation H Value
range_from p (b ∷ []) = range_by p (pos 0) b (pos 1)
range_from p (a ∷ b ∷ []) = range_by p a b (pos 1)
range_from p (a ∷ b ∷ d ∷ []) = range_by p a b d
range_from p _ = fail kind.ArgBind p

abbrev pub integer_in_front : Option ℤ → Option (List ℤ) → Option (List ℤ)
integer_in_front (Some z) (Some zs) = Some (z ∷ zs)
integer_in_front _ _ = None

-- the integers that these are, if each is one
abbrev pub all_integers : List Value → Option (List ℤ)
all_integers [] = Some []
all_integers (v ∷ vs) = integer_in_front (as_int v) (all_integers vs)

-- one to three, and none by name
abbrev pub range_arguments : List Value → Fields → Bool
range_arguments vs no_fields = nat_le 1 (length vs) && nat_le (length vs) 3
range_arguments vs (a_field x v fs) = false

abbrev pub range_row : {H : Type 0} → Own H
range_row p (arguments vs fs) = do
  u ← need kind.ArgBind p (range_arguments (values_in vs) fs)
  zs ← or_fail kind.ValueKind p (all_integers (values_in vs))
  range_from p zs

-- ---- attributes

-- the text that a name is, or ValueKind
abbrev pub name_then : {H : Type 0} → Place → Value → (Name → Computation H Value) → Computation H Value
name_then p v f = or_fail kind.ValueKind p (as_text v) >>= f

abbrev pub has_attribute_row : {H : Type 0} → Place → (of name : Value) → Computation H Value
has_attribute_row p v x = name_then p x (λ t. give (bool_value (is_some (attribute_of v t))))

-- an attribute, or another value where there is none and one is given
abbrev pub attribute_or : {H : Type 0} → Place → Name → (given : Bool) → (otherwise : Value) → Option Value → Computation H Value
attribute_or p x given d (Some v) = give v
attribute_or p x true d None = give d
attribute_or p x false d None = or_missing p x None

abbrev pub get_attribute_row : {H : Type 0} → Place → (of name : Value) → (given : Bool) → (otherwise : Value) → Computation H Value
get_attribute_row p v x given d = name_then p x (λ t. attribute_or p t given d (attribute_of v t))

-- the names of the fields of a struct or a module, as texts
abbrev pub names_of : Fields → List Value
names_of no_fields = []
names_of (a_field x v fs) = text_value x ∷ names_of fs

abbrev pub field_names : Value → List Value
field_names (struct_value fs) = names_of fs
field_names (module_value m fs) = names_of fs
field_names _ = []

-- a new list of them in order; nothing else has any
abbrev pub field_names_row : {H : Type 0} → Place → Value → Computation H Value
field_names_row p v = paid_by (length (field_names v)) p (reads (λ store. in_order false store (field_names v) (field_names v)) >>= new_list)

-- ---- the table

-- of one value
abbrev pub of_one : {H : Type 0} → (Place → Value → Computation H Value) → Own H
of_one f = taking (codes "x" ∷ []) [] (λ p vs. f p (value_at 0 vs))

-- those that ask for no keys
abbrev pub builtins : {H : Type 0} → List (Name × Own H)
builtins =
    (codes "len", of_one length_row) ∷ (codes "str", of_one (λ p v. text_given (str_of p v))) ∷ (codes "repr", of_one (λ p v. text_given (repr_of p v)))
    ∷ (codes "type", of_one (λ p v. give (text_value (type_name v)))) ∷ (codes "bool", taking [] (codes "x" ∷ []) (λ p vs. truth_row (value_at 0 vs)))
    ∷ (codes "fail", of_one failure_row)
    ∷ (codes "list", λ p args. taking [] (codes "x" ∷ []) (λ p vs. if is_given 0 (codes "x") args then list_row p (value_at 0 vs) else new_list []) p args)
    ∷ (codes "tuple", λ p args. taking [] (codes "x" ∷ []) (λ p vs. if is_given 0 (codes "x") args then tuple_row p (value_at 0 vs) else give (tuple_of [])) p args)
    ∷ (codes "reversed", of_one reversed_row)
    ∷ (codes "any", of_one (test_row some_true)) ∷ (codes "all", of_one (test_row all_true))
    ∷ (codes "abs", of_one absolute_row) ∷ (codes "range", range_row)
    ∷ (codes "enumerate", taking (codes "x" ∷ []) (codes "start" ∷ []) (λ p vs. enumerate_row p (value_at 0 vs) (value_at 1 vs))) ∷ (codes "zip", zip_row)
    ∷ (codes "int", λ p args. taking (codes "x" ∷ []) (codes "base" ∷ []) (λ p vs. integer_row p (value_at 0 vs) (is_given 1 (codes "base") args) (value_at 1 vs)) p args)
    ∷ (codes "hasattr", taking (codes "x" ∷ codes "name" ∷ []) [] (λ p vs. has_attribute_row p (value_at 0 vs) (value_at 1 vs)))
    ∷ (codes "getattr", λ p args. taking (codes "x" ∷ codes "name" ∷ []) (codes "default" ∷ []) (λ p vs. get_attribute_row p (value_at 0 vs) (value_at 1 vs) (is_given 2 (codes "default") args) (value_at 2 vs)) p args)
    ∷ (codes "dict", dict_row) ∷ (codes "dir", of_one field_names_row)
    ∷ []

-- ---- a call

abbrev pub row_of : {H : Type 0} → Place → Option (Own H) → Arguments → Computation H Value
row_of p None args = fail kind.ValueKind p
row_of p (Some f) args = f p args

-- a function of the language
abbrev pub own_function : {H : Type 0} → Place → Name → Arguments → Computation H Value
own_function p x args = row_of p (own_in x builtins) args
