-- `sorted`, `min` and `max`: members in the order of their keys, which are the members themselves, or what a function gives for each.
use Rattle.std.specs.Prelude.{ℕ, zero, suc, ◌*◌, ◌/◌, ◌==◌, nat_le, Bool, true, false, ◌&&◌, List, [], ◌∷◌, length, map as each, Option, Some, None, bytes_eq, codes, is_some, if◌then◌else◌}
use Rattle.ytt_base.specs.declared.fault.FaultKind.TheVariants as kind
use Rattle.ytt_base.specs.declared.fault.Place.{Place}
use Rattle.code_spec.specs.Code.{Name}
use Rattle.operator_spec.specs.Order.{are_comparable, is_below, order, sized}
use Rattle.text_spec.specs.Signatures.{value_at}
use Rattle.value_spec.specs.Binding.{bound_values, none_for_each, parameters_named}
use Rattle.value_spec.specs.Members.{is_empty, members_in}
use Rattle.value_spec.specs.Numbers.{range_count}
use Rattle.value_spec.specs.Outcomes.{Computation, fail, give, need, new_list, or_fail, paid_by, reads, ◌>>=◌}
use Rattle.value_spec.specs.Store.{first_of}
use Rattle.value_spec.specs.Values.{Value, none_value, bool_value, range_value, function_value, native_value, values_in, Fields, no_fields, a_field, Arguments, arguments, Store}

-- what is wanted of members in the order of their keys: the first one alone, or all; and whether the greatest stands first
pub record Wanted : Type 0 where
  pub first_alone : Bool
  pub descending : Bool

-- what a call of one of the language's own functions gives: a value, or it asks a function for the key of each member
pub data Keyed : Type 0 where
  without_keys : Value → Keyed
  asks_keys : Wanted → (function : Value) → (members : List Value) → Keyed

-- ---- order

-- one of these stands in front of the first that it doesn't come behind, so equal ones keep their order
abbrev pub placed : {A : Type 0} → (comes_before : A → A → Bool) → A → List A → List A
placed before x [] = x ∷ []
placed before x (y ∷ ys) = if before y x then y ∷ placed before x ys else x ∷ y ∷ ys

abbrev pub sorted_by : {A : Type 0} → (comes_before : A → A → Bool) → List A → List A
sorted_by before [] = []
sorted_by before (x ∷ xs) = placed before x (sorted_by before xs)

-- each key with its member
abbrev pub beside : (keys members : List Value) → List (Value × Value)
beside [] vs = []
beside (k ∷ ks) [] = []
beside (k ∷ ks) (v ∷ vs) = (k, v) ∷ beside ks vs

abbrev pub comes_before : (descending : Bool) → Store → (left right : Value) → Bool
comes_before false store a b = is_below (order store a b)
comes_before true store a b = is_below (order store b a)

abbrev pub in_order : (descending : Bool) → Store → (members keys : List Value) → List Value
in_order d store vs ks = each (λ q. q.1) (sorted_by (λ q r. comes_before d store q.0 r.0) (beside ks vs))

-- ---- kinds and steps

-- all of one kind, which has an order
abbrev pub are_of_one_kind : List Value → Bool
are_of_one_kind [] = true
are_of_one_kind (v ∷ []) = are_comparable v v
are_of_one_kind (v ∷ w ∷ vs) = are_comparable v w && are_of_one_kind (w ∷ vs)

abbrev pub all_sized : {H : Type 0} → Place → List Value → Computation H (Unit {0})
all_sized p [] = give tt
all_sized p (v ∷ vs) = sized p v >>= λ u. all_sized p vs

-- how many binary digits a number has, which is at most the bound; 0 has none
abbrev pub digits_within : (bound : ℕ) → ℕ → ℕ
digits_within zero n = 0
digits_within (suc k) n = if n == 0 then 0 else suc (digits_within k (n / 2))

abbrev pub binary_digits : ℕ → ℕ
binary_digits n = digits_within n n

-- 1 for each of so many members where the first alone is wanted, and else one for each binary digit of their number
abbrev pub steps_for : Wanted → ℕ → ℕ
steps_for w n = if w.first_alone then n else n * binary_digits n

-- ---- rows

abbrev pub chosen : {H : Type 0} → Place → (first_alone : Bool) → List Value → Computation H Value
chosen p true vs = or_fail kind.ValueKind p (first_of vs)
chosen p false vs = new_list vs

-- what is wanted of members with these keys: first come the kinds of the keys and their sizes, and then the steps
abbrev pub wanted_row : {H : Type 0} → Place → Wanted → (members keys : List Value) → Computation H Value
wanted_row p w vs ks = do
  u ← need kind.ValueKind p (are_of_one_kind ks)
  s ← all_sized p ks
  ws ← paid_by (steps_for w (length vs)) p (reads (λ store. in_order w.descending store vs ks))
  chosen p w.first_alone ws

-- a range that has more members than steps are left is Steps
abbrev pub room_for : {H : Type 0} → Place → Value → Computation H (Unit {0})
room_for p (range_value start stop step) = λ s. need kind.Steps p (nat_le (range_count start stop step) s.steps) s
room_for p v = give tt

-- the members of a value, all before a key is asked for
abbrev pub members_taken : {H : Type 0} → Place → Value → Computation H (List Value)
members_taken p v = do
  u ← reads (λ store. is_some (members_in store v)) >>= need kind.ValueKind p
  s ← room_for p v
  reads (λ store. members_in store v) >>= or_fail kind.ValueKind p

-- None, or what can be called
abbrev pub is_key_function : Value → Bool
is_key_function none_value = true
is_key_function (function_value r) = true
is_key_function (native_value f) = true
is_key_function _ = false

-- members with themselves as keys, or a function is asked
abbrev pub keyed_by : {H : Type 0} → Place → Wanted → (key : Value) → (members : List Value) → Computation H Keyed
keyed_by p w none_value vs = wanted_row p w vs vs >>= λ v. give (without_keys v)
keyed_by p w f vs = give (asks_keys w f vs)

-- None, or a bool
abbrev pub is_flag : Value → Bool
is_flag none_value = true
is_flag (bool_value b) = true
is_flag _ = false

abbrev pub is_true : Value → Bool
is_true (bool_value b) = b
is_true _ = false

abbrev pub sorted_row : {H : Type 0} → Place → Arguments → Computation H Keyed
sorted_row p args = do
  os ← bound_values p (parameters_named (codes "x" ∷ []) (codes "key" ∷ codes "reverse" ∷ [])) (none_for_each (codes "key" ∷ codes "reverse" ∷ [])) args
  u ← need kind.ValueKind p (is_key_function (value_at 1 os) && is_flag (value_at 2 os))
  vs ← members_taken p (value_at 0 os)
  keyed_by p (record { first_alone = false; descending = is_true (value_at 2 os) }) (value_at 1 os) vs

-- `key`, the one argument that `min` and `max` take by name; None where it isn't given
abbrev pub key_alone : Fields → Option Value
key_alone no_fields = Some none_value
key_alone (a_field x v no_fields) = if bytes_eq x (codes "key") then Some v else None
key_alone _ = None

-- the members of one value, or two values or more
abbrev pub candidates : {H : Type 0} → Place → List Value → Computation H (List Value)
candidates p [] = fail kind.ArgBind p
candidates p (v ∷ []) = members_taken p v
candidates p vs = give vs

abbrev pub first_row : {H : Type 0} → (descending : Bool) → Place → Arguments → Computation H Keyed
first_row d p (arguments vs fs) = do
  k ← or_fail kind.ArgBind p (if is_empty (values_in vs) then None else key_alone fs)
  u ← need kind.ValueKind p (is_key_function k)
  ws ← candidates p (values_in vs)
  keyed_by p (record { first_alone = true; descending = d }) k ws

-- ---- the table

abbrev pub keyed_builtin : {H : Type 0} → Name → Option (Place → Arguments → Computation H Keyed)
keyed_builtin x =
    if bytes_eq x (codes "sorted") then Some sorted_row
    else if bytes_eq x (codes "min") then Some (first_row false)
    else if bytes_eq x (codes "max") then Some (first_row true)
    else None
