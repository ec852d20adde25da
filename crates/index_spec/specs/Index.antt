-- `x[i]`, and `x[i] = v`. A refusal of the kind or of the place comes before the steps.
use Rattle.std.specs.Prelude.{ℕ, zero, suc, ◌-◌, ℤ, pos, negsuc, ◌+ℤ◌, ◌*ℤ◌, nat_lt, nat_le, Bool, false, ◌&&◌, ◌||◌, not, List, [], ◌∷◌, length, take, drop, Option, Some, None, option_and_then, slice_get, if◌then◌else◌}
use Rattle.ytt_base.specs.declared.fault.FaultKind.{FaultKind}
use Rattle.ytt_base.specs.declared.fault.FaultKind.TheVariants as kind
use Rattle.ytt_base.specs.declared.fault.Place.{Place}
use Rattle.ytt_base.specs.Trees.{Scalar, null, boolean, integer, string, same_key, max_depth}
use Rattle.code_spec.specs.Program.{document_item, pair_item, element_item}
use Rattle.value_spec.specs.Values.{Value, none_value, bool_value, int_value, text_value, tuple_value, range_value, struct_value, fragment_value, list_value, dict_value, values_in, Fields, child, Children, no_children, a_child, Body}
use Rattle.value_spec.specs.Built.{body_paid}
use Rattle.value_spec.specs.Keys.{key_offence}
use Rattle.value_spec.specs.Outcomes.{Computation, acting, give, fail, fail_with, or_fail, reads, ◌>>=◌}
use Rattle.value_spec.specs.Members.{as_int, as_text, is_empty}
use Rattle.value_spec.specs.Numbers.{range_count}
use Rattle.value_spec.specs.Store.{dict_put, list_at, list_set, may_change, pairs_at, value_of_key}
use Rattle.operator_spec.specs.Equality.{named_values}
use Rattle.operator_spec.specs.Operators.{if_one}
use Rattle.operator_spec.specs.Order.{key_sized}
use Rattle.index_spec.specs.KeyTexts.{key_text}
use Rattle.index_spec.specs.FreshValues.{fresh_body}

-- ---- places

-- a place among so many: from 0 on, or from the end where it is negative
abbrev pub place_among : ℕ → ℤ → Option ℕ
place_among n (pos i) = if nat_lt i n then Some i else None
place_among n (negsuc i) = if nat_lt i n then Some (n - suc i) else None

abbrev pub member_at : {H : Type 0} → Place → List Value → ℤ → Computation H Value
member_at p vs z = or_fail kind.IndexRange p (option_and_then (slice_get vs) (place_among (length vs) z))

abbrev pub nth_number : (start step : ℤ) → ℕ → Value
nth_number start step i = int_value (start +ℤ (pos i *ℤ step))

abbrev pub number_at : {H : Type 0} → Place → (start stop step : ℤ) → ℤ → Computation H Value
number_at p start stop step z = or_fail kind.IndexRange p (place_among (range_count start stop step) z) >>= λ i. give (nth_number start step i)

-- ---- characters of a text

-- a byte inside a character
abbrev pub is_inner : ℕ → Bool
is_inner b = nat_le 128 b && nat_lt b 192

abbrev pub begins_inner : List ℕ → Bool
begins_inner [] = false
begins_inner (b ∷ t) = is_inner b

-- the bytes from one place to another are whole characters, or none
abbrev pub is_whole : List ℕ → (from to : ℕ) → Bool
is_whole t a b = is_empty (drop a (take b t)) || (not (begins_inner (drop a t)) && not (begins_inner (drop b t)))

abbrev pub cut_text : {H : Type 0} → Place → List ℕ → (from to : ℕ) → Computation H (List ℕ)
cut_text p t a b = if is_whole t a b then give (drop a (take b t)) else fail kind.CutsCharacter p

abbrev pub character_at : {H : Type 0} → Place → List ℕ → ℤ → Computation H Value
character_at p t z = or_fail kind.IndexRange p (place_among (length t) z) >>= λ i. cut_text p t i (suc i) >>= λ c. give (text_value c)

-- ---- keys

abbrev pub missing : {H A : Type 0} → Place → Value → Computation H A
missing p k = fail_with kind.KeyMissing p (key_text k)

abbrev pub found_value : {H : Type 0} → Place → Value → Option Value → Computation H Value
found_value p k None = missing p k
found_value p k (Some v) = give v

abbrev pub value_under : {H : Type 0} → Place → Value → List (Value × Value) → Computation H Value
value_under p k ps = found_value p k (value_of_key k ps)

-- a key of another kind takes its size, and isn't there
abbrev pub other_key : {H : Type 0} → Place → Value → Computation H Value
other_key p k = key_sized p k >>= λ u. missing p k

-- what is no key is refused, and a key of another kind isn't there
abbrev pub absent_field : {H : Type 0} → Place → Value → Option FaultKind → Computation H Value
absent_field p k None = missing p k
absent_field p k (Some offence) = fail offence p

-- the value of a name of a struct; a key takes nothing, of whatever kind and length it is
abbrev pub field_of : {H : Type 0} → Place → Fields → Value → Computation H Value
field_of p fs k = if_one (as_text k) (λ x. value_under p k (named_values fs)) (absent_field p k (key_offence max_depth k))

-- ---- members of fragments

abbrev pub as_scalar : Value → Option Scalar
as_scalar none_value = Some null
as_scalar (bool_value b) = Some (boolean b)
as_scalar (int_value z) = Some (integer z)
as_scalar (text_value t) = Some (string t)
as_scalar _ = None

abbrev pub has_key : Scalar → Option Scalar → Bool
has_key x None = false
has_key x (Some y) = same_key x y

abbrev pub body_under : Scalar → Children → Option Body
body_under x no_children = None
body_under x (a_child (child q ns y b) cs) = if has_key x y then Some b else body_under x cs

abbrev pub body_at : ℕ → Children → Option Body
body_at n no_children = None
body_at zero (a_child (child q ns y b) cs) = Some b
body_at (suc n) (a_child (child q ns y b) cs) = body_at n cs

abbrev pub child_count : Children → ℕ
child_count no_children = 0
child_count (a_child c cs) = suc (child_count cs)

-- what a member holds, which takes its size
abbrev pub body_value : {H : Type 0} → Place → Body → Computation H Value
body_value p b = body_paid p max_depth b >>= λ u. fresh_body b

abbrev pub found_body : {H : Type 0} → Place → Value → Option Body → Computation H Value
found_body p k None = missing p k
found_body p k (Some b) = body_value p b

abbrev pub entry_of : {H : Type 0} → Place → Children → Value → Computation H Value
entry_of p cs k = if_one (as_scalar k) (λ x. found_body p k (body_under x cs)) (other_key p k)

abbrev pub element_at : {H : Type 0} → Place → Children → ℤ → Computation H Value
element_at p cs z = or_fail kind.IndexRange p (option_and_then (λ i. body_at i cs) (place_among (child_count cs) z)) >>= body_value p

-- ---- all kinds

abbrev pub by_place : {H : Type 0} → Place → (ℤ → Computation H Value) → Value → Computation H Value
by_place p f i = if_one (as_int i) f (fail kind.ValueKind p)

abbrev pub index_row : {H : Type 0} → Place → (value index : Value) → Computation H Value
index_row p (tuple_value vs) i = by_place p (member_at p (values_in vs)) i
index_row p (list_value r) i = by_place p (λ z. reads (list_at r) >>= λ vs. member_at p vs z) i
index_row p (range_value start stop step) i = by_place p (number_at p start stop step) i
index_row p (text_value t) i = by_place p (character_at p t) i
index_row p (dict_value r) k = key_sized p k >>= λ u. reads (pairs_at r) >>= value_under p k
index_row p (struct_value fs) k = field_of p fs k
index_row p (fragment_value pair_item cs) k = entry_of p cs k
index_row p (fragment_value element_item cs) i = by_place p (element_at p cs) i
index_row p (fragment_value document_item cs) i = fail kind.ValueKind p
index_row p v i = fail kind.ValueKind p

-- ---- what an index gets

-- a value in the place of a member of a list
abbrev pub set_member_at : {H : Type 0} → Place → ℕ → ℤ → Value → Computation H (Unit {0})
set_member_at p r z v = do
  vs ← reads (list_at r)
  i ← or_fail kind.IndexRange p (place_among (length vs) z)
  acting p (list_set r i v)

-- It is refused first where the list or the dict can't be changed. A dict's key takes its size, and a list's place takes nothing.
abbrev pub set_index_row : {H : Type 0} → Place → (value index new : Value) → Computation H (Unit {0})
set_index_row p (list_value r) i v = acting p (may_change r) >>= λ u. if_one (as_int i) (λ z. set_member_at p r z v) (fail kind.ValueKind p)
set_index_row p (dict_value r) k v = acting p (may_change r) >>= λ u. key_sized p k >>= λ w. acting p (dict_put r k v)
set_index_row p x i v = fail kind.ValueKind p
