-- An index and a slice give what the program holds, and a value in the place of a member leaves such a store.
use Rattle.std.proofs.Common.{◌≡◌, ℕ, zero, suc, ◌+◌, ◌-◌, ◌<◌, nat_lt, Bool, true, false, if◌then◌else◌, List, [], length, slice_get, Option, Some, None, option_and_then, refl, arith, ltb-true}
use Rattle.std.specs.Prelude.{ℤ, pos, negsuc, ◌+ℤ◌}
use Rattle.ytt_base.specs.declared.fault.FaultKind.{FaultKind}
use Rattle.ytt_base.specs.declared.fault.FaultKind.TheVariants as kind
use Rattle.ytt_base.specs.declared.fault.Place.{Place}
use Rattle.ytt_base.specs.Trees.{Scalar, max_depth}
use Rattle.code_spec.specs.Program.{document_item, pair_item, element_item}
use Rattle.index_spec.specs.Index.{place_among, member_at, nth_number, number_at, character_at, found_value, value_under, other_key, absent_field, field_of, as_scalar, has_key, body_under, body_at, child_count, found_body, entry_of, element_at, by_place, index_row, set_member_at, set_index_row}
use Rattle.index_spec.specs.KeyTexts.{key_text}
use Rattle.index_spec.specs.Slices.{Cut, has_bounds, Places, places_of, place_count, and_more, picked, members_cut, text_slice, members_slice, give_tuple, cut_row, slice_row}
use Rattle.operator_spec.specs.Equality.{named_values}
use Rattle.operator_spec.specs.Operators.{tuple_of}
use Rattle.star_spec.specs.Held.{HeldValue, HeldFields, HeldChildren, HeldBody, HeldList}
use Rattle.value_spec.specs.Keys.{key_offence, text_cost}
use Rattle.value_spec.specs.Members.{as_int, as_text}
use Rattle.value_spec.specs.Numbers.{range_count, at_least_zero}
use Rattle.value_spec.specs.Outcomes.{Computation, fail, or_fail}
use Rattle.value_spec.specs.Store.{value_of_key}
use Rattle.value_spec.specs.Values.{Value, text_value, tuple_value, range_value, struct_value, fragment_value, list_value, dict_value, values_in, Fields, no_fields, a_field, child, Children, no_children, a_child, Body}
use Rattle.star_spec.proofs.ActsKeep.{dict_put_keeps, list_set_keeps}
use Rattle.star_spec.proofs.CutsHeld.{cut_keeps, bytes_keep}
use Rattle.star_spec.proofs.FreshKeeps.{body_value_keeps}
use Rattle.star_spec.proofs.Keeping.{IfFound, found_if, found_one, Keeps, Anything, keeps_then, keeps_give, keeps_fail, keeps_or_fail, keeps_need, keeps_paid, may_change_keeps}
use Rattle.star_spec.proofs.MembersHeld.{BothHeld, in_values, from_values, key_value_held, list_keeps, member_held, of_pairs, pairs_keep, new_list_keeps}
use Rattle.star_spec.proofs.RangesHeld.{number_held}
use Rattle.star_spec.proofs.RowsHeld.{keeps_one, measured_keeps}

found_there : {A B : Type 0} (P : B → Type 0) (f : A → Option B) (o : Option A) → ((a : A) → IfFound P (f a)) → IfFound P (option_and_then f o)
found_there P f None h = tt
found_there P f (Some a) h = h a

-- ---- members

member_keeps : {H : Type 0} (p : Place) (vs : List Value) (z : ℤ) → HeldList vs → Keeps {H = H} HeldValue (member_at p vs z)
member_keeps p vs z h =
    keeps_or_fail kind.IndexRange p (option_and_then (slice_get vs) (place_among (length vs) z))
    (λ v e. found_one HeldValue _ v (found_there HeldValue (slice_get vs) (place_among (length vs) z) (λ i. member_held vs i h)) e)

-- ---- places

place_below : (n : ℕ) (z : ℤ) → IfFound (λ i. i < n) (place_among n z)
place_below n (pos i) = by (nat_lt i n) refl
  where
    by : (b : Bool) → nat_lt i n ≡ b → IfFound (λ i. i < n) (if b then Some i else None)
    by true e = ltb-true i n e
    by false e = tt
place_below n (negsuc i) = by (nat_lt i n) refl
  where
    by : (b : Bool) → nat_lt i n ≡ b → IfFound (λ i. i < n) (if b then Some (n - suc i) else None)
    by true e = let below : i < n = ltb-true i n e in omega arith
    by false e = tt

place_keeps : {H : Type 0} (p : Place) (n : ℕ) (z : ℤ) → Keeps {H = H} (λ i. i < n) (or_fail kind.IndexRange p (place_among n z))
place_keeps p n z = keeps_or_fail kind.IndexRange p (place_among n z) (λ i e. found_one (λ i. i < n) (place_among n z) i (place_below n z) e)

number_keeps : {H : Type 0} (p : Place) (a b d z : ℤ) → HeldValue (range_value a b d) → Keeps {H = H} HeldValue (number_at p a b d z)
number_keeps p a b d z h =
    keeps_then (place_keeps p (range_count a b d) z) (λ i below. keeps_give (nth_number a d i) (number_held (range_count a b d) a d i below h))

-- ---- characters

character_keeps : {H : Type 0} (p : Place) (t : List ℕ) (z : ℤ) → HeldValue (text_value t) → Keeps {H = H} HeldValue (character_at p t z)
character_keeps p t z h =
    keeps_then (place_keeps p (length t) z) (λ i below. keeps_then (cut_keeps p t i (suc i) h) (λ c k. keeps_give (text_value c) k))

-- ---- keys

found_keeps : {H : Type 0} (p : Place) (k : Value) (o : Option Value) → IfFound HeldValue o → Keeps {H = H} HeldValue (found_value p k o)
found_keeps p k None h = keeps_fail kind.KeyMissing p (key_text k)
found_keeps p k (Some v) h = keeps_give v h

under_keeps : {H : Type 0} (p : Place) (k : Value) (ps : List (Value × Value)) → BothHeld ps → Keeps {H = H} HeldValue (value_under p k ps)
under_keeps p k ps h = found_keeps p k (value_of_key k ps) (key_value_held k ps h)

other_keeps : {H : Type 0} (p : Place) (k : Value) → Keeps {H = H} HeldValue (other_key p k)
other_keeps p k = keeps_then (measured_keeps 5 p k) (λ u g. keeps_fail kind.KeyMissing p (key_text k))

of_fields : (fs : Fields) → HeldFields fs → BothHeld (named_values fs)
of_fields no_fields h = tt
of_fields (a_field x v fs) h = (h.0, h.1, of_fields fs h.2)

absent_keeps : {H : Type 0} (p : Place) (k : Value) (o : Option FaultKind) → Keeps {H = H} HeldValue (absent_field p k o)
absent_keeps p k None = keeps_fail kind.KeyMissing p (key_text k)
absent_keeps p k (Some offence) = keeps_fail offence p []

field_keeps : {H : Type 0} (p : Place) (fs : Fields) (k : Value) → HeldFields fs → Keeps {H = H} HeldValue (field_of p fs k)
field_keeps p fs k h =
    keeps_one HeldValue (as_text k) (λ x. value_under p k (named_values fs)) (absent_field p k (key_offence max_depth k))
    (λ x e. under_keeps p k (named_values fs) (of_fields fs h)) (absent_keeps p k (key_offence max_depth k))

-- ---- members of fragments

under_held : (x : Scalar) (cs : Children) → HeldChildren cs → IfFound HeldBody (body_under x cs)
under_held x no_children h = tt
under_held x (a_child (child q ns y b) cs) h = found_if HeldBody (has_key x y) (Some b) (body_under x cs) h.0.1 (under_held x cs h.1)

body_at_held : (n : ℕ) (cs : Children) → HeldChildren cs → IfFound HeldBody (body_at n cs)
body_at_held n no_children h = tt
body_at_held zero (a_child (child q ns y b) cs) h = h.0.1
body_at_held (suc n) (a_child (child q ns y b) cs) h = body_at_held n cs h.1

found_body_keeps : {H : Type 0} (p : Place) (k : Value) (o : Option Body) → IfFound HeldBody o → Keeps {H = H} HeldValue (found_body p k o)
found_body_keeps p k None h = keeps_fail kind.KeyMissing p (key_text k)
found_body_keeps p k (Some b) h = body_value_keeps p b h

entry_keeps : {H : Type 0} (p : Place) (cs : Children) (k : Value) → HeldChildren cs → Keeps {H = H} HeldValue (entry_of p cs k)
entry_keeps p cs k h =
    keeps_one HeldValue (as_scalar k) (λ x. found_body p k (body_under x cs)) (other_key p k)
    (λ x e. found_body_keeps p k (body_under x cs) (under_held x cs h)) (other_keeps p k)

elements_held : (cs : Children) (z : ℤ) → HeldChildren cs → IfFound HeldBody (option_and_then (λ i. body_at i cs) (place_among (child_count cs) z))
elements_held cs z h = found_there HeldBody (λ i. body_at i cs) (place_among (child_count cs) z) (λ i. body_at_held i cs h)

element_keeps : {H : Type 0} (p : Place) (cs : Children) (z : ℤ) → HeldChildren cs → Keeps {H = H} HeldValue (element_at p cs z)
element_keeps p cs z h =
    keeps_then (keeps_or_fail kind.IndexRange p (option_and_then (λ i. body_at i cs) (place_among (child_count cs) z)) (λ b e. found_one HeldBody _ b (elements_held cs z h) e))
    (body_value_keeps p)

-- ---- an index of all kinds

placed_keeps : {H : Type 0} (p : Place) (f : ℤ → Computation H Value) (i : Value) → ((z : ℤ) → Keeps HeldValue (f z)) → Keeps HeldValue (by_place p f i)
placed_keeps p f i h = keeps_one HeldValue (as_int i) f (fail kind.ValueKind p) (λ z e. h z) (keeps_fail kind.ValueKind p [])

pub index_keeps : {H : Type 0} (p : Place) (x i : Value) → HeldValue x → HeldValue i → Keeps {H = H} HeldValue (index_row p x i)
index_keeps p (tuple_value vs) i h k = placed_keeps p (member_at p (values_in vs)) i (λ z. member_keeps p (values_in vs) z (in_values vs h))
index_keeps p (list_value r) i h k = placed_keeps p _ i (λ z. keeps_then (list_keeps r) (λ vs g. member_keeps p vs z g))
index_keeps p (range_value a b d) i h k = placed_keeps p (number_at p a b d) i (λ z. number_keeps p a b d z h)
index_keeps p (text_value t) i h k = placed_keeps p (character_at p t) i (λ z. character_keeps p t z h)
index_keeps p (dict_value r) i h k = keeps_then (measured_keeps 5 p i) (λ u t. keeps_then (pairs_keep r) (λ ps g. under_keeps p i ps (of_pairs ps g)))
index_keeps p (struct_value fs) i h k = field_keeps p fs i h.0
index_keeps p (fragment_value pair_item cs) i h k = entry_keeps p cs i h.0
index_keeps p (fragment_value element_item cs) i h k = placed_keeps p (element_at p cs) i (λ z. element_keeps p cs z h.0)
index_keeps p (fragment_value document_item cs) i h k = keeps_fail kind.ValueKind p []
index_keeps p x i h k = keeps_fail kind.ValueKind p []

-- ---- slices

more_held : (o : Option Value) (vs : List Value) → IfFound HeldValue o → HeldList vs → HeldList (and_more o vs)
more_held None vs h k = k
more_held (Some v) vs h k = (h, k)

picked_held : (vs : List Value) (n : ℕ) (z step : ℤ) → HeldList vs → HeldList (picked vs n z step)
picked_held vs zero z step h = tt
picked_held vs (suc n) z step h =
    more_held (slice_get vs (at_least_zero z)) (picked vs n (z +ℤ step) step) (member_held vs (at_least_zero z) h) (picked_held vs n (z +ℤ step) step h)

text_keeps : {H : Type 0} (p : Place) (t : List ℕ) (q : Places) → HeldValue (text_value t) → Keeps {H = H} HeldValue (text_slice p t q)
text_keeps p t q h = keeps_paid (text_cost (length t + place_count q)) p (keeps_then (bytes_keep p t q h) (λ c k. keeps_give (text_value c) k))

members_keep : {H : Type 0} (p : Place) (vs : List Value) (q : Places) (make : List Value → Computation H Value) → HeldList vs →
    ((ws : List Value) → HeldList ws → Keeps HeldValue (make ws)) → Keeps HeldValue (members_slice p vs q make)
members_keep p vs q make h k = keeps_paid (length vs + place_count q) p (k (members_cut vs q) (picked_held vs (place_count q) q.first q.step h))

cut_row_keeps : {H : Type 0} (p : Place) (x : Value) (c : Cut) → HeldValue x → Keeps {H = H} HeldValue (cut_row p x c)
cut_row_keeps p (text_value t) c h = text_keeps p t (places_of (length t) c) h
cut_row_keeps p (tuple_value vs) c h =
    members_keep p (values_in vs) (places_of (length (values_in vs)) c) give_tuple (in_values vs h) (λ ws k. keeps_give (tuple_of ws) (from_values ws k))
cut_row_keeps p (list_value r) c h = keeps_then (list_keeps r) (λ vs k. members_keep p vs (places_of (length vs) c) _ k new_list_keeps)
cut_row_keeps p x c h = keeps_fail kind.ValueKind p []

pub slice_keeps : {H : Type 0} (p : Place) (x : Value) (c : Cut) → HeldValue x → Keeps {H = H} HeldValue (slice_row p x c)
slice_keeps p x c h = keeps_then (keeps_need kind.ValueKind p (has_bounds c)) (λ u t. cut_row_keeps p x c h)

-- ---- a value in the place of a member

set_member_keeps : {H : Type 0} (p : Place) (r : ℕ) (z : ℤ) (v : Value) → HeldValue v → Keeps {H = H} Anything (set_member_at p r z v)
set_member_keeps p r z v h = keeps_then (list_keeps r) (λ vs k. keeps_then (place_keeps p (length vs) z) (λ i below. list_set_keeps p r i v h))

pub set_index_keeps : {H : Type 0} (p : Place) (x i v : Value) → HeldValue i → HeldValue v → Keeps {H = H} Anything (set_index_row p x i v)
set_index_keeps p (list_value r) i v h k =
    keeps_then (may_change_keeps p r) (λ u t.
    keeps_one Anything (as_int i) (λ z. set_member_at p r z v) (fail kind.ValueKind p) (λ z e. set_member_keeps p r z v k) (keeps_fail kind.ValueKind p []))
set_index_keeps p (dict_value r) i v h k = keeps_then (may_change_keeps p r) (λ u t. keeps_then (measured_keeps 5 p i) (λ w g. dict_put_keeps p r i v h k))
set_index_keeps p x i v h k = keeps_fail kind.ValueKind p []
