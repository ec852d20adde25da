-- Members of values, pairs of dicts, and new lists and dicts: what is held stays so.
use Rattle.std.proofs.Common.{◌≡◌, ℤ, Bool, true, false, ◌||◌, if◌then◌else◌, List, [], ◌∷◌, ◌++◌, map, take, drop, remove, slice_get, slice_set, ℕ, zero, suc, Option, Some, None, refl, ap, ◌∙◌}
use Rattle.std.proofs.lemmas.Bool.{or_parts}
use Rattle.ytt_base.specs.declared.fault.FaultKind.TheVariants as kind
use Rattle.ytt_base.specs.declared.fault.Place.{Place}
use Rattle.code_spec.specs.Options.{further}
use Rattle.star_spec.specs.Held.{HeldValue, HeldValues, HeldNumbers, HeldList, has_equal_key, HeldPairs, HeldStore}
use Rattle.value_spec.specs.Keys.{same_key, place_of_key}
use Rattle.value_spec.specs.Members.{keys_in, members_in}
use Rattle.value_spec.specs.Outcomes.{or_fail, ◌>>=◌, reads, new_list, new_dict}
use Rattle.value_spec.specs.Store.{object_at, list_at, pairs_at, with_value, with_pair, put_pair, put_pairs, value_of_pair, value_at_place, value_of_key}
use Rattle.value_spec.specs.Values.{Value, int_value, tuple_value, range_value, list_value, dict_value, Values, no_values, a_value, values_in, values_from, of_list, of_dict, Store}
use Rattle.star_spec.proofs.Keeping.{IfFound, found_one, Keeps, keeps_then, keeps_give, keeps_or_fail, keeps_reads, keeps_new_object, object_held, list_held, pairs_held}

-- ---- lists of values

pub in_values : (vs : Values) → HeldValues vs → HeldList (values_in vs)
in_values no_values h = tt
in_values (a_value v vs) h = (h.0, in_values vs h.1)

pub from_values : (vs : List Value) → HeldList vs → HeldValues (values_from vs)
from_values [] h = tt
from_values (v ∷ vs) h = (h.0, from_values vs h.1)

pub more_held : (vs ws : List Value) → HeldList vs → HeldList ws → HeldList (vs ++ ws)
more_held [] ws h k = k
more_held (v ∷ vs) ws h k = (h.0, more_held vs ws h.1 k)

pub first_members : (n : ℕ) (vs : List Value) → HeldList vs → HeldList (take n vs)
first_members zero vs h = tt
first_members (suc n) [] h = tt
first_members (suc n) (v ∷ vs) h = (h.0, first_members n vs h.1)

pub last_members : (n : ℕ) (vs : List Value) → HeldList vs → HeldList (drop n vs)
last_members zero vs h = h
last_members (suc n) [] h = tt
last_members (suc n) (v ∷ vs) h = last_members n vs h.1

pub member_held : (vs : List Value) (i : ℕ) → HeldList vs → IfFound HeldValue (slice_get vs i)
member_held [] i h = tt
member_held (v ∷ vs) zero h = h.0
member_held (v ∷ vs) (suc i) h = member_held vs i h.1

numbers_held : (zs : List ℤ) → HeldNumbers zs → HeldList (map int_value zs)
numbers_held [] h = tt
numbers_held (z ∷ zs) h = (h.0, numbers_held zs h.1)

keys_held : (ps : List (Value × Value)) → HeldPairs ps → HeldList (keys_in ps)
keys_held [] h = tt
keys_held (p ∷ ps) h = (h.0, keys_held ps h.3)

pub members_held : (store : Store) (v : Value) → HeldStore store → HeldValue v → IfFound HeldList (members_in store v)
members_held store (tuple_value vs) h k = in_values vs k
members_held store (list_value r) h k = list_held (object_at r store) (object_held store r h)
members_held store (dict_value r) h k = keys_held (pairs_at r store) (pairs_held (object_at r store) (object_held store r h))
members_held store (range_value a b d) h k = numbers_held _ k
members_held store _ h k = tt

pub members_keep : {H : Type 0} (p : Place) (v : Value) → HeldValue v → Keeps {H = H} HeldList (reads (λ store. members_in store v) >>= or_fail kind.ValueKind p)
members_keep p v h = keeps_then (keeps_reads {P = IfFound HeldList} (λ store. members_in store v) (λ store k. members_held store v k h)) (λ o k. keeps_or_fail kind.ValueKind p o (λ vs e. found_one HeldList o vs k e))

pub list_keeps : {H : Type 0} (r : ℕ) → Keeps {H = H} HeldList (reads (list_at r))
list_keeps r = keeps_reads (list_at r) (λ store h. list_held (object_at r store) (object_held store r h))

pub pairs_keep : {H : Type 0} (r : ℕ) → Keeps {H = H} HeldPairs (reads (pairs_at r))
pairs_keep r = keeps_reads (pairs_at r) (λ store h. pairs_held (object_at r store) (object_held store r h))

-- ---- dicts

-- the pairs with one more, none of whose keys stands twice
abbrev Avoids : Value → List (Value × Value) → Type 0
Avoids k ps = has_equal_key k ps ≡ false

no_either : (a b c : Bool) → (a || b) ≡ false → (b ≡ false → c ≡ false) → (a || c) ≡ false
no_either true b c h k = cc
no_either false b c h k = k h

appended_avoids : (x k v : Value) (ps : List (Value × Value)) → has_equal_key x ps ≡ false → same_key x k ≡ false → has_equal_key x (ps ++ (k, v) ∷ []) ≡ false
appended_avoids x k v [] h e = ap (λ b. b || false) e
appended_avoids x k v (p ∷ ps) h e = no_either (same_key x p.0) (has_equal_key x ps) (has_equal_key x (ps ++ (k, v) ∷ [])) h (λ g. appended_avoids x k v ps g e)

not_there : (k : Value) (p : Value × Value) (ps : List (Value × Value)) → (if same_key p.0 k then Some 0 else further (place_of_key k ps)) ≡ None → (same_key p.0 k ≡ false) × (place_of_key k ps ≡ None)
not_there k p ps h = by_test (same_key p.0 k) (place_of_key k ps) h
  where
    by_test : (b : Bool) (o : Option ℕ) → (if b then Some 0 else further o) ≡ None → (b ≡ false) × (o ≡ None)
    by_test true o h = cc
    by_test false None h = (refl, refl)
    by_test false (Some n) h = cc

appended_held : (k v : Value) (ps : List (Value × Value)) → place_of_key k ps ≡ None → HeldValue k → HeldValue v → HeldPairs ps → HeldPairs (ps ++ (k, v) ∷ [])
appended_held k v [] e key value h = (key, value, refl, tt)
appended_held k v (p ∷ ps) e key value h = let none = not_there k p ps e in (h.0, h.1, appended_avoids p.0 k v ps h.2 none.0, appended_held k v ps none.1 key value h.3)

replaced_avoids : (x v : Value) (ps : List (Value × Value)) (i : ℕ) (p : Value × Value) → slice_get ps i ≡ Some p → has_equal_key x (slice_set ps i (p.0, v)) ≡ has_equal_key x ps
replaced_avoids x v [] i p e = cc
replaced_avoids x v (q ∷ qs) zero p e = let same : q ≡ p = cc in rw same refl
replaced_avoids x v (q ∷ qs) (suc i) p e = ap (λ b. same_key x q.0 || b) (replaced_avoids x v qs i p e)

replaced_held : (v : Value) (ps : List (Value × Value)) (i : ℕ) (p : Value × Value) → slice_get ps i ≡ Some p → HeldValue v → HeldPairs ps → HeldPairs (slice_set ps i (p.0, v))
replaced_held v [] i p e k h = tt
replaced_held v (q ∷ qs) zero p e k h = let same : q ≡ p = cc in rw (← same) (h.0, k, h.2, h.3)
replaced_held v (q ∷ qs) (suc i) p e k h = (h.0, h.1, replaced_avoids q.0 v qs i p e ∙ h.2, replaced_held v qs i p e k h.3)

with_value_held : (v : Value) (ps : List (Value × Value)) (i : ℕ) (o : Option (Value × Value)) → slice_get ps i ≡ o → HeldValue v → HeldPairs ps → HeldPairs (with_value v ps i o)
with_value_held v ps i None e k h = h
with_value_held v ps i (Some p) e k h = replaced_held v ps i p e k h

with_pair_held : (k v : Value) (ps : List (Value × Value)) (o : Option ℕ) → place_of_key k ps ≡ o → HeldValue k → HeldValue v → HeldPairs ps → HeldPairs (with_pair k v ps o)
with_pair_held k v ps None e key value h = appended_held k v ps e key value h
with_pair_held k v ps (Some i) e key value h = with_value_held v ps i (slice_get ps i) refl value h

pub put_pair_held : (k v : Value) (ps : List (Value × Value)) → HeldValue k → HeldValue v → HeldPairs ps → HeldPairs (put_pair k v ps)
put_pair_held k v ps key value h = with_pair_held k v ps (place_of_key k ps) refl key value h

-- pairs of what the program holds, whose keys may stand twice
abbrev pub BothHeld : List (Value × Value) → Type 0
BothHeld [] = Unit {0}
BothHeld (p ∷ ps) = HeldValue p.0 × HeldValue p.1 × BothHeld ps

pub of_pairs : (ps : List (Value × Value)) → HeldPairs ps → BothHeld ps
of_pairs [] h = tt
of_pairs (p ∷ ps) h = (h.0, h.1, of_pairs ps h.3)

pub put_pairs_held : (ps ms : List (Value × Value)) → HeldPairs ps → BothHeld ms → HeldPairs (put_pairs ps ms)
put_pairs_held ps [] h k = h
put_pairs_held ps (m ∷ ms) h k = put_pairs_held (put_pair m.0 m.1 ps) ms (put_pair_held m.0 m.1 ps k.0 k.1 h) k.2

-- without the pair at a place
cut_avoids : (x : Value) (ps : List (Value × Value)) (i : ℕ) → has_equal_key x ps ≡ false → has_equal_key x (remove ps i) ≡ false
cut_avoids x [] zero e = e
cut_avoids x [] (suc i) e = e
cut_avoids x (p ∷ ps) zero e = (or_parts (same_key x p.0) (has_equal_key x ps) e).1
cut_avoids x (p ∷ ps) (suc i) e = no_either (same_key x p.0) (has_equal_key x ps) (has_equal_key x (remove ps i)) e (cut_avoids x ps i)

pub cut_held : (ps : List (Value × Value)) (i : ℕ) → HeldPairs ps → HeldPairs (remove ps i)
cut_held [] zero h = tt
cut_held [] (suc i) h = tt
cut_held (p ∷ ps) zero h = h.3
cut_held (p ∷ ps) (suc i) h = (h.0, h.1, cut_avoids p.0 ps i h.2, cut_held ps i h.3)

-- ---- the value of a key

pair_value_held : (ps : List (Value × Value)) (i : ℕ) → BothHeld ps → IfFound HeldValue (value_of_pair (slice_get ps i))
pair_value_held [] i h = tt
pair_value_held (p ∷ ps) zero h = h.1
pair_value_held (p ∷ ps) (suc i) h = pair_value_held ps i h.2

pub key_value_held : (k : Value) (ps : List (Value × Value)) → BothHeld ps → IfFound HeldValue (value_of_key k ps)
key_value_held k ps h = by (place_of_key k ps) where
  by : (o : Option ℕ) → IfFound HeldValue (value_at_place ps o)
  by None = tt
  by (Some i) = pair_value_held ps i h

-- ---- new objects

pub new_list_keeps : {H : Type 0} (vs : List Value) → HeldList vs → Keeps {H = H} HeldValue (new_list vs)
new_list_keeps vs h = keeps_then (keeps_new_object (of_list vs) h) (λ r u. keeps_give (list_value r) tt)

pub new_dict_keeps : {H : Type 0} (ps : List (Value × Value)) → HeldPairs ps → Keeps {H = H} HeldValue (new_dict ps)
new_dict_keeps ps h = keeps_then (keeps_new_object (of_dict ps) h) (λ r u. keeps_give (dict_value r) tt)
