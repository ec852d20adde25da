-- What the methods of dicts give is what the program holds, and so is what they leave.
use Rattle.std.proofs.Common.{ℕ, Bool, true, false, List, [], ◌∷◌, ◌++◌, length, map as each, Option, Some, None, unwrap_or, codes}
use Rattle.ytt_base.specs.declared.fault.FaultKind.{FaultKind}
use Rattle.ytt_base.specs.declared.fault.FaultKind.TheVariants as kind
use Rattle.ytt_base.specs.declared.fault.Place.{Place}
use Rattle.ytt_base.specs.Trees.{max_depth}
use Rattle.builtin_spec.specs.Binding.{is_given}
use Rattle.builtin_spec.specs.Dicts.{value_in, get_row, listing_row, pair_value, taken_or, pop_key_row, first_taken, popitem_row, put_or, setdefault_row, pair_of, pair_in_front, all_pairs, pairs_if_any, pairs_of, pairs_given, pairs_bound, no_offence, all_keys, pairs_taken, keys_sized, field_values, put_each, update_row, dict_row, dict_methods}
use Rattle.index_spec.specs.KeyTexts.{key_text}
use Rattle.operator_spec.specs.Order.{key_sized}
use Rattle.star_spec.specs.Held.{HeldValue, HeldList, HeldPairs, HeldFields, HeldArguments, HeldStore}
use Rattle.text_spec.specs.Signatures.{value_at}
use Rattle.value_spec.specs.Binding.{text_pairs}
use Rattle.value_spec.specs.Keys.{key_offence}
use Rattle.value_spec.specs.Members.{members_in}
use Rattle.value_spec.specs.Outcomes.{Computation, ◌>>=◌}
use Rattle.value_spec.specs.Store.{object_at, pairs_at, put_pairs, value_of_key}
use Rattle.value_spec.specs.Values.{Value, none_value, dict_value, values_in, Fields, no_fields, a_field, Arguments, arguments, Store}
use Rattle.star_spec.proofs.ActsKeep.{dict_put_keeps, dict_remove_keeps}
use Rattle.star_spec.proofs.BindingsKeep.{◌also◌, AllKeep, OwnKeeps, none_keep, nth_held, seeing_keeps, taking_keeps}
use Rattle.star_spec.proofs.FillingKeeps.{paid_keeps}
use Rattle.star_spec.proofs.Keeping.{Anything, IfFound, found_one, Keeps, keeps_then, keeps_give, keeps_fail, keeps_need, keeps_or_fail, keeps_reads, object_held, pairs_held}
use Rattle.star_spec.proofs.ListsKeep.{changing_keeps, clear_row_keeps}
use Rattle.star_spec.proofs.MembersHeld.{BothHeld, in_values, key_value_held, members_held, new_dict_keeps, new_list_keeps, of_pairs, pairs_keep, put_pairs_held}
use Rattle.star_spec.proofs.RowsHeld.{measured_keeps}

-- ---- a key, and what stands under it

value_in_keeps : {H : Type 0} (r : ℕ) (k : Value) → Keeps {H = H} (IfFound HeldValue) (value_in r k)
value_in_keeps r k = keeps_reads (λ store. value_of_key k (pairs_at r store)) (λ store h. key_value_held k (pairs_at r store) (of_pairs (pairs_at r store) (pairs_held (object_at r store) (object_held store r h))))

-- a key takes its size, and then comes what is done with its value
under_key : {H A : Type 0} {P : A → Type 0} {f : Option Value → Computation H A} (p : Place) (r : ℕ) (k : Value) → ((o : Option Value) → IfFound HeldValue o → Keeps P (f o)) → Keeps P (key_sized p k >>= λ u. value_in r k >>= f)
under_key p r k h = keeps_then (measured_keeps 5 p k) (λ u t. keeps_then (value_in_keeps r k) h)

found_or : (o : Option Value) (d : Value) → IfFound HeldValue o → HeldValue d → HeldValue (unwrap_or o d)
found_or None d h k = k
found_or (Some v) d h k = h

-- ---- rows

get_keeps : {H : Type 0} (p : Place) (r : ℕ) (k d : Value) → HeldValue d → Keeps {H = H} HeldValue (get_row p r k d)
get_keeps p r k d h = under_key p r k (λ o g. keeps_give (unwrap_or o d) (found_or o d g h))

each_held : (f : Value × Value → Value) (ps : List (Value × Value)) → ((q : Value × Value) → HeldValue q.0 → HeldValue q.1 → HeldValue (f q)) → HeldPairs ps → HeldList (each f ps)
each_held f [] h k = tt
each_held f (q ∷ qs) h k = (h q k.0 k.1, each_held f qs h k.3)

listing_keeps : {H : Type 0} (f : Value × Value → Value) (p : Place) (r : ℕ) → ((q : Value × Value) → HeldValue q.0 → HeldValue q.1 → HeldValue (f q)) → Keeps {H = H} HeldValue (listing_row f p r)
listing_keeps f p r h = keeps_then (pairs_keep r) (λ ps k. paid_keeps p (dict_value r ∷ []) 0 (length ps) (new_list_keeps (each f ps) (each_held f ps h k)))

taken_keeps : {H : Type 0} (p : Place) (r : ℕ) (k : Value) (given : Bool) (d : Value) (o : Option Value) → HeldValue d → Keeps {H = H} HeldValue (taken_or p r k given d o)
taken_keeps p r k given d (Some v) h = dict_remove_keeps p r k
taken_keeps p r k true d None h = keeps_give d h
taken_keeps p r k false d None h = keeps_fail kind.KeyMissing p (key_text k)

pop_keeps : {H : Type 0} (p : Place) (r : ℕ) (k : Value) (given : Bool) (d : Value) → HeldValue d → Keeps {H = H} HeldValue (pop_key_row p r k given d)
pop_keeps p r k given d h = changing_keeps p r (under_key p r k (λ o g. taken_keeps p r k given d o h))

first_keeps : {H : Type 0} (p : Place) (r : ℕ) (ps : List (Value × Value)) → HeldPairs ps → Keeps {H = H} HeldValue (first_taken p r ps)
first_keeps p r [] h = keeps_fail kind.KeyMissing p []
first_keeps p r (q ∷ qs) h = keeps_then (measured_keeps 5 p q.0) (λ u t. keeps_then (dict_remove_keeps p r q.0) (λ v k. keeps_give (pair_value q) (h.0, (h.1, tt))))

popitem_keeps : {H : Type 0} (p : Place) (r : ℕ) → Keeps {H = H} HeldValue (popitem_row p r)
popitem_keeps p r = changing_keeps p r (keeps_then (pairs_keep r) (first_keeps p r))

put_keeps : {H : Type 0} (p : Place) (r : ℕ) (k d : Value) (o : Option Value) → HeldValue k → HeldValue d → IfFound HeldValue o → Keeps {H = H} HeldValue (put_or p r k d o)
put_keeps p r k d (Some v) key h g = keeps_give v g
put_keeps p r k d None key h g = keeps_then (dict_put_keeps p r k d key h) (λ u t. keeps_give d h)

setdefault_keeps : {H : Type 0} (p : Place) (r : ℕ) (k d : Value) → HeldValue k → HeldValue d → Keeps {H = H} HeldValue (setdefault_row p r k d)
setdefault_keeps p r k d key h = changing_keeps p r (under_key p r k (λ o g. put_keeps p r k d o key h g))

-- ---- pairs that are put into a dict

pair_there : (o : Option (List Value)) → IfFound HeldList o → IfFound (λ q. HeldValue q.0 × HeldValue q.1) (pair_of o)
pair_there (Some (k ∷ v ∷ [])) h = (h.0, h.1.0)
pair_there _ h = tt

front_there : (o : Option (Value × Value)) (more : Option (List (Value × Value))) → IfFound (λ q. HeldValue q.0 × HeldValue q.1) o → IfFound BothHeld more → IfFound BothHeld (pair_in_front o more)
front_there None more h k = tt
front_there (Some q) None h k = tt
front_there (Some q) (Some qs) h k = (h.0, h.1, k)

all_there : (store : Store) (vs : List Value) → HeldStore store → HeldList vs → IfFound BothHeld (all_pairs store vs)
all_there store [] g h = tt
all_there store (v ∷ vs) g h = front_there (pair_of (members_in store v)) (all_pairs store vs) (pair_there (members_in store v) (members_held store v g h.0)) (all_there store vs g h.1)

any_there : (store : Store) (o : Option (List Value)) → HeldStore store → IfFound HeldList o → IfFound BothHeld (pairs_if_any store o)
any_there store None g h = tt
any_there store (Some vs) g h = all_there store vs g h

pairs_there : (store : Store) (v : Value) → HeldStore store → HeldValue v → IfFound BothHeld (pairs_of store v)
pairs_there store (dict_value r) g h = of_pairs (pairs_at r store) (pairs_held (object_at r store) (object_held store r g))
pairs_there store v g h = any_there store (members_in store v) g (members_held store v g h)

given_there : (store : Store) (vs : List Value) → HeldStore store → HeldList vs → IfFound BothHeld (pairs_given store vs)
given_there store [] g h = tt
given_there store (v ∷ vs) g h = pairs_there store v g h.0

named_there : (fs : Fields) → HeldFields fs → BothHeld (text_pairs fs)
named_there no_fields h = tt
named_there (a_field x v fs) h = (h.0, h.1, named_there fs h.2)

both_there : (qs rs : List (Value × Value)) → BothHeld qs → BothHeld rs → BothHeld (qs ++ rs)
both_there [] rs h k = k
both_there (q ∷ qs) rs h k = (h.0, h.1, both_there qs rs h.2 k)

no_offence_keeps : {H : Type 0} (p : Place) (o : Option FaultKind) → Keeps {H = H} Anything (no_offence p o)
no_offence_keeps p None = keeps_give tt tt
no_offence_keeps p (Some why) = keeps_fail why p []

all_keys_keep : {H : Type 0} (p : Place) (qs : List (Value × Value)) → Keeps {H = H} Anything (all_keys p qs)
all_keys_keep p [] = keeps_give tt tt
all_keys_keep p (q ∷ qs) = keeps_then (no_offence_keeps p (key_offence max_depth q.0)) (λ u t. all_keys_keep p qs)

keys_sized_keep : {H : Type 0} (p : Place) (qs : List (Value × Value)) → Keeps {H = H} Anything (keys_sized p qs)
keys_sized_keep p [] = keeps_give tt tt
keys_sized_keep p (q ∷ qs) = keeps_then (measured_keeps 5 p q.0) (λ u t. keys_sized_keep p qs)

pairs_taken_keep : {H : Type 0} (p : Place) (vs : List Value) (fs : Fields) → HeldList vs → HeldFields fs → Keeps {H = H} BothHeld (pairs_taken p vs fs)
pairs_taken_keep p vs fs h k =
    keeps_then {P = BothHeld} (keeps_then {P = IfFound BothHeld} (keeps_reads (λ store. pairs_given store vs) (λ store g. given_there store vs g h)) (λ o i. keeps_or_fail kind.ValueKind p o (λ qs e. found_one BothHeld o qs i e)))
    (λ qs i. keeps_then (all_keys_keep p (qs ++ text_pairs fs)) (λ u t. keeps_give (qs ++ text_pairs fs) (both_there qs (text_pairs fs) i (named_there fs k))))

put_each_keeps : {H : Type 0} (p : Place) (r : ℕ) (qs : List (Value × Value)) → BothHeld qs → Keeps {H = H} Anything (put_each p r qs)
put_each_keeps p r [] h = keeps_give tt tt
put_each_keeps p r (q ∷ qs) h = keeps_then (dict_put_keeps p r q.0 q.1 h.0 h.1) (λ u t. put_each_keeps p r qs h.2)

update_keeps : {H : Type 0} (r : ℕ) → OwnKeeps (update_row {H = H} r)
update_keeps {H = H} r = record { by = by } where
  by : (p : Place) (args : Arguments) → HeldArguments args → Keeps {H = H} HeldValue (update_row r p args)
  by p (arguments vs fs) h =
      keeps_then (keeps_need kind.ArgBind p (pairs_bound vs fs)) (λ u t. changing_keeps p r
      (keeps_then (pairs_taken_keep p (values_in vs) fs (in_values vs h.0) h.1) (λ qs i.
      paid_keeps p (dict_value r ∷ values_in vs ++ field_values fs) 0 0 (keeps_then (keys_sized_keep p qs) (λ u t. keeps_then (put_each_keeps p r qs i) (λ u t. keeps_give none_value tt))))))

pub dict_row_keeps : {H : Type 0} → OwnKeeps (dict_row {H = H})
dict_row_keeps {H = H} = record { by = by } where
  by : (p : Place) (args : Arguments) → HeldArguments args → Keeps {H = H} HeldValue (dict_row p args)
  by p (arguments vs fs) h =
      keeps_then (keeps_need kind.ArgBind p (pairs_bound vs fs)) (λ u t.
      keeps_then (pairs_taken_keep p (values_in vs) fs (in_values vs h.0) h.1) (λ qs i.
      paid_keeps p (values_in vs ++ field_values fs) 0 (length (put_pairs [] qs)) (keeps_then (keys_sized_keep p qs) (λ u t. new_dict_keeps (put_pairs [] qs) (put_pairs_held [] qs tt i)))))

-- ---- the table

pub dict_methods_keep : {H : Type 0} (r : ℕ) → AllKeep (dict_methods {H = H} r)
dict_methods_keep r =
    taking_keeps [] [] (λ p vs h. clear_row_keeps p r (dict_value r)) also
    taking_keeps (codes "k" ∷ []) (codes "d" ∷ []) (λ p vs h. get_keeps p r (value_at 0 vs) (value_at 1 vs) (nth_held 1 vs h)) also
    taking_keeps [] [] (λ p vs h. listing_keeps pair_value p r (λ q k v. (k, (v, tt)))) also
    taking_keeps [] [] (λ p vs h. listing_keeps (λ q. q.0) p r (λ q k v. k)) also
    seeing_keeps (λ args. taking_keeps (codes "k" ∷ []) (codes "d" ∷ []) (λ p vs h. pop_keeps p r (value_at 0 vs) (is_given 1 (codes "d") args) (value_at 1 vs) (nth_held 1 vs h))) also
    taking_keeps [] [] (λ p vs h. popitem_keeps p r) also
    taking_keeps (codes "k" ∷ []) (codes "d" ∷ []) (λ p vs h. setdefault_keeps p r (value_at 0 vs) (value_at 1 vs) (nth_held 0 vs h) (nth_held 1 vs h)) also
    update_keeps r also
    taking_keeps [] [] (λ p vs h. listing_keeps (λ q. q.1) p r (λ q k v. v)) also
    none_keep
