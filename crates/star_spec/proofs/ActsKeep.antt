-- Acts on lists and dicts leave what the program holds, and what is taken out of them is such.
use Rattle.std.proofs.Common.{ℕ, nat_le, Bool, true, false, if◌then◌else◌, List, [], ◌∷◌, ◌++◌, length, take, drop, insert, remove, slice_get, slice_set, zero, suc, Option, Some, None}
use Rattle.ytt_base.specs.declared.fault.Place.{Place}
use Rattle.star_spec.specs.Held.{HeldValue, HeldList, HeldPairs, HeldContents}
use Rattle.value_spec.specs.Keys.{place_of_key}
use Rattle.value_spec.specs.Outcomes.{acting}
use Rattle.value_spec.specs.Store.{list_of_contents, pairs_of_contents, with_list, emptied, with_pairs, value_of_key, refused, index_range, put_list, set_by, remove_by, cut_by, list_set, list_push, list_extend, list_insert, list_remove, clear, dict_put, dict_remove}
use Rattle.value_spec.specs.Values.{Value, Contents, of_list, of_dict, of_box, of_function, Object}
use Rattle.star_spec.proofs.Keeping.{IfFound, Keeps, Anything, IfDid, ObjectHeld, contents_list, contents_pairs, keeps_at_object}
use Rattle.star_spec.proofs.MembersHeld.{cut_held, first_members, key_value_held, last_members, member_held, more_held, of_pairs, put_pair_held}

-- ---- lists

-- a list or a box with other members
with_list_held : (c : Contents) (vs : List Value) → HeldContents c → HeldList vs → HeldContents (with_list vs c)
with_list_held (of_list old) vs h k = k
with_list_held (of_dict ps) vs h k = h
with_list_held (of_box old) [] h k = tt
with_list_held (of_box old) (v ∷ vs) h k = k.0
with_list_held (of_function f) vs h k = h

-- an object with other members, which are made of those that it has
put_held : (o : Object) (change : List Value → List Value) → ObjectHeld o → ((vs : List Value) → HeldList vs → HeldList (change vs)) → IfDid Anything ObjectHeld (put_list o (change (list_of_contents o.contents)))
put_held o change h k = (tt, with_list_held o.contents (change (list_of_contents o.contents)) h (k (list_of_contents o.contents) (contents_list o.contents h)))

set_members : (vs : List Value) (i : ℕ) (v : Value) → HeldValue v → HeldList vs → HeldList (slice_set vs i v)
set_members [] i v h k = tt
set_members (w ∷ ws) zero v h k = (h, k.1)
set_members (w ∷ ws) (suc i) v h k = (k.0, set_members ws i v h k.1)

pub list_set_keeps : {H : Type 0} (p : Place) (r i : ℕ) (v : Value) → HeldValue v → Keeps {H = H} Anything (acting p (list_set r i v))
list_set_keeps p r i v h = keeps_at_object Anything p r _ (λ o k. by o k (slice_get (list_of_contents o.contents) i)) where
  by : (o : Object) → ObjectHeld o → (old : Option Value) → IfDid Anything ObjectHeld (set_by o (list_of_contents o.contents) i v old)
  by o k None = tt
  by o k (Some w) = put_held o (λ vs. slice_set vs i v) k (λ vs g. set_members vs i v h g)

pub list_extend_keeps : {H : Type 0} (p : Place) (r : ℕ) (vs : List Value) → HeldList vs → Keeps {H = H} Anything (acting p (list_extend r vs))
list_extend_keeps p r vs h = keeps_at_object Anything p r _ (λ o k. put_held o (λ ws. ws ++ vs) k (λ ws g. more_held ws vs g h))

pub list_push_keeps : {H : Type 0} (p : Place) (r : ℕ) (v : Value) → HeldValue v → Keeps {H = H} Anything (acting p (list_push r v))
list_push_keeps p r v h = list_extend_keeps p r (v ∷ []) (h, tt)

pub list_insert_keeps : {H : Type 0} (p : Place) (r i : ℕ) (v : Value) → HeldValue v → Keeps {H = H} Anything (acting p (list_insert r i v))
list_insert_keeps p r i v h = keeps_at_object Anything p r _ (λ o k. by o k (nat_le i (length (list_of_contents o.contents)))) where
  by : (o : Object) → ObjectHeld o → (b : Bool) → IfDid Anything ObjectHeld (if b then put_list o (insert (list_of_contents o.contents) i v) else refused index_range)
  by o k true = put_held o (λ vs. insert vs i v) k (λ vs g. more_held (take i vs) (v ∷ drop i vs) (first_members i vs g) (h, last_members i vs g))
  by o k false = tt

pub list_remove_keeps : {H : Type 0} (p : Place) (r i : ℕ) → Keeps {H = H} HeldValue (acting p (list_remove r i))
list_remove_keeps p r i = keeps_at_object HeldValue p r _ (λ o k. by o k (slice_get (list_of_contents o.contents) i) (member_held (list_of_contents o.contents) i (contents_list o.contents k))) where
  by : (o : Object) → ObjectHeld o → (member : Option Value) → IfFound HeldValue member → IfDid HeldValue ObjectHeld (remove_by o (list_of_contents o.contents) i member)
  by o k None h = tt
  by o k (Some v) h = (h, (put_held o (λ vs. remove vs i) k (λ vs g. more_held (take i vs) (drop (suc i) vs) (first_members i vs g) (last_members (suc i) vs g))).1)

-- ---- dicts

-- a dict with other pairs
with_pairs_held : (c : Contents) (ps : List (Value × Value)) → HeldContents c → HeldPairs ps → HeldContents (with_pairs ps c)
with_pairs_held (of_list vs) ps h k = h
with_pairs_held (of_dict old) ps h k = k
with_pairs_held (of_box v) ps h k = h
with_pairs_held (of_function f) ps h k = h

pub dict_put_keeps : {H : Type 0} (p : Place) (r : ℕ) (k v : Value) → HeldValue k → HeldValue v → Keeps {H = H} Anything (acting p (dict_put r k v))
dict_put_keeps p r k v key value = keeps_at_object Anything p r _ (λ o h. (tt, with_pairs_held o.contents _ h (put_pair_held k v (pairs_of_contents o.contents) key value (contents_pairs o.contents h))))

pub dict_remove_keeps : {H : Type 0} (p : Place) (r : ℕ) (k : Value) → Keeps {H = H} HeldValue (acting p (dict_remove r k))
dict_remove_keeps p r k = keeps_at_object HeldValue p r _ (λ o h. let pairs = contents_pairs o.contents h in by o h (place_of_key k (pairs_of_contents o.contents)) (value_of_key k (pairs_of_contents o.contents)) (key_value_held k _ (of_pairs _ pairs))) where
  by : (o : Object) → ObjectHeld o → (place : Option ℕ) (value : Option Value) → IfFound HeldValue value → IfDid HeldValue ObjectHeld (cut_by o (pairs_of_contents o.contents) place value)
  by o h None v g = tt
  by o h (Some i) None g = tt
  by o h (Some i) (Some v) g = (g, with_pairs_held o.contents _ h (cut_held (pairs_of_contents o.contents) i (contents_pairs o.contents h)))

-- ---- either

emptied_held : (c : Contents) → HeldContents c → HeldContents (emptied c)
emptied_held (of_list vs) h = tt
emptied_held (of_dict ps) h = tt
emptied_held (of_box v) h = h
emptied_held (of_function f) h = h

pub clear_keeps : {H : Type 0} (p : Place) (r : ℕ) → Keeps {H = H} Anything (acting p (clear r))
clear_keeps p r = keeps_at_object Anything p r _ (λ o h. (tt, emptied_held o.contents h))
