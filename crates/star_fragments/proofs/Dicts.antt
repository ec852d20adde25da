-- A new dict, which pairs are put into.
use Rattle.star_steps.proofs.Names.{◌≡◌, ℕ, ◌+◌, ◌<◌, ◌≤◌, get_or, take, List, [], ◌∷◌, ◌++◌, length, Some, Ok, refl, sym, ap, subst, ◌∙◌, map-append, take_all, take_more, slice_get-get_or, slice_get, slice_set, done, new_dict, Answer, did, refused, dict_put, object, on_found, put_key, put_pair, put_pairs, with_object, of_dict, Object, Store, pair_in, Each, Grows, Owns, OwnsPair, View, value_in, value_of, Ref, Value, each_at, grows_then, owns_kept}
use Rattle.value_spec.specs.Values as plain
use Rattle.star_values.specs.declared.value.Value.TheVariants as value
use Rattle.star_fragments.specs.Fresh.{Builds, OwnsPairs, pairs_of}
use Rattle.star_fragments.proofs.Making.{keeps_pair}

-- ---- the newest object

last_at : (st : Store) (o : Object) → slice_get (st ++ o ∷ []) (length st) ≡ Some o
last_at [] o = refl
last_at (x ∷ st) o = last_at st o

set_last : (st : Store) (o x : Object) → slice_set (st ++ o ∷ []) (length st) x ≡ st ++ x ∷ []
set_last [] o x = refl
set_last (y ∷ st) o x = ap (λ l. y ∷ l) (set_last st o x)

put_in : (r : ℕ) (k v : plain.Value) (ps : List (plain.Value × plain.Value)) (st : Store) → r ≡ length st → dict_put r k v (with_object (of_dict ps) st) ≡ did tt (with_object (of_dict (put_pair k v ps)) st)
put_in r k v ps st e =
    ap (λ r. dict_put r k v (with_object (of_dict ps) st)) e
    ∙ ap (on_found (length st) (with_object (of_dict ps) st) (put_key k v)) (last_at st (object (of_dict ps)))
    ∙ ap (did tt) (set_last st (object (of_dict ps)) (object (of_dict (put_pair k v ps))))

-- ---- pairs one after another

-- these are put
pub record PutSoFar (dict : Ref) (put : List (Value × Value)) (a b : View) : Type 0 where
  pub here : dict.at ≡ length a.store
  pub owns : Owns b (value.Dict dict)
  pub store : b.store ≡ with_object (of_dict (put_pairs [] (pairs_of a put))) a.store
  pub held : b.held ≡ a.held
  pub grows : Grows a b

put_pairs_last : (ps ms : List (plain.Value × plain.Value)) (m : plain.Value × plain.Value) → put_pairs ps (ms ++ m ∷ []) ≡ put_pair m.0 m.1 (put_pairs ps ms)
put_pairs_last ps [] m = refl
put_pairs_last ps (n ∷ ms) m = put_pairs_last (put_pair n.0 n.1 ps) ms m

abbrev left : Answer Store (Unit {0}) → Store
left (did u s) = s
left (refused why) = []

pub put_next : (d : Ref) (put : List (Value × Value)) (k v : Value) (a b c : View) → PutSoFar d put a b → dict_put d.at (value_of b k) (value_of b v) b.store ≡ did tt c.store → c.held ≡ b.held → Grows b c → PutSoFar d (put ++ (k, v) ∷ []) a c
put_next d put k v a b c h e f g =
    let pairs = put_pairs [] (pairs_of a put) in
    let there = subst (λ st. dict_put d.at (value_of b k) (value_of b v) st ≡ did tt c.store) h.store e in
    let step = subst (λ held. dict_put d.at (value_in held k) (value_in held v) (with_object (of_dict pairs) a.store) ≡ did tt c.store) h.held there in
    let all : put_pair (value_of a k) (value_of a v) pairs ≡ put_pairs [] (pairs_of a (put ++ (k, v) ∷ [])) =
    sym (put_pairs_last [] (pairs_of a put) (pair_in a.held (k, v))) ∙ ap (put_pairs []) (sym (map-append (pair_in a.held) put ((k, v) ∷ []))) in
    record {
      here = h.here;
      owns = owns_kept b c (value.Dict d) g h.owns;
      store = ap left (sym step ∙ put_in d.at (value_of a k) (value_of a v) pairs a.store h.here) ∙ ap (λ ps. with_object (of_dict ps) a.store) all;
      held = f ∙ h.held;
      grows = grows_then a b c h.grows g;
    }

pub put_all : (d : Ref) (put : List (Value × Value)) (a b : View) → PutSoFar d put a b → Builds value_of Owns (new_dict (put_pairs [] (pairs_of a put))) (Ok (value.Dict d)) a b
put_all d put a b h = record {
  meaning = λ n i. done (plain.dict_value (sym h.here i)) (record { store = sym h.store i; steps = n; host = tt });
  owns = h.owns;
  grows = h.grows;
}

-- ---- a loop over pairs

each_get : {A : Type 0} (P : A → Type 0) (xs : List A) (i : ℕ) (d : A) → Each P xs → i < length xs → P (get_or xs i d)
each_get P xs i d o lt = each_at P xs i (get_or xs i d) o (slice_get-get_or xs i d lt)

pub pair_owned : (a b : View) (pairs : List (Value × Value)) (i : ℕ) (d : Value × Value) → OwnsPairs a pairs → i < length pairs → Grows a b → OwnsPair b (get_or pairs i d)
pair_owned a b pairs i d o lt g = (keeps_pair a b (get_or pairs i d) g (each_get (OwnsPair a) pairs i d o lt)).0

pub put_more : (r : Ref) (pairs : List (Value × Value)) (i : ℕ) (d : Value × Value) (a b c : View) → i < length pairs → PutSoFar r (take i pairs) a b
    → dict_put r.at (value_of b (get_or pairs i d).0) (value_of b (get_or pairs i d).1) b.store ≡ did tt c.store → c.held ≡ b.held → Grows b c → PutSoFar r (take (i + 1) pairs) a c
put_more r pairs i d a b c lt h e f g =
    subst (λ l. PutSoFar r l a c) (sym (take_more pairs i d lt)) (put_next r (take i pairs) (get_or pairs i d).0 (get_or pairs i d).1 a b c h e f g)

pub put_done : (r : Ref) (pairs : List (Value × Value)) (i : ℕ) (a b : View) → length pairs ≤ i → PutSoFar r (take i pairs) a b → Builds value_of Owns (new_dict (put_pairs [] (pairs_of a pairs))) (Ok (value.Dict r)) a b
put_done r pairs i a b past h = subst (λ l. Builds value_of Owns (new_dict (put_pairs [] (pairs_of a l))) (Ok (value.Dict r)) a b) (take_all i pairs past) (put_all r (take i pairs) a b h)
