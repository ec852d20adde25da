-- What a key of a dict and a member of a list get.
use Rattle.star_steps.proofs.Names.{◌≡◌, ℕ, Result, Err, refl, Place, Stop, acting, then_do, did, dict_put, may_change, dict_value, key_sized, set_index_row, View, Meets, as_is, state_in, meets_same, meets_stop}
use Rattle.std.proofs.Common.{length, Option, Some, None, ap, sym, subst, ◌∙◌}
use Rattle.std.specs.Prelude.{ℤ}
use Rattle.index_spec.specs.Index.{place_among, set_member_at}
use Rattle.value_spec.specs.Outcomes.{Computation, after_act, bad}
use Rattle.value_spec.specs.Store.{Answer, list_at, list_set}
use Rattle.value_spec.specs.Values as plain
use Rattle.star_steps.specs.Meets.{stop_of}
use Rattle.star_values.specs.Answers.{Answers}
use Rattle.star_values.specs.declared.object.ArenaStop.{ArenaStop}
use Rattle.star_values.specs.declared.object.ArenaStop.TheVariants as arena_stop
use Rattle.ytt_base.specs.Outcomes.{fault_at}
use Rattle.ytt_base.specs.declared.fault.FaultKind.TheVariants as kind

-- a dict that may be changed
pub key_put : (p : Place) (r : ℕ) (k v : plain.Value) (a : View) (n : ℕ) → may_change r a.store ≡ did tt a.store →
    set_index_row p (dict_value r) k v (state_in a n) ≡ then_do (key_sized p k (state_in a n)) (λ w. acting p (dict_put r k v))
key_put p r k v a n may = rw may refl

-- the key's size was refused
pub put_stopped : (p : Place) (r : ℕ) (k v : plain.Value) (a : View) (n m : ℕ) (e : Stop) (res : Result (Unit {0}) Stop) → may_change r a.store ≡ did tt a.store → Meets as_is (Err e) (state_in a m) (key_sized p k (state_in a n)) → res ≡ Err e →
    Meets as_is res (state_in a m) (set_index_row p (dict_value r) k v (state_in a n))
put_stopped p r k v a n m e res may h is = meets_same as_is res (state_in a m) _ _ (key_put p r k v a n may) (meets_stop as_is as_is e (state_in a m) (key_sized p k (state_in a n)) (λ w. acting p (dict_put r k v)) res h is)

-- ---- what an act of the arena answers, at a place

-- an act that is refused changes nothing, and is that fault at the place
refused_at : {B : Type 0} (p : Place) (k : kind.the_data) (o : Answer plain.Store B) (why : Answer plain.Store B) (a b : View) (n : ℕ) → o ≡ why → b.store ≡ a.store → after_act p why (state_in a n) ≡ bad (fault_at k p) (state_in a n) → after_act p o (state_in a n) ≡ bad (fault_at k p) (state_in b n)
refused_at p k o why a b n e same is = ap (λ o. after_act p o (state_in a n)) e ∙ is ∙ ap (λ st. bad (fault_at k p) (record { store = st; steps = n; host = tt })) (sym same)

stopped : {A B : Type 0} (view : A → B) (p : Place) (e : ArenaStop) (o : Answer plain.Store B) (a b : View) (n : ℕ) → Answers view (Err e) a.store b.store o → Meets as_is (Err (stop_of p e)) (state_in b n) (after_act p o (state_in a n))
stopped view p arena_stop.Frozen o a b n h = refused_at p kind.Frozen o _ a b n h.0 h.1 refl
stopped view p arena_stop.Iterating o a b n h = refused_at p kind.Iterating o _ a b n h.0 h.1 refl
stopped view p arena_stop.IndexRange o a b n h = refused_at p kind.IndexRange o _ a b n h.0 h.1 refl
stopped view p arena_stop.KeyMissing o a b n h = refused_at p kind.KeyMissing o _ a b n h.0 h.1 refl
stopped view p arena_stop.Memory o a b n h = tt

-- the act was refused, or memory was wanting
pub act_stopped : {A B : Type 0} (view : A → B) (p : Place) (e : ArenaStop) (r : Stop) (o : Answer plain.Store B) (a b : View) (n : ℕ) → Answers view (Err e) a.store b.store o → r ≡ stop_of p e → Meets as_is (Err r) (state_in b n) (after_act p o (state_in a n))
act_stopped view p e r o a b n h is = subst (λ r. Meets as_is (Err r) (state_in b n) (after_act p o (state_in a n))) (sym is) (stopped view p e o a b n h)

-- the object can't be changed
pub change_refused : {A : Type 0} (p : Place) (e : ArenaStop) (r : Stop) (at : ℕ) (k : Unit {0} → Computation (Unit {0}) A) (a : View) (n : ℕ) → Answers (λ (u : Unit {0}). u) (Err e) a.store a.store (may_change at a.store) → r ≡ stop_of p e → Meets (as_is {A = A}) (Err r) (state_in a n) (then_do (acting p (may_change at) (state_in a n)) k)
change_refused p e r at k a n h is = meets_stop as_is as_is r (state_in a n) (acting p (may_change at) (state_in a n)) k (Err r) (act_stopped (λ u. u) p e r (may_change at a.store) a a n h is) refl

-- ---- what a member of a list gets

-- the place that was found among so many, as the row finds it
pub placed : (n m : ℕ) (z y : ℤ) (o : Option ℕ) → n ≡ m → y ≡ z → o ≡ place_among m y → place_among n z ≡ o
placed n m z y o e f g = ap (λ n. place_among n z) e ∙ ap (place_among m) (sym f) ∙ sym g

-- there is no such place
pub no_member : (p : Place) (r : ℕ) (z : ℤ) (v : plain.Value) (a : View) (n : ℕ) → place_among (length (list_at r a.store)) z ≡ None → set_member_at p r z v (state_in a n) ≡ bad (fault_at kind.IndexRange p) (state_in a n)
no_member p r z v a n e = rw e refl

-- the place is the i-th
pub member_put : (p : Place) (r : ℕ) (z : ℤ) (v : plain.Value) (a : View) (n i : ℕ) → place_among (length (list_at r a.store)) z ≡ Some i → set_member_at p r z v (state_in a n) ≡ acting p (list_set r i v) (state_in a n)
member_put p r z v a n i e = rw e refl
