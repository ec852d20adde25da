-- What a loop goes over, and the walk of an object around it.
use Rattle.std.proofs.Common.{◌≡◌, ℕ, List, None, Some, refl, ap, ◌∙◌}
use Rattle.ytt_base.specs.declared.fault.FaultKind.TheVariants as kind
use Rattle.ytt_base.specs.declared.fault.Place.{Place}
use Rattle.star_spec.specs.Eval.{members_of}
use Rattle.star_spec.specs.Flow.{Part, over_members, turns, walk}
use Rattle.value_spec.specs.Members.{members_in, walked_in}
use Rattle.value_spec.specs.Outcomes.{Computation, Ending, State, asks, bad, done, finally, on_store, or_fail, then_do, ◌>>=◌}
use Rattle.value_spec.specs.Store.{begin_loop, end_loop}
use Rattle.value_spec.specs.Values.{Value}
use Rattle.star_eval.specs.Meets.{Here}
use Rattle.star_eval.specs.Waiting.{walked}

-- the end of no walk changes nothing
left_alone : {A : Type 0} (r : Ending Here A) → finally r (on_store (end_loop None)) ≡ r
left_alone (done a s) = refl
left_alone (bad f s) = refl
left_alone (asks q s k) = λ i. asks q s (λ got t. left_alone (k got t) i)

module _ {K : Type 0} (p : Place) (bind : Value → Computation Here Here) (v : Value) (part : Part Here K) (k : K) (s : State Here) (vs : List Value) (there : members_in s.store v ≡ Some vs) where
  abbrev each_turn : Part Here K
  each_turn = turns p (λ w j. bind w >>= λ u. part j) vs

  over_these : over_members p (members_of p v) bind v part k s ≡ walk v each_turn k s
  over_these = ap (λ o. then_do (or_fail kind.ValueKind p o s) (λ vs. walk v (turns p (λ w j. bind w >>= λ u. part j) vs) k)) there

  -- over what is no object
  pub over_no_object : walked_in v ≡ None → over_members p (members_of p v) bind v part k s ≡ each_turn k s
  over_no_object e = over_these ∙ ap (λ o. finally (each_turn k (on_store (begin_loop o) s)) (on_store (end_loop o))) e ∙ left_alone (each_turn k s)

  -- over an object, which is walked
  pub over_object : (o : ℕ) → walked_in v ≡ Some o → over_members p (members_of p v) bind v part k s ≡ walked o each_turn k s
  over_object o e = over_these ∙ ap (λ w. finally (each_turn k (on_store (begin_loop w) s)) (on_store (end_loop w))) e
