-- A start with its step.
use Rattle.std.proofs.Common.{◌≡◌, List, [], ◌∷◌, suc, rules}
use Rattle.ytt_base.specs.declared.fault.Place.{Place}
use Rattle.code_spec.specs.Program.{Holds, ItemKind}
use Rattle.star_spec.specs.Flow.{on}
use Rattle.template_meaning.specs.Run.{Node, on_top, opened}
use Rattle.value_spec.specs.Outcomes.{State, give, paid, take_steps, then_do}
use Rattle.node_build.specs.Parts.{Does, starting}

-- the definition takes the step that the caller of `start` takes
pub start_paid : (p : Place) (k : ItemKind) (h : Holds) (old new : List Node) → Does (starting p k h) old new → (s : State (Unit {0}))
    → on_top {H = Unit {0}} (λ m ms. paid p (give (on (opened p k h (suc m.level) ∷ m ∷ ms)))) old s ≡ then_do (take_steps 1 p s) (λ u. give (on new))
start_paid p k h [] new does s = absurd (search (rules, does s))
start_paid p k h (m ∷ ms) new does s = λ i. then_do (take_steps 1 p s) (λ u s. does s i)
