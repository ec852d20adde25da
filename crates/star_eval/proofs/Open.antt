-- Nodes that are open.
use Rattle.std.proofs.Common.{◌≡◌, true, [], ◌∷◌, refl, ap, sym, ◌∙◌}
use Rattle.ytt_base.specs.declared.fault.FaultKind.TheVariants as kind
use Rattle.ytt_base.specs.declared.fault.Place.{Place}
use Rattle.ytt_base.specs.Outcomes.{fault_at}
use Rattle.value_spec.specs.Outcomes.{Computation, State, bad}
use Rattle.star_values.specs.View.{View, value_of}
use Rattle.star_values.specs.declared.value.Ref.{Ref}
use Rattle.star_values.specs.declared.value.Value.{Value}
use Rattle.star_values.specs.declared.value.Value.TheVariants as value
use Rattle.template_meaning.specs.Run.{Node}
use Rattle.node_build.specs.Parts.{IsOnTopAt, has_two}
use Rattle.star_eval.specs.Doing.{Nodes, keyed_by, with_two}
use Rattle.star_eval.specs.Meets.{Here}

pub two_open : {A : Type 0} (k : Nodes) (m : Computation Here A) → has_two k ≡ true → with_two k m ≡ m
two_open [] m h = cc
two_open (n ∷ []) m h = cc
two_open (n ∷ o ∷ k) m h = refl

-- what is no text is no key
no_key : (a : View) (v : Value) (n : Node) (k : Nodes) (s : State Here) → ((r : Ref) → v ≡ value.Text r → ⊥) → keyed_by (value_of a v) (n ∷ k) s ≡ bad (fault_at kind.NotYaml n.place) s
no_key a (value.Text r) n k s h = absurd (h r refl)
no_key a v n k s h = refl

pub unkeyed : (a : View) (v : Value) (k : Nodes) (p : Place) (s : State Here) → ((r : Ref) → v ≡ value.Text r → ⊥) → IsOnTopAt p k → keyed_by (value_of a v) k s ≡ bad (fault_at kind.NotYaml p) s
unkeyed a v [] p s h on = absurd on
unkeyed a v (n ∷ k) p s h on = no_key a v n k s h ∙ ap (λ q. bad (fault_at kind.NotYaml q) s) (sym on)
