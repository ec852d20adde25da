use Rattle.std.proofs.Common.{◌≡◌, ◌≤◌, ◌+◌, ◌-◌, ◌∷◌, length, Err, ◌∙◌, rules}
use Rattle.star_spec.specs.Flow.{on}
use Rattle.star_steps.proofs.Meeting.{meets_same, meets_stop}
use Rattle.star_values.specs.Objects.{seen}
use Rattle.star_values.specs.View.{value_of}
use Rattle.value_spec.specs.Outcomes.{done}
use Rattle.node_build.proofs.Filling.{taking_done, taking_form}
use Rattle.node_build.proofs.Stacks.{nodes-some}
use Rattle.node_build.specs.View.{filled_in, node_at}
use Rattle.node_build.proofs.builder.Builder.value.Goals as goal

pub returns-in_err-self-in-Some-clause-meaning : goal.returns-in_err-self-in-Some-clause-meaning
returns-in_err-self-in-Some-clause-meaning c =
    let a = seen c.args.arena.now in
    let self = c.args.self.now in
    let top = node_at a.held (length self.below.items + self.around) self.top in
    let within : (1 ≤ c.len.result) × (c.in-Some.last ≡ c.len.result - 1) = c.in-Some.ensures in
    let x = nodes-some a.held self.around self.below.items c.len.result c.in-Some.last (c.len.ensures ∙ self.below.ok.0) within.0 within.1 in
    let stopped : c.from_residual.result ≡ Err c.in_err-self-in-Some.field-0.0 = search rules in
    meets_same _ c.from_residual.result _ _ _
    (taking_form (value_of a c.args.value) top x.0 _ x.1.0 _ _ x.1.1.0 x.1.1.1)
    (meets_stop (filled_in a.held) _ c.in_err-self-in-Some.field-0.0 _ _ (λ b. done (on (record top { value = b } ∷ x.0 ∷ x.1.0))) c.from_residual.result c.in_err-self-in-Some.ensures.meaning stopped)

pub returns-in_ok-self-in-Some-clause-meaning : goal.returns-in_ok-self-in-Some-clause-meaning
returns-in_ok-self-in-Some-clause-meaning c =
    let a = seen c.args.arena.now in
    let self = c.args.self.now in
    let top = node_at a.held (length self.below.items + self.around) self.top in
    let within : (1 ≤ c.len.result) × (c.in-Some.last ≡ c.len.result - 1) = c.in-Some.ensures in
    let x = nodes-some a.held self.around self.below.items c.len.result c.in-Some.last (c.len.ensures ∙ self.below.ok.0) within.0 within.1 in
    taking_done (value_of a c.args.value) top x.0 _ x.1.0 _ _ _ (filled_in a.held c.in_ok-self-in-Some.field-0) x.1.1.0 x.1.1.1 c.in_ok-self-in-Some.ensures.meaning
