use Rattle.std.proofs.Common.{ap, sym, ◌∙◌}
use Rattle.star_steps.proofs.Meeting.{gives_same}
use Rattle.star_steps.proofs.Names.{seen, state_in}
use Rattle.star_values.specs.View.{arguments_in}
use Rattle.star_builtins.specs.View.{Here, called}
use Rattle.value_spec.specs.Outcomes.{Computation}
use Rattle.value_spec.specs.Values.{Value}
use Rattle.star_builtins.proofs.calls.plain_call.Goals as goal

pub returns-in-Range-clause-row : goal.returns-in-Range-clause-row
returns-in-Range-clause-row c =
    let a = seen c.args.arena.now in
    let n = c.args.work.now.steps in
    let args = arguments_in a.held c.args.args in
    gives_same _ _ _ _ _ _
    (ap (λ (m : Computation Here Value). m (state_in a n)) (sym (c.in_ok-bound.ensures.row c.args.at args) ∙ ap (λ o. called a o c.args.at args) c.in-Range.is))
    (c.range.ensures n)
