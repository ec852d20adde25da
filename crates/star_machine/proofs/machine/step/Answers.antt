use Rattle.std.proofs.Common.{Ok, ap, subst, sym, ◌∙◌}
use Rattle.star_machine.specs.Turns.{Turned, next, value_of}
use Rattle.star_machine.proofs.machine.step.Goals as goal

-- answered, so that another answer to a refused token is refused at once
pub returns-in-Refused-clause-steps : goal.returns-in-Refused-clause-steps
returns-in-Refused-clause-steps c =
    let m = c.items.machine in
    sym c.items.invariant.same ∙ ap (λ items. next c.args.token.now items (value_of m)) c.in-Some.ensures
    ∙ subst (λ t. Turned (Ok t) c.args.token.now c.in-Some.item (record m { pending = c.pop.new.self }) c.go.new.machine) c.in-Refused.is c.in_ok-go.ensures.turned
