use Rattle.std.proofs.Common.{◌≡◌, Err, reverse, rules}
use Rattle.star_resolve.proofs.Told.{told_in_turn}
use Rattle.star_resolve.proofs.binding.answer_all.Goals as goal

pub returns-in_err-answer-clause-told : goal.returns-in_err-answer-clause-told
returns-in_err-answer-clause-told c =
    let stopped : c.from_residual.result ≡ Err c.in_err-answer.field-0.0 = search rules in
    told_in_turn c.args.globals.now c.args.builtins.now (reverse c.loop-event.levels) c.args.events.now c.loop-event.event-index c.event-item.result _ c.in_err-answer.field-0.0 c.from_residual.result
    (rw c.as_slice-event-items.ensures at c.loop-event-test.true) (rw c.as_slice-event-items.ensures at c.event-item.is) c.loop-event.invariant.told stopped c.in_err-answer.ensures.told
