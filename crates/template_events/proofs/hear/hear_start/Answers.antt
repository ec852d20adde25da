use Rattle.std.proofs.Common.{◌≡◌, Err, ap, rules}
use Rattle.template_events.specs.View.{waiting_of}
use Rattle.template_events.proofs.Taking.{start_heard, start_stopped}
use Rattle.template_events.proofs.hear.hear_start.Goals as goal

pub returns-in_err-let_come : goal.returns-in_err-let_come
returns-in_err-let_come c = λ r reads rest.
    let stops : c.from_residual.result ≡ Err c.in_err-let_come.field-0.0 = search rules in
    rw stops
    (start_stopped c.args.setting c.args.hearing.now c.let_come.new.hearing c.let_come.new.hearing.gathering c.in_err-let_come.field-0.0 c.in_err-let_come.ensures.gathers c.args.start r reads rest)

pub returns : goal.returns
returns c =
    start_heard c.args.setting c.args.hearing.now (record { gathering = c.gather_start.new.gathering; waiting = c.let_come.new.hearing.waiting }) c.gather_start.result c.args.start c.let_come.new.hearing.gathering
    c.in_ok-let_come.ensures.gathers c.gather_start.ensures (ap waiting_of c.let_come.ensures.waiting)
