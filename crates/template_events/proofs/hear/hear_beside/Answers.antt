use Rattle.std.proofs.Common.{◌≡◌, Err, Some, refl, rules}
use Rattle.yaml_noted.specs.View.{comment_of}
use Rattle.template_events.specs.View.{owner_of}
use Rattle.template_events.proofs.Taking.{beside_heard, beside_stopped}
use Rattle.template_events.proofs.hear.hear_beside.Goals as goal

pub returns-in_err-let_come : goal.returns-in_err-let_come
returns-in_err-let_come c = λ r reads rest.
    let stops : c.from_residual.result ≡ Err c.in_err-let_come.field-0.0 = search rules in
    rw stops
    (beside_stopped c.args.setting c.args.hearing.now c.let_come.new.hearing c.let_come.new.hearing.gathering c.in_err-let_come.field-0.0 c.in_err-let_come.ensures.gathers (owner_of c.args.owner)
    (comment_of c.args.comment.now) r reads rest)

pub returns : goal.returns
returns c =
    beside_heard c.args.setting c.args.hearing.now (record { gathering = c.let_come.new.hearing.gathering; waiting = Some (record { owner = c.args.owner; comment = c.args.comment }) }) (owner_of c.args.owner)
    (comment_of c.args.comment.now) c.in_ok-let_come.ensures.gathers refl
