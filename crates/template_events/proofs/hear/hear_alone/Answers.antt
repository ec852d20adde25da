use Rattle.std.proofs.Common.{◌≡◌, Err, sym, ◌∙◌, rules}
use Rattle.yaml_noted.specs.View.{comment_of}
use Rattle.template_events.proofs.Taking.{alone_stopped}
use Rattle.template_events.proofs.hear.hear_alone.Goals as goal

pub returns-in_err-let_come : goal.returns-in_err-let_come
returns-in_err-let_come c = λ r reads rest.
    let stops : c.from_residual.result ≡ Err c.in_err-let_come.field-0.0 = search rules in
    rw stops
    (alone_stopped c.args.setting c.args.hearing.now c.let_come.new.hearing c.let_come.new.hearing.gathering c.in_err-let_come.field-0.0 c.in_err-let_come.ensures.gathers (comment_of c.args.comment.now)
    (sym c.is_later.ensures ∙ c.if-is_later.false) r reads rest)
