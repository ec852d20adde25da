use Rattle.std.proofs.Common.{◌≡◌, Err, rules}
use Rattle.yaml_noted.specs.View.{documents_of}
use Rattle.template_events.proofs.Taking.{come_stopped, whole_heard, whole_stopped}
use Rattle.template_events.proofs.flat.hear_whole.Goals as goal

pub returns-in_err-hear_all : goal.returns-in_err-hear_all
returns-in_err-hear_all c = λ r reads.
    let stops : c.from_residual.result ≡ Err c.in_err-hear_all.field-0.0 = search rules in
    rw stops
    (whole_stopped c.args.setting (documents_of c.args.docs.now) c.args.hearing.now c.hear_all.new.hearing c.hear_all.new.hearing.gathering c.hear_all.new.hearing.gathering c.requires.rows c.requires.held c.requires.waiting
    c.in_err-hear_all.field-0.0 c.in_err-hear_all.ensures r reads)

pub returns-in_err-let_come : goal.returns-in_err-let_come
returns-in_err-let_come c = λ r reads.
    let stops : c.from_residual-in_err-let_come.result ≡ Err c.in_err-let_come.field-0.0 = search rules in
    rw stops
    (come_stopped c.args.setting (documents_of c.args.docs.now) c.args.hearing.now c.hear_all.new.hearing c.let_come.new.hearing.gathering c.let_come.new.hearing.gathering c.requires.rows c.requires.held c.requires.waiting
    c.in_ok-hear_all.ensures c.in_err-let_come.field-0.0 c.in_err-let_come.ensures.gathers r reads)

pub returns : goal.returns
returns c =
    whole_heard c.args.setting (documents_of c.args.docs.now) c.args.hearing.now c.hear_all.new.hearing c.let_come.new.hearing.gathering c.let_go.new.gathering c.requires.rows c.requires.held c.requires.waiting
    c.in_ok-hear_all.ensures c.let_go.result c.in_ok-let_come.ensures.gathers c.let_go.ensures.rows
