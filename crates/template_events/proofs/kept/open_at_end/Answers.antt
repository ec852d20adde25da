use Rattle.std.proofs.Common.{ap, sym, ◌∙◌}
use Rattle.std.proofs.lemmas.Bool.{le-ltb, lt-ltb}
use Rattle.ytt_base.specs.Outcomes.{place_at}
use Rattle.notes_read.specs.Depths.{some_open}
use Rattle.notes_read.proofs.Longer.{tells}
use Rattle.template_events.specs.View.{kept_of}
use Rattle.template_events.proofs.kept.open_at_end.Goals as goal

pub returns-in-Some-clause-may : goal.returns-in-Some-clause-may
returns-in-Some-clause-may c = λ r reads file.
    let whole = kept_of c.args.comment.now in
    tells r reads (place_at file whole.line) whole.text ∙ ap some_open (sym c.in_ok-open.ensures ∙ c.in-Some.is) ∙ lt-ltb 0 c.in-Some.open c.if-open-gt0.true

pub returns-in_default-clause-may : goal.returns-in_default-clause-may
returns-in_default-clause-may c = λ r reads file.
    let whole = kept_of c.args.comment.now in
    tells r reads (place_at file whole.line) whole.text ∙ ap some_open (sym c.in_ok-open.ensures ∙ c.in-Some.is) ∙ le-ltb 0 c.in-Some.open c.if-open-gt0.false

pub returns-in_default-2-clause-may : goal.returns-in_default-2-clause-may
returns-in_default-2-clause-may c = λ r reads file.
    let whole = kept_of c.args.comment.now in
    tells r reads (place_at file whole.line) whole.text ∙ ap some_open (sym c.in_ok-open.ensures ∙ c.in_default.is)
