use Rattle.std.proofs.Common.{ap, ◌∙◌}
use Rattle.star_eval.specs.Frames.{value_ending_of}
use Rattle.star_eval.specs.Meets.{state_of}
use Rattle.star_eval.specs.View.{arena_in}
use Rattle.star_eval.proofs.Ended.{call_ended}
use Rattle.star_eval.proofs.looped.value_at_end.Goals as goal

pub returns-clause-ended : goal.returns-clause-ended
returns-clause-ended c =
    let m = c.args.machine in
    ap (λ r. value_ending_of (arena_in m) r (state_of m.session)) c.what_given-result.ensures ∙ call_ended m c.form_fault-form.result c.args.control c.form_fault-form.ensures c.requires.over
