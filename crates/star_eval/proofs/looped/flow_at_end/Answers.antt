use Rattle.std.proofs.Common.{ap, ◌∙◌}
use Rattle.star_values.proofs.Growing.{grows_same}
use Rattle.star_eval.specs.Frames.{flow_ending_of}
use Rattle.star_eval.specs.Meets.{state_of}
use Rattle.star_eval.specs.View.{arena_in, nodes_in}
use Rattle.star_eval.proofs.Ended.{block_ended, scope_at_end}
use Rattle.star_eval.proofs.looped.flow_at_end.Goals as goal

pub returns-clause-ended : goal.returns-clause-ended
returns-clause-ended c =
    let m = c.args.machine in
    ap (λ r. flow_ending_of (arena_in m) r (nodes_in m) (state_of m.session)) c.how_left-result.ensures ∙ block_ended m c.form_fault-form.result c.args.control c.form_fault-form.ensures c.requires.over

pub returns-clause-finishes : goal.returns-clause-finishes
returns-clause-finishes c =
    let m = c.args.machine in
    record {
      env = scope_at_end m c.args.control c.requires.over;
      scope = c.requires.sound.scope;
      nodes = c.requires.sound.nodes;
      grows = grows_same (arena_in m);
    }
