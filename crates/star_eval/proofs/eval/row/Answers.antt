use Rattle.std.proofs.Common.{◌++◌}
use Rattle.star_tree.specs.Whole.{exprs_of}
use Rattle.star_values.specs.View.{values_of}
use Rattle.value_spec.specs.Outcomes.{then_do}
use Rattle.star_eval.specs.Doing.{all_evaluated}
use Rattle.star_eval.specs.Frames.{around_value}
use Rattle.star_eval.specs.Meets.{state_of}
use Rattle.star_eval.specs.View.{arena_in, gathering_of, setting_of, waiting_in}
use Rattle.star_eval.specs.Waiting.{gathered}
use Rattle.star_eval.proofs.Going.{goes}
use Rattle.star_eval.proofs.eval.row.Goals as goal

pub returns : goal.returns
returns c =
    let m = c.args.m.now in
    goes _ c.gather.result c.gather.new.m
    (λ i. around_value m (waiting_in m) (then_do (all_evaluated (setting_of m) (exprs_of m.code.file c.args.members.now) (state_of m.session)) (λ ws. gathered (gathering_of c.args.gathering) (values_of (arena_in m) (c.new-before.ensures i) ++ ws))))
    c.gather.ensures
