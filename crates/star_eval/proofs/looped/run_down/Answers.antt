use Rattle.std.proofs.Common.{◌∙◌}
use Rattle.star_values.proofs.Growing.{grows_then}
use Rattle.star_eval.specs.View.{arena_in}
use Rattle.star_eval.proofs.looped.run_down.Goals as goal

pub loop-control-preserved : goal.loop-control-preserved
loop-control-preserved g c =
    let before = c.loop-control.invariant in
    let after = c.in_ok-control.ensures in
    record {
      same = after.same ∙ before.same;
      sound = after.sound;
      owned = after.owned;
      grows = grows_then (arena_in c.args.machine) (arena_in c.loop-control.machine) (arena_in c.turn.new.m) before.grows after.grows;
    }
