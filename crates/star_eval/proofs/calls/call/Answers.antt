use Rattle.std.proofs.Common.{ap, sym}
use Rattle.star_values.specs.View.{arguments_in, value_of}
use Rattle.star_eval.specs.Frames.{around_value}
use Rattle.star_eval.specs.Meets.{state_of}
use Rattle.star_eval.specs.View.{arena_in, setting_of, waiting_in}
use Rattle.star_eval.proofs.Calling.{by_steps}
use Rattle.star_eval.proofs.Going.{goes}
use Rattle.star_eval.proofs.calls.call.Goals as goal

pub returns : goal.returns
returns c =
    let m = c.args.m.now in
    let a = arena_in m in
    goes _ c.call_within.result c.call_within.new.m
    (ap (around_value m (waiting_in m)) (sym (by_steps (setting_of m).function c.args.place (value_of a c.args.function) (arguments_in a.held c.args.args) (state_of m.session))))
    c.call_within.ensures
