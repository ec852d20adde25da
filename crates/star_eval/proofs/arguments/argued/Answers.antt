use Rattle.std.proofs.Common.{ap, sym}
use Rattle.star_tree.specs.Whole.{exprs_of}
use Rattle.star_values.specs.View.{value_of}
use Rattle.value_spec.specs.Outcomes.{then_do}
use Rattle.star_eval.specs.Doing.{all_calls, arguments_then}
use Rattle.star_eval.specs.Frames.{around_value}
use Rattle.star_eval.specs.View.{arena_in, setting_of, waiting_in}
use Rattle.star_eval.proofs.Going.{goes}
use Rattle.star_eval.proofs.arguments.argued.Goals as goal

pub returns-in-Ok : goal.returns-in-Ok
returns-in-Ok c =
    let m = c.args.m.now in
    goes _ c.call_with.result c.call_with.new.m
    (ap (λ r. around_value m (waiting_in m) (then_do r (λ more. arguments_then (setting_of m) (exprs_of m.code.file c.args.rest.now) more (all_calls (setting_of m) c.args.place (value_of (arena_in m) c.args.function))))) (sym c.in-Ok.ensures.meaning))
    c.call_with.ensures
