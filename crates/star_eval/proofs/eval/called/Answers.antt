use Rattle.star_steps.specs.Meets.{state_in}
use Rattle.star_tree.specs.Whole.{expr_of, exprs_of}
use Rattle.star_values.specs.View.{arguments_in, value_of}
use Rattle.star_eval.specs.Doing.{all_calls, arguments_then}
use Rattle.star_eval.specs.Frames.{around_value}
use Rattle.star_eval.specs.View.{arena_in, setting_of, waiting_in}
use Rattle.star_eval.specs.Waiting.{callee, value_goes}
use Rattle.star_eval.proofs.Going.{goes, known_then}
use Rattle.star_eval.proofs.eval.called.Goals as goal

pub call_with-requires-clause-function : goal.call_with-requires-clause-function
call_with-requires-clause-function c = let h = c.in-Some.ensures in h.owned

pub returns-in-Some : goal.returns-in-Some
returns-in-Some c =
    let m = c.args.m.now in
    let es = exprs_of m.code.file c.args.exprs.now in
    let given = callee c.args.place es in
    known_then m c.call_with.new.m (expr_of m.code.file c.args.function.now) (c.in-Some.value, c.in-Some.steps) c.call_with.result (value_goes (setting_of m) given) c.in-Some.ensures
    (goes _ c.call_with.result c.call_with.new.m
    (λ i. around_value m (waiting_in m) (arguments_then (setting_of m) es (arguments_in (arena_in m).held (c.no_arguments-given.ensures i)) (all_calls (setting_of m) c.args.place (value_of (arena_in m) c.in-Some.value)) (state_in (arena_in m) c.in-Some.steps)))
    c.call_with.ensures)
