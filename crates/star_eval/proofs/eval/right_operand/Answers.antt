use Rattle.star_tree.specs.Whole.{binary_operator_of, expr_of}
use Rattle.builtin_spec.specs.Operators.{operator_row}
use Rattle.star_values.specs.View.{value_of}
use Rattle.star_eval.specs.View.{arena_in}
use Rattle.star_eval.proofs.Going.{known_then}
use Rattle.star_eval.proofs.eval.right_operand.Goals as goal

pub operated-requires-clause-right : goal.operated-requires-clause-right
operated-requires-clause-right c = let h = c.in-Some.ensures in h.owned

pub returns-in-Some : goal.returns-in-Some
returns-in-Some c =
    let m = c.args.m.now in
    known_then m c.operated.new.m (expr_of m.code.file c.args.b.now) (c.in-Some.value, c.in-Some.steps) c.operated.result (operator_row c.args.place (binary_operator_of c.args.op) (value_of (arena_in m) c.args.left)) c.in-Some.ensures c.operated.ensures
