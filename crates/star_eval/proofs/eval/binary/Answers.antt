use Rattle.star_tree.specs.Whole.{binary_operator_of, expr_of}
use Rattle.star_eval.specs.View.{setting_of}
use Rattle.star_eval.specs.Waiting.{right, value_goes}
use Rattle.star_eval.proofs.Going.{known_then}
use Rattle.star_eval.proofs.eval.binary.Goals as goal

pub right_operand-requires-clause-left : goal.right_operand-requires-clause-left
right_operand-requires-clause-left c = let h = c.in-Some.ensures in h.owned

pub returns-in-Some : goal.returns-in-Some
returns-in-Some c =
    let m = c.args.m.now in
    let b = right c.args.place (binary_operator_of c.args.op) (expr_of m.code.file c.args.b.now) in
    known_then m c.right_operand.new.m (expr_of m.code.file c.args.a.now) (c.in-Some.left, c.in-Some.steps) c.right_operand.result (value_goes (setting_of m) b) c.in-Some.ensures c.right_operand.ensures
