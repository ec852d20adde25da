use Rattle.operator_spec.specs.Operators.{unary_row}
use Rattle.star_tree.specs.Whole.{unary_operator_of}
use Rattle.star_values.specs.View.{value_of}
use Rattle.star_eval.specs.View.{arena_in}
use Rattle.star_eval.proofs.Going.{gives_on}
use Rattle.star_eval.proofs.eval.operated_on.Goals as goal

pub returns : goal.returns
returns c =
    let m = c.args.m.now in
    gives_on m (record m.session { arena = c.unary.new.arena; work = c.unary.new.work }) c.requires.sound (unary_row c.args.place (unary_operator_of c.args.op) (value_of (arena_in m) c.args.operand)) c.unary.result c.settle.result
    c.unary.ensures.row c.settle.ensures
