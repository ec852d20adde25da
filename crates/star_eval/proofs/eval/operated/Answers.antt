use Rattle.builtin_spec.specs.Operators.{operator_row}
use Rattle.star_tree.specs.Whole.{binary_operator_of}
use Rattle.star_values.specs.View.{value_of}
use Rattle.star_eval.specs.View.{arena_in}
use Rattle.star_eval.proofs.Going.{gives_on}
use Rattle.star_eval.proofs.eval.operated.Goals as goal

pub returns : goal.returns
returns c =
    let m = c.args.m.now in
    gives_on m (record m.session { arena = c.binary.new.arena; work = c.binary.new.work }) c.requires.sound (operator_row c.args.place (binary_operator_of c.args.op) (value_of (arena_in m) c.args.left) (value_of (arena_in m) c.args.right)) c.binary.result c.settle.result
    c.binary.ensures.row c.settle.ensures
