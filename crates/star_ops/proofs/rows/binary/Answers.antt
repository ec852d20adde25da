use Rattle.star_steps.proofs.Names.{seen, value_of, state_in, gives_same}
use Rattle.star_integers.specs.declared.operators.IntegerOp.TheVariants as integer
use Rattle.star_ops.proofs.IntegerRows.{row_of_ints}
use Rattle.star_ops.proofs.rows.binary.Goals as goal

pub returns-in-Remainder-clause-row : goal.returns-in-Remainder-clause-row
returns-in-Remainder-clause-row c = rw c.in-Remainder.is (c.remainder.ensures (seen c.args.arena.now) c.args.work.now.steps)

pub returns-in-Subtract-clause-row : goal.returns-in-Subtract-clause-row
returns-in-Subtract-clause-row c =
    let a = seen c.args.arena.now in
    rw c.in-Subtract.is (gives_same _ _ _ _ _ _ (row_of_ints integer.Subtract c.args.place (value_of a c.args.left) (value_of a c.args.right) (state_in a c.args.work.now.steps) tt) (c.on_integers.ensures a c.args.work.now.steps))

pub returns-in-FloorDivide-clause-row : goal.returns-in-FloorDivide-clause-row
returns-in-FloorDivide-clause-row c =
    let a = seen c.args.arena.now in
    rw c.in-FloorDivide.is (gives_same _ _ _ _ _ _ (row_of_ints integer.FloorDivide c.args.place (value_of a c.args.left) (value_of a c.args.right) (state_in a c.args.work.now.steps) tt) (c.on_integers-in-FloorDivide.ensures a c.args.work.now.steps))

pub returns-in-BitAnd-clause-row : goal.returns-in-BitAnd-clause-row
returns-in-BitAnd-clause-row c =
    let a = seen c.args.arena.now in
    rw c.in-BitAnd.is (gives_same _ _ _ _ _ _ (row_of_ints integer.BitAnd c.args.place (value_of a c.args.left) (value_of a c.args.right) (state_in a c.args.work.now.steps) tt) (c.on_integers-in-BitAnd.ensures a c.args.work.now.steps))

pub returns-in-BitXor-clause-row : goal.returns-in-BitXor-clause-row
returns-in-BitXor-clause-row c =
    let a = seen c.args.arena.now in
    rw c.in-BitXor.is (gives_same _ _ _ _ _ _ (row_of_ints integer.BitXor c.args.place (value_of a c.args.left) (value_of a c.args.right) (state_in a c.args.work.now.steps) tt) (c.on_integers-in-BitXor.ensures a c.args.work.now.steps))

pub returns-in-ShiftLeft-clause-row : goal.returns-in-ShiftLeft-clause-row
returns-in-ShiftLeft-clause-row c =
    let a = seen c.args.arena.now in
    rw c.in-ShiftLeft.is (gives_same _ _ _ _ _ _ (row_of_ints integer.ShiftLeft c.args.place (value_of a c.args.left) (value_of a c.args.right) (state_in a c.args.work.now.steps) tt) (c.on_integers-in-ShiftLeft.ensures a c.args.work.now.steps))

pub returns-in-ShiftRight-clause-row : goal.returns-in-ShiftRight-clause-row
returns-in-ShiftRight-clause-row c =
    let a = seen c.args.arena.now in
    rw c.in-ShiftRight.is (gives_same _ _ _ _ _ _ (row_of_ints integer.ShiftRight c.args.place (value_of a c.args.left) (value_of a c.args.right) (state_in a c.args.work.now.steps) tt) (c.on_integers-in-ShiftRight.ensures a c.args.work.now.steps))
