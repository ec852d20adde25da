use Rattle.star_steps.proofs.Names.{seen}
use Rattle.star_ops.proofs.rows.unary.Goals as goal

pub returns-in-Minus-clause-row : goal.returns-in-Minus-clause-row
returns-in-Minus-clause-row c = rw c.in-Minus.is (c.negative.ensures (seen c.args.arena.now) c.args.work.now.steps)

pub returns-in-Plus-clause-row : goal.returns-in-Plus-clause-row
returns-in-Plus-clause-row c = rw c.in-Plus.is (c.positive.ensures (seen c.args.arena.now) c.args.work.now.steps)

pub returns-in-Invert-clause-row : goal.returns-in-Invert-clause-row
returns-in-Invert-clause-row c = rw c.in-Invert.is (c.inverse.ensures (seen c.args.arena.now) c.args.work.now.steps)
