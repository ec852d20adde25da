use Rattle.std.proofs.Common.{arith}
use Rattle.star_resolve.proofs.Gathering.{gathered_more, gathered_whole}
use Rattle.star_resolve.proofs.gather.gather_all.Goals as goal

pub loop-at-preserved : goal.loop-at-preserved
loop-at-preserved c = λ file.
    gathered_more file c.args.code.now c.loop-at.at c.index-code-at.result _ _ (omega arith) (omega arith) c.index-code-at.is
    (c.loop-at.invariant file) (c.in_ok-gather.ensures file)

pub returns : goal.returns
returns c = λ file. gathered_whole file c.args.code.now c.loop-at.at _ c.loop-at-test.false (c.loop-at.invariant file)
