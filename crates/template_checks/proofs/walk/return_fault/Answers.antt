use Rattle.std.proofs.Common.{arith}
use Rattle.template_checks.specs.Held.{wrong_of}
use Rattle.template_checks.proofs.Steps.{flagged_more}
use Rattle.template_checks.proofs.walk.return_fault.Goals as goal

pub loop-one-preserved : goal.loop-one-preserved
loop-one-preserved c =
    flagged_more c.args.flags.now c.args.returned.now c.loop-one.one-index _ (wrong_of c.raised_fault.result) (wrong_of c.loop-one.wrong) (wrong_of c.earlier-wrong.result) (omega arith) c.raised_fault.ensures c.earlier-wrong.ensures c.loop-one.invariant
