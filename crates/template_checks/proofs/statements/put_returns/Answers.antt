use Rattle.std.proofs.Common.{Some, arith, refl}
use Rattle.template_checks.specs.Held.{open_of}
use Rattle.template_checks.proofs.Steps.{returns_on}
use Rattle.template_checks.proofs.statements.put_returns.Goals as goal

pub loop-stmt-preserved : goal.loop-stmt-preserved
loop-stmt-preserved c =
    returns_on c.args.file (Some (open_of c.in-Some.block)) c.args.stmts.now c.loop-stmt.stmt-index c.stmt-item.result _ _ _ (omega arith) c.stmt-item.is c.loop-stmt.invariant (c.in_ok-put_return.ensures (open_of c.in-Some.block) refl)
