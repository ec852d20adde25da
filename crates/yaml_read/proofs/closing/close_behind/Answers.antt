use Rattle.std.proofs.Common.{arith}
use Rattle.yaml_read.proofs.Blocks.{start, turn}
use Rattle.yaml_read.proofs.closing.close_behind.Goals as goal

pub inner-init : goal.inner-init
inner-init c = start _ _ _ _ c.requires c.or_null-found.ensures

pub inner-preserved : goal.inner-preserved
inner-preserved c = turn _ _ _ _ _ _ _ _ c.inner.invariant (omega arith) c.in-Some.ensures c.in_ok-closed-in-Some.ensures
