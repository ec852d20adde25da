use Rattle.std.proofs.Common.{arith}
use Rattle.yaml_lines.proofs.Cutting.{taken}
use Rattle.yaml_lines.proofs.lines.utf8_lines.Goals as goal

pub read_line-requires : goal.read_line-requires
read_line-requires c = omega (arith, c.loop-rest.invariant.counted, c.loop-rest.invariant.from_one, c.split_line.ensures.within)

pub loop-rest-preserved : goal.loop-rest-preserved
loop-rest-preserved c =
    taken _ _ _ _ _ _ _ _ _ c.loop-rest.invariant c.split_line.ensures.lines c.in_ok-line.ensures.line c.in_ok-line.ensures.indent c.split_line.ensures.shorter c.in_ok-push_line.ensures
