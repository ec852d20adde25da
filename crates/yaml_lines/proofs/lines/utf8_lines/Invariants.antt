use Rattle.std.proofs.Common.{length}
use Rattle.yaml_lines.proofs.Cutting.{IsCutting}
use Rattle.yaml_lines.proofs.lines.utf8_lines.Given as goal

abbrev pub invariant-loop-rest : goal.invariant-loop-rest
invariant-loop-rest l = IsCutting l.file l.bytes l.lines l.number l.rest

abbrev pub decreases-loop-rest : goal.decreases-loop-rest
decreases-loop-rest l = length l.rest
