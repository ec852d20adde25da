use Rattle.std.proofs.Common.{◌≡◌, ◌+◌, length, drop}
use Rattle.yaml_spec.specs.Held.{plain_lines}
use Rattle.yaml_spec.specs.Read.{segments}
use Rattle.yaml_read.proofs.markers.front_len.Given as goal

abbrev pub invariant-loop-at : goal.invariant-loop-at
invariant-loop-at l = l.at + length (segments (plain_lines (drop l.at l.lines))).0 ≡ length (segments (plain_lines l.lines)).0
