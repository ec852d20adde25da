use Rattle.std.proofs.Common.{◌≡◌, drop}
use Rattle.yaml_spec.specs.Blocks.{too_long}
use Rattle.yaml_spec.specs.Held.{plain_lines}
use Rattle.yaml_blocks.proofs.indent.too_long.Given as goal

abbrev pub invariant-loop-line : goal.invariant-loop-line
invariant-loop-line l = too_long l.indent (plain_lines (drop l.line-index l.below)) ≡ too_long l.indent (plain_lines l.below)
