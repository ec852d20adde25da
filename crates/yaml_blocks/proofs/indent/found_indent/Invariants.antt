use Rattle.std.proofs.Common.{◌≡◌, drop}
use Rattle.yaml_spec.specs.Blocks.{found_indent}
use Rattle.yaml_spec.specs.Held.{plain_lines}
use Rattle.yaml_blocks.proofs.indent.found_indent.Given as goal

abbrev pub invariant-loop-line : goal.invariant-loop-line
invariant-loop-line l = found_indent l.least (plain_lines (drop l.line-index l.below)) ≡ found_indent l.least (plain_lines l.below)
