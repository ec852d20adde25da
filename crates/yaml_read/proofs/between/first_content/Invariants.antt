use Rattle.std.proofs.Common.{◌≡◌, drop}
use Rattle.yaml_spec.specs.Held.{plain_lines}
use Rattle.yaml_spec.specs.Read.{first_content}
use Rattle.yaml_read.proofs.between.first_content.Given as goal

abbrev pub invariant-loop-line : goal.invariant-loop-line
invariant-loop-line l = first_content (plain_lines (drop l.line-index l.lines)) ≡ first_content (plain_lines l.lines)
