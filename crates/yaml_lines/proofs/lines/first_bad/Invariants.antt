use Rattle.std.proofs.Common.{◌≡◌, drop}
use Rattle.yaml_spec.specs.Lines.{first_failing, has_good_chars}
use Rattle.yaml_spec.specs.Held.{plain_lines}
use Rattle.yaml_lines.proofs.lines.first_bad.Given as goal

abbrev pub invariant-loop-line : goal.invariant-loop-line
invariant-loop-line l = first_failing has_good_chars (plain_lines (drop l.line-index l.lines)) ≡ first_failing has_good_chars (plain_lines l.lines)
