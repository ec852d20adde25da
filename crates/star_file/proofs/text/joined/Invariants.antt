use Rattle.std.proofs.Common.{◌≡◌, ◌++◌, drop, string_bytes}
use Rattle.world_spec.specs.StarFiles.{lines_text}
use Rattle.yaml_spec.specs.Held.{plain_lines}
use Rattle.star_file.proofs.text.joined.Given as goal

abbrev pub invariant-loop-line : goal.invariant-loop-line
invariant-loop-line l = string_bytes l.text ++ lines_text (plain_lines (drop l.line-index l.lines)) ≡ lines_text (plain_lines l.lines)
