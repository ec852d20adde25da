use Rattle.std.proofs.Common.{◌≡◌, ◌++◌, drop}
use Rattle.yaml_noted.specs.View.{comments_of as comments_told}
use Rattle.yaml_spec.specs.Held.{plain_lines}
use Rattle.yaml_spec.specs.Read.{comments_of}
use Rattle.yaml_read.proofs.between.push_comments.Given as goal

abbrev pub invariant-loop-line : goal.invariant-loop-line
invariant-loop-line l = comments_told l.all ++ comments_of (plain_lines (drop l.line-index l.lines)) ≡ comments_told l.initial.all ++ comments_of (plain_lines l.lines)
