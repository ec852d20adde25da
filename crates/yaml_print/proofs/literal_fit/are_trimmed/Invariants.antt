use Rattle.std.proofs.Common.{◌≡◌, length}
use denote.Text.{Utf8}
use denote.Shadow.{shadow}
use Rattle.yaml_spec.specs.Text.{are_trimmed, pieces}
use Rattle.yaml_print.proofs.literal_fit.are_trimmed.Given as goal

abbrev pub invariant-loop-line : goal.invariant-loop-line
invariant-loop-line l = shadow (Utf8 l.rest) × (are_trimmed (pieces l.rest) ≡ are_trimmed (pieces l.text))

abbrev pub decreases-loop-line : goal.decreases-loop-line
decreases-loop-line l = length l.rest
