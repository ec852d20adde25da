use Rattle.std.proofs.Common.{◌≡◌, length}
use Rattle.yaml_spec.specs.Scalars.{skip_digits}
use Rattle.yaml_kinds.proofs.number.skip_digits.Given as goal

abbrev pub invariant-loop-byte : goal.invariant-loop-byte
invariant-loop-byte l = skip_digits l.rest ≡ skip_digits l.text

abbrev pub decreases-loop-byte : goal.decreases-loop-byte
decreases-loop-byte l = length l.rest
