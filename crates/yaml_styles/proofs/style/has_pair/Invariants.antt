use Rattle.std.proofs.Common.{◌≡◌, length}
use Rattle.yaml_spec.specs.Text.{has_pair}
use Rattle.yaml_styles.proofs.style.has_pair.Given as goal

abbrev pub invariant-loop-rest : goal.invariant-loop-rest
invariant-loop-rest l = has_pair l.first l.second l.rest ≡ has_pair l.first l.second l.text

abbrev pub decreases-loop-rest : goal.decreases-loop-rest
decreases-loop-rest l = length l.rest
