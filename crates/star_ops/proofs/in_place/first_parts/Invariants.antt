use Rattle.star_steps.proofs.Names.{◌≡◌, ◌++◌, length}
use Rattle.star_ops.specs.Acts.{first_parts}
use Rattle.star_ops.proofs.in_place.first_parts.Given as goal

abbrev pub invariant-loop-key : goal.invariant-loop-key
invariant-loop-key l = l.firsts ++ first_parts l.rest ≡ first_parts l.fn.pairs

abbrev pub decreases-loop-key : goal.decreases-loop-key
decreases-loop-key l = length l.rest
