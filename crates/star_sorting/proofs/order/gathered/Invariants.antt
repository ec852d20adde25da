use Rattle.star_steps.proofs.Names.{◌≡◌, ◌++◌, length}
use Rattle.std.proofs.Common.{map as each}
use Rattle.star_sorting.specs.Places.{value_at}
use Rattle.star_sorting.proofs.order.gathered.Given as goal

abbrev pub invariant-loop-rest : goal.invariant-loop-rest
invariant-loop-rest l = l.all ++ each (value_at l.members) l.rest ≡ each (value_at l.members) l.places

abbrev pub decreases-loop-rest : goal.decreases-loop-rest
decreases-loop-rest l = length l.rest
