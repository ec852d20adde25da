use Rattle.star_steps.proofs.Names.{◌≡◌, ◌-◌, ◌++◌, seen}
use Rattle.std.proofs.Common.{map as each}
use Rattle.star_sorting.specs.Places.{beside_from, pair_at}
use Rattle.star_sorting.proofs.order.places_of.Given as goal

-- those that have a place, and then those that are left
abbrev pub invariant-loop-place : goal.invariant-loop-place
invariant-loop-place l = each (pair_at (seen l.arena) l.keys l.members) l.places.items ++ beside_from (seen l.arena) l.keys l.members l.place ≡ beside_from (seen l.arena) l.keys l.members 0

abbrev pub decreases-loop-place : goal.decreases-loop-place
decreases-loop-place l = l.count - l.place
