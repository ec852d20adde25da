use Rattle.star_steps.proofs.Names.{◌≡◌, ◌<◌, Some, length, seen}
use Rattle.star_sorting.specs.Places.{beside_from, first_in, in_order_of, pair_at}
use Rattle.star_sorting.proofs.order.first_alone.Given as goal

-- the first of those from a place on
abbrev pub invariant-loop-place : goal.invariant-loop-place
invariant-loop-place l = record {
  keys : l.place < length l.keys;
  members : l.place < length l.members;
  first : Some (pair_at (seen l.arena) l.keys l.members l.first) ≡ first_in (in_order_of l.descending (seen l.arena) (beside_from (seen l.arena) l.keys l.members l.place));
}

abbrev pub decreases-loop-place : goal.decreases-loop-place
decreases-loop-place l = l.place
