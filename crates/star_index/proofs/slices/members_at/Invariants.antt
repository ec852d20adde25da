use Rattle.star_steps.proofs.Names.{◌≡◌}
use Rattle.star_index.proofs.Names.{picked}
use Rattle.star_index.proofs.slices.members_at.Given as goal

abbrev pub invariant-loop-number : goal.invariant-loop-number
invariant-loop-number l = l.cut ≡ picked l.members l.number l.places.first l.places.step
