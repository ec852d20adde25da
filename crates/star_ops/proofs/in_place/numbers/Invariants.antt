use Rattle.star_steps.proofs.Names.{◌≡◌, map, progression, int_value, seen, OwnsAll, values_of}
use Rattle.star_ops.proofs.in_place.numbers.Given as goal

abbrev pub invariant-loop-place : goal.invariant-loop-place
invariant-loop-place l = (values_of (seen l.arena) l.numbers ≡ map int_value (progression l.place l.from l.step)) × OwnsAll (seen l.arena) l.numbers
