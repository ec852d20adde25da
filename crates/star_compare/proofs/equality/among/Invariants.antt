use Rattle.star_steps.proofs.Names.{among, ◌≡◌, length, seen, OwnsAll, value_of, values_of, state_in}
use Rattle.star_compare.specs.Alike.{alike, among_by}
use Rattle.star_compare.proofs.equality.among.Given as goal

-- what is left of the members decides
abbrev pub invariant-loop-rest : goal.invariant-loop-rest
invariant-loop-rest l = record {
  owns : OwnsAll (seen l.arena) l.rest;
  same : among l.fn.place (value_of (seen l.arena) l.value) (values_of (seen l.arena) l.members) (state_in (seen l.arena) l.initial.steps)
      ≡ among_by (alike 100 l.fn.place) l.fn.place (value_of (seen l.arena) l.value) (values_of (seen l.arena) l.rest) (state_in (seen l.arena) l.steps);
}

abbrev pub decreases-loop-rest : goal.decreases-loop-rest
decreases-loop-rest l = length l.rest
