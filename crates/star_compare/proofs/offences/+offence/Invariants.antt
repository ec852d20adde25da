use Rattle.star_steps.proofs.Names.{◌≡◌, ◌+◌, ◌*◌, length, first_offence, seen, OwnsAll, values_from, values_of}
use Rattle.star_compare.proofs.offences.+offence.Given as goal

-- what is left of the members decides
abbrev pub invariant-first_offence-loop-rest : goal.invariant-first_offence-loop-rest
invariant-first_offence-loop-rest l = record {
  owns : OwnsAll (seen l.arena) l.rest;
  same : first_offence l.levels (values_from (values_of (seen l.arena) l.members)) ≡ first_offence l.levels (values_from (values_of (seen l.arena) l.rest));
}

abbrev pub decreases-first_offence-loop-rest : goal.decreases-first_offence-loop-rest
decreases-first_offence-loop-rest l = length l.rest

-- members have one level less
abbrev pub decreases-tuple_offence : goal.decreases-tuple_offence
decreases-tuple_offence l = 3 * l.levels

abbrev pub decreases-offence_within : goal.decreases-offence_within
decreases-offence_within l = 3 * l.levels + 1

abbrev pub decreases-first_offence : goal.decreases-first_offence
decreases-first_offence l = 3 * l.levels + 2
