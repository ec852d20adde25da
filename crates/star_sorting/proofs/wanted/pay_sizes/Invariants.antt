use Rattle.star_steps.proofs.Names.{◌≡◌, length, seen, OwnsAll, values_of, state_in}
use Rattle.builtin_spec.specs.Sorting.{all_sized}
use Rattle.star_sorting.proofs.wanted.pay_sizes.Given as goal

-- what is left of the values decides
abbrev pub invariant-loop-first : goal.invariant-loop-first
invariant-loop-first l = record {
  owns : OwnsAll (seen l.arena) l.rest;
  same : all_sized l.at (values_of (seen l.arena) l.values) (state_in (seen l.arena) l.initial.steps) ≡ all_sized l.at (values_of (seen l.arena) l.rest) (state_in (seen l.arena) l.steps);
}

abbrev pub decreases-loop-first : goal.decreases-loop-first
decreases-loop-first l = length l.rest
