use Rattle.std.proofs.Common.{◌≡◌, ◌+◌, ℕ, length}
use Rattle.builtin_spec.specs.Lists.{equal_from}
use Rattle.star_steps.specs.Names.{OwnsAll, paid_by, seen, state_in, value_of, values_of}
use Rattle.star_builtins.proofs.lists.find.Given as goal

-- the place is sought among the members that are left
abbrev pub invariant-loop-first : goal.invariant-loop-first
invariant-loop-first l = record {
  owns : OwnsAll (seen l.arena) l.rest;
  count : l.place + length l.rest ≡ length l.members;
  same : (from : ℕ) →
      equal_from (paid_by l.each l.at) l.at (value_of (seen l.arena) l.sought) (values_of (seen l.arena) l.members) from (state_in (seen l.arena) l.initial.steps)
      ≡ equal_from (paid_by l.each l.at) l.at (value_of (seen l.arena) l.sought) (values_of (seen l.arena) l.rest) (from + l.place) (state_in (seen l.arena) l.steps);
}

abbrev pub decreases-loop-first : goal.decreases-loop-first
decreases-loop-first l = length l.rest
