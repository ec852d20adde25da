use Rattle.std.proofs.Common.{◌≡◌, ◌++◌, length, map as each, true}
use Rattle.builtin_spec.specs.Builtins.{all_have_members, members_or_none}
use Rattle.star_steps.proofs.Names.{Each, OwnsAll, members_in, seen, values_of}
use Rattle.star_builtins.proofs.sequences.members_of_each.Given as goal

-- the members that were taken, and then those of the values that are left
abbrev pub invariant-loop-first : goal.invariant-loop-first
invariant-loop-first l = record {
  members : each (values_of (seen l.arena)) l.lists ++ each (λ v. members_or_none (members_in (seen l.arena).store v)) (values_of (seen l.arena) l.rest) ≡ each (λ v. members_or_none (members_in (seen l.arena).store v)) (values_of (seen l.arena) l.values);
  owns : Each (OwnsAll (seen l.arena)) l.lists;
  rest : OwnsAll (seen l.arena) l.rest;
  kinds : all_have_members (seen l.arena).store (values_of (seen l.arena) l.rest) ≡ true;
}

abbrev pub decreases-loop-first : goal.decreases-loop-first
decreases-loop-first l = length l.rest
