use Rattle.std.proofs.Common.{◌≡◌, ◌∷◌, length}
use Rattle.builtin_spec.specs.Builtins.{least_of}
use Rattle.star_steps.proofs.Names.{OwnsAll, seen}
use Rattle.star_builtins.specs.Turns.{counts_of}
use Rattle.star_builtins.proofs.sequences.least_with.Given as goal

-- the least so far with those that are left
abbrev pub invariant-loop-first : goal.invariant-loop-first
invariant-loop-first l = record {
  least : least_of (l.least ∷ counts_of (seen l.arena) l.rest) ≡ least_of (l.number ∷ counts_of (seen l.arena) l.values);
  owns : OwnsAll (seen l.arena) l.rest;
}

abbrev pub decreases-loop-first : goal.decreases-loop-first
decreases-loop-first l = length l.rest
