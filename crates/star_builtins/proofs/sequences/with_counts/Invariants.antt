use Rattle.std.proofs.Common.{◌≡◌, ◌+◌, length}
use Rattle.builtin_spec.specs.Builtins.{sum_of}
use Rattle.star_steps.proofs.Names.{OwnsAll, seen}
use Rattle.star_builtins.specs.Turns.{counts_of}
use Rattle.star_builtins.proofs.sequences.with_counts.Given as goal

-- the sum so far with those that are left
abbrev pub invariant-loop-first : goal.invariant-loop-first
invariant-loop-first l = record {
  sum : l.sum + sum_of (counts_of (seen l.arena) l.rest) ≡ sum_of (counts_of (seen l.arena) l.values) + l.number;
  owns : OwnsAll (seen l.arena) l.rest;
}

abbrev pub decreases-loop-first : goal.decreases-loop-first
decreases-loop-first l = length l.rest
