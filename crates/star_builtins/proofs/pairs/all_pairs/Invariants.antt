use Rattle.std.proofs.Common.{◌≡◌, length}
use Rattle.builtin_spec.specs.Dicts.{all_pairs}
use Rattle.star_steps.specs.Names.{Each, OwnsAll, pairs_in, seen, values_of}
use Rattle.star_builtins.specs.Pairing.{OwnsBoth, pairs_then}
use Rattle.star_builtins.proofs.pairs.all_pairs.Given as goal

-- the pairs so far, and then those of the rest
abbrev pub invariant-loop-first : goal.invariant-loop-first
invariant-loop-first l = record {
  pairs : all_pairs (seen l.arena).store (values_of (seen l.arena) l.values) ≡ pairs_then (pairs_in (seen l.arena).held l.pairs) (all_pairs (seen l.arena).store (values_of (seen l.arena) l.rest));
  owns : Each (OwnsBoth (seen l.arena)) l.pairs;
  rest : OwnsAll (seen l.arena) l.rest;
}

abbrev pub decreases-loop-first : goal.decreases-loop-first
decreases-loop-first l = length l.rest
