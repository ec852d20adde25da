use Rattle.std.proofs.Common.{◌≡◌, ℕ, length}
use Rattle.builtin_spec.specs.Dicts.{all_keys}
use Rattle.star_steps.specs.Names.{Each, OwnsPair, pairs_in, seen, state_in}
use Rattle.star_builtins.specs.Pairing.{OwnsBoth}
use Rattle.star_builtins.proofs.pairs.all_keys.Given as goal

-- those before are keys
abbrev pub invariant-loop-pair : goal.invariant-loop-pair
invariant-loop-pair l = record {
  same : (n : ℕ) → all_keys l.at (pairs_in (seen l.arena).held l.pairs) (state_in (seen l.arena) n) ≡ all_keys l.at (pairs_in (seen l.arena).held l.rest) (state_in (seen l.arena) n);
  keys : Each (OwnsPair (seen l.arena)) l.rest → Each (OwnsPair (seen l.arena)) l.pairs;
  rest : Each (OwnsBoth (seen l.arena)) l.rest;
}

abbrev pub decreases-loop-pair : goal.decreases-loop-pair
decreases-loop-pair l = length l.rest
