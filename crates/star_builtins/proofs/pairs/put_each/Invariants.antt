use Rattle.std.proofs.Common.{◌≡◌, ℕ, length}
use Rattle.builtin_spec.specs.Dicts.{put_each}
use Rattle.star_steps.specs.Names.{Each, Grows, OwnsPair, pairs_in, seen, state_in}
use Rattle.star_builtins.proofs.pairs.put_each.Given as goal

-- the pairs that are left are put in turn
abbrev pub invariant-loop-pair : goal.invariant-loop-pair
invariant-loop-pair l = record {
  same : (n : ℕ) → put_each l.at l.dict.at (pairs_in (seen l.fn.arena).held l.pairs) (state_in (seen l.fn.arena) n) ≡ put_each l.at l.dict.at (pairs_in (seen l.arena).held l.rest) (state_in (seen l.arena) n);
  rest : Each (OwnsPair (seen l.arena)) l.rest;
  grows : Grows (seen l.fn.arena) (seen l.arena);
}

abbrev pub decreases-loop-pair : goal.decreases-loop-pair
decreases-loop-pair l = length l.rest
