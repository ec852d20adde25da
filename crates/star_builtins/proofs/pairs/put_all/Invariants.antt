use Rattle.std.proofs.Common.{◌≡◌, [], length}
use Rattle.star_steps.specs.Names.{Each, OwnsPair, pairs_in, put_pairs, seen}
use Rattle.star_builtins.proofs.pairs.put_all.Given as goal

-- the rest is put onto what was put
abbrev pub invariant-loop-pair : goal.invariant-loop-pair
invariant-loop-pair l = record {
  pairs : put_pairs (pairs_in (seen l.arena).held l.all.entries) (pairs_in (seen l.arena).held l.rest) ≡ put_pairs [] (pairs_in (seen l.arena).held l.pairs);
  owns : Each (OwnsPair (seen l.arena)) l.all.entries;
  rest : Each (OwnsPair (seen l.arena)) l.rest;
}

abbrev pub decreases-loop-pair : goal.decreases-loop-pair
decreases-loop-pair l = length l.rest
