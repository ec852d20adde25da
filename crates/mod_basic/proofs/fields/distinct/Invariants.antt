use Rattle.std.proofs.Common.{◌≡◌, ◌++◌, length}
use Rattle.star_steps.specs.Names.{Each, OwnsPair, pairs_in, seen}
use Rattle.mod_basic.specs.Walks.{OwnsPairs, pairs_of}
use Rattle.mod_basic.proofs.fields.distinct.Given as goal

-- the pairs so far, and then the rest
abbrev pub invariant-loop-pair : goal.invariant-loop-pair
invariant-loop-pair l = record {
  pairs : pairs_in (seen l.arena).held l.all.entries ++ pairs_of (seen l.arena) l.rest ≡ pairs_of (seen l.arena) l.fn.pairs;
  owns : Each (OwnsPair (seen l.arena)) l.all.entries;
  rest : OwnsPairs (seen l.arena) l.rest;
}

abbrev pub decreases-loop-pair : goal.decreases-loop-pair
decreases-loop-pair l = length l.rest
