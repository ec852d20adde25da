use Rattle.std.proofs.Common.{◌≡◌, ◌++◌, length, map as each}
use Rattle.star_steps.proofs.Names.{Each, Grows, OwnsAll, OwnsPair, pairs_in, seen, values_of}
use Rattle.star_builtins.specs.Listing.{listed}
use Rattle.star_builtins.proofs.dicts.parts.Given as goal

-- what was made, and then what is listed of the rest
abbrev pub invariant-loop-pair : goal.invariant-loop-pair
invariant-loop-pair l = record {
  values : values_of (seen l.arena) l.parts ++ each (listed l.what) (pairs_in (seen l.fn.arena).held l.rest) ≡ each (listed l.what) (pairs_in (seen l.fn.arena).held l.pairs);
  rest : Each (OwnsPair (seen l.fn.arena)) l.rest;
  owns : OwnsAll (seen l.arena) l.parts;
  store : (seen l.arena).store ≡ (seen l.fn.arena).store;
  grows : Grows (seen l.fn.arena) (seen l.arena);
}

abbrev pub decreases-loop-pair : goal.decreases-loop-pair
decreases-loop-pair l = length l.rest
