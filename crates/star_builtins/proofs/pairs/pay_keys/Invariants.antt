use Rattle.std.proofs.Common.{◌≡◌, length}
use Rattle.builtin_spec.specs.Dicts.{keys_sized}
use Rattle.star_steps.specs.Names.{Each, OwnsPair, pairs_in, seen, state_in}
use Rattle.star_builtins.proofs.pairs.pay_keys.Given as goal

-- the sizes of the keys that are left go on from those before
abbrev pub invariant-loop-pair : goal.invariant-loop-pair
invariant-loop-pair l = record {
  same : keys_sized l.at (pairs_in (seen l.arena).held l.pairs) (state_in (seen l.arena) l.initial.steps) ≡ keys_sized l.at (pairs_in (seen l.arena).held l.rest) (state_in (seen l.arena) l.steps);
  rest : Each (OwnsPair (seen l.arena)) l.rest;
}

abbrev pub decreases-loop-pair : goal.decreases-loop-pair
decreases-loop-pair l = length l.rest
