use Rattle.star_steps.proofs.Names.{◌≡◌, ◌+◌, ◌≤◌, length, pairs_at, new_keys, seen}
use Rattle.star_fragments.specs.Fresh.{OwnsPairs, pairs_of}
use Rattle.star_ops.proofs.unions.new_keys.Given as goal

abbrev pub invariant-loop-key : goal.invariant-loop-key
invariant-loop-key l = record {
  owns : OwnsPairs (seen l.arena) l.rest;
  counted : l.fresh + new_keys (pairs_at l.left.at (seen l.arena).store) (pairs_of (seen l.arena) l.rest) ≡ new_keys (pairs_at l.left.at (seen l.arena).store) (pairs_at l.fn.right.at (seen l.arena).store);
  few : l.fresh + length l.rest ≤ length l.initial.rest;
}

abbrev pub decreases-loop-key : goal.decreases-loop-key
decreases-loop-key l = length l.rest
