use Rattle.std.proofs.Common.{◌≡◌, length}
use Rattle.object_arena.specs.Names.{Each, OwnsFields, OwnsPair, fields_in, pairs_in, seen}
use Rattle.star_spec.specs.Eval.{as_fields}
use Rattle.star_calls.proofs.Stars.{behind_all}
use Rattle.star_calls.proofs.spread.fields_of.Given as goal

abbrev pub invariant-loop-key : goal.invariant-loop-key
invariant-loop-key l = record {
  same : as_fields (pairs_in (seen l.fn.arena).held l.fn.pairs) ≡ behind_all (fields_in (seen l.fn.arena).held l.fields) (as_fields (pairs_in (seen l.fn.arena).held l.rest));
  pairs : Each (OwnsPair (seen l.fn.arena)) l.rest;
  owns : OwnsFields (seen l.fn.arena) l.fields;
}

abbrev pub decreases-loop-key : goal.decreases-loop-key
decreases-loop-key l = length l.rest
