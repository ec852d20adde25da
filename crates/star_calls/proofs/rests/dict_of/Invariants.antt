use Rattle.std.proofs.Common.{◌≡◌, length}
use Rattle.object_arena.specs.Names.{Each, Grows, OwnsFields, OwnsPair, fields_in, pairs_in, seen}
use Rattle.value_spec.specs.Binding.{text_pairs}
use Rattle.star_calls.proofs.Dicts.{Put}
use Rattle.star_calls.proofs.rests.dict_of.Given as goal

abbrev pub invariant-loop-field : goal.invariant-loop-field
invariant-loop-field l = record {
  put : Put (text_pairs (fields_in (seen l.fn.arena).held l.named)) (pairs_in (seen l.arena).held l.pairs.entries) (fields_in (seen l.arena).held l.rest);
  pairs : Each (OwnsPair (seen l.arena)) l.pairs.entries;
  owns : OwnsFields (seen l.arena) l.rest;
  store : (seen l.arena).store ≡ (seen l.fn.arena).store;
  grows : Grows (seen l.fn.arena) (seen l.arena);
}

abbrev pub decreases-loop-field : goal.decreases-loop-field
decreases-loop-field l = length l.rest
