use Rattle.std.proofs.Common.{◌≡◌, ◌++◌, length}
use Rattle.star_steps.specs.Names.{Each, Grows, OwnsFields, OwnsPair, fields_in, pairs_in, seen}
use Rattle.value_spec.specs.Binding.{text_pairs}
use Rattle.mod_basic.proofs.fields.named_pairs.Given as goal

-- the pairs so far, and then those of the rest of the arguments
abbrev pub invariant-loop-field : goal.invariant-loop-field
invariant-loop-field l = record {
  pairs : pairs_in (seen l.arena).held l.pairs ++ text_pairs (fields_in (seen l.fn.arena).held l.rest) ≡ text_pairs (fields_in (seen l.fn.arena).held l.named);
  owns : Each (OwnsPair (seen l.arena)) l.pairs;
  rest : OwnsFields (seen l.fn.arena) l.rest;
  store : (seen l.arena).store ≡ (seen l.fn.arena).store;
  grows : Grows (seen l.fn.arena) (seen l.arena);
}

abbrev pub decreases-loop-field : goal.decreases-loop-field
decreases-loop-field l = length l.rest
