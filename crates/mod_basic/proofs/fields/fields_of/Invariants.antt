use Rattle.std.proofs.Common.{◌≡◌, length}
use Rattle.star_steps.specs.Names.{OwnsFields, fields_in, seen}
use Rattle.mod_basic.specs.Walks.{OwnsPairs, fields_from, pairs_of}
use Rattle.mod_basic.proofs.Joining.{followed}
use Rattle.mod_basic.proofs.fields.fields_of.Given as goal

-- the fields so far, and then those of the rest of the pairs
abbrev pub invariant-loop-pair : goal.invariant-loop-pair
invariant-loop-pair l = record {
  fields : followed (fields_in (seen l.arena).held l.fields) (fields_from (pairs_of (seen l.arena) l.rest)) ≡ fields_from (pairs_of (seen l.arena) l.pairs);
  owns : OwnsFields (seen l.arena) l.fields;
  rest : OwnsPairs (seen l.arena) l.rest;
}

abbrev pub decreases-loop-pair : goal.decreases-loop-pair
decreases-loop-pair l = length l.rest
