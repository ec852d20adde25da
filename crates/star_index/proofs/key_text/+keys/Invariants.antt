use Rattle.star_steps.proofs.Names.{◌≡◌, ◌+◌, ◌*◌, ◌++◌}
use Rattle.star_index.proofs.Names.{AreKeysWithin, OwnsAll, length, more_texts, seen, string_bytes, values_from, values_of}
use Rattle.star_index.proofs.key_text.+keys.Given as goal

abbrev pub decreases-push_key : goal.decreases-push_key
decreases-push_key l = 4 * l.levels

abbrev pub decreases-push_members : goal.decreases-push_members
decreases-push_members l = 4 * l.levels + 2

abbrev pub decreases-push_more : goal.decreases-push_more
decreases-push_more l = 4 * l.levels + 1

abbrev pub decreases-push_tuple : goal.decreases-push_tuple
decreases-push_tuple l = 4 * l.levels + 3

abbrev pub invariant-push_more-loop-rest : goal.invariant-push_more-loop-rest
invariant-push_more-loop-rest l = record {
  owned : OwnsAll (seen l.arena) l.rest;
  keys : AreKeysWithin l.levels (values_from (values_of (seen l.arena) l.rest));
  shown : string_bytes l.shown ++ more_texts (values_from (values_of (seen l.arena) l.rest)) ≡ string_bytes l.initial.shown ++ more_texts (values_from (values_of (seen l.arena) l.members));
}

abbrev pub decreases-push_more-loop-rest : goal.decreases-push_more-loop-rest
decreases-push_more-loop-rest l = length l.rest
