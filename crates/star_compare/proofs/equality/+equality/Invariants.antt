use Rattle.star_steps.proofs.Names.{◌≡◌, ◌+◌, ◌*◌, length, pairs_at, all_found, equal_pairs, named_values, seen, Each, OwnsAll, OwnsFields, OwnsPair, fields_in, pairs_in, values_of, state_in}
use Rattle.star_compare.specs.Alike.{alike}
use Rattle.star_compare.proofs.equality.+equality.Given as goal

-- what is left to compare decides
abbrev pub invariant-pairs_equal-loop-lefts : goal.invariant-pairs_equal-loop-lefts
invariant-pairs_equal-loop-lefts l = record {
  lefts : OwnsAll (seen l.arena) l.lefts;
  rights : OwnsAll (seen l.arena) l.rights;
  same : equal_pairs (alike l.at.levels l.at.place) l.at.place (values_of (seen l.arena) l.left) (values_of (seen l.arena) l.right) (state_in (seen l.arena) l.initial.steps)
      ≡ equal_pairs (alike l.at.levels l.at.place) l.at.place (values_of (seen l.arena) l.lefts) (values_of (seen l.arena) l.rights) (state_in (seen l.arena) l.steps);
}

abbrev pub decreases-pairs_equal-loop-lefts : goal.decreases-pairs_equal-loop-lefts
decreases-pairs_equal-loop-lefts l = length l.lefts

-- what is left of the keys decides
abbrev pub invariant-keys_found-loop-key : goal.invariant-keys_found-loop-key
invariant-keys_found-loop-key l = record {
  owns : Each (OwnsPair (seen l.arena)) l.rest;
  same : all_found (alike l.at.levels l.at.place) l.at.place (pairs_at l.fn.left.at (seen l.arena).store) (pairs_at l.right.at (seen l.arena).store) (state_in (seen l.arena) l.initial.steps)
      ≡ all_found (alike l.at.levels l.at.place) l.at.place (pairs_in (seen l.arena).held l.rest) (pairs_at l.right.at (seen l.arena).store) (state_in (seen l.arena) l.steps);
}

abbrev pub decreases-keys_found-loop-key : goal.decreases-keys_found-loop-key
decreases-keys_found-loop-key l = length l.rest

-- what is left of the fields decides
abbrev pub invariant-names_found-loop-field : goal.invariant-names_found-loop-field
invariant-names_found-loop-field l = record {
  owns : OwnsFields (seen l.arena) l.rest;
  same : all_found (alike l.at.levels l.at.place) l.at.place (named_values (fields_in (seen l.arena).held l.left)) (named_values (fields_in (seen l.arena).held l.right)) (state_in (seen l.arena) l.initial.steps)
      ≡ all_found (alike l.at.levels l.at.place) l.at.place (named_values (fields_in (seen l.arena).held l.rest)) (named_values (fields_in (seen l.arena).held l.right)) (state_in (seen l.arena) l.steps);
}

abbrev pub decreases-names_found-loop-field : goal.decreases-names_found-loop-field
decreases-names_found-loop-field l = length l.rest

-- members have one level less
abbrev pub decreases-members_equal : goal.decreases-members_equal
decreases-members_equal l = 4 * l.at.levels

abbrev pub decreases-dicts_equal : goal.decreases-dicts_equal
decreases-dicts_equal l = 4 * l.at.levels

abbrev pub decreases-structs_equal : goal.decreases-structs_equal
decreases-structs_equal l = 4 * l.at.levels

abbrev pub decreases-equal_within : goal.decreases-equal_within
decreases-equal_within l = 4 * l.at.levels + 1

abbrev pub decreases-pair_equal : goal.decreases-pair_equal
decreases-pair_equal l = 4 * l.at.levels + 2

abbrev pub decreases-key_found : goal.decreases-key_found
decreases-key_found l = 4 * l.at.levels + 2

abbrev pub decreases-name_found : goal.decreases-name_found
decreases-name_found l = 4 * l.at.levels + 2

abbrev pub decreases-pairs_equal : goal.decreases-pairs_equal
decreases-pairs_equal l = 4 * l.at.levels + 3

abbrev pub decreases-keys_found : goal.decreases-keys_found
decreases-keys_found l = 4 * l.at.levels + 3

abbrev pub decreases-names_found : goal.decreases-names_found
decreases-names_found l = 4 * l.at.levels + 3
