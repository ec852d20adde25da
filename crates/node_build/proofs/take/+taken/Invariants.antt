use Rattle.std.proofs.Common.{◌+◌, ◌*◌, drop}
use Rattle.star_steps.specs.Meets.{state_in}
use Rattle.star_values.specs.Objects.{seen}
use Rattle.star_values.specs.View.{values_of}
use Rattle.value_spec.specs.Store.{pairs_at}
use Rattle.node_build.specs.Taking.{field_pairs, members_taken, pairs_taken}
use Rattle.node_build.proofs.Taking.{PairsSoFar, SoFar}
use Rattle.node_build.proofs.take.+taken.Given as goal

-- what is left of the members, or of the pairs, decides
abbrev pub invariant-member_trees-loop-member : goal.invariant-member_trees-loop-member
invariant-member_trees-loop-member l =
    SoFar l.levels l.place (members_taken l.levels l.place (values_of (seen l.arena) l.members) (state_in (seen l.arena) l.initial.steps)) l.trees
    (values_of (seen l.arena) (drop l.member-index l.members)) (state_in (seen l.arena) l.steps)

abbrev pub invariant-dict_pairs-loop-i : goal.invariant-dict_pairs-loop-i
invariant-dict_pairs-loop-i l =
    PairsSoFar l.levels l.place (pairs_taken l.levels l.place (pairs_at l.dict.at (seen l.arena).store) (state_in (seen l.arena) l.initial.steps)) l.pairs
    (drop l.i (pairs_at l.dict.at (seen l.arena).store)) (state_in (seen l.arena) l.steps)

abbrev pub invariant-struct_pairs-loop-field : goal.invariant-struct_pairs-loop-field
invariant-struct_pairs-loop-field l =
    PairsSoFar l.levels l.place (pairs_taken l.levels l.place (field_pairs (seen l.arena).held l.fields) (state_in (seen l.arena) l.initial.steps)) l.pairs
    (field_pairs (seen l.arena).held (drop l.field-index l.fields)) (state_in (seen l.arena) l.steps)

-- members have one level less
abbrev pub decreases-list_tree : goal.decreases-list_tree
decreases-list_tree l = 4 * l.levels

abbrev pub decreases-dict_tree : goal.decreases-dict_tree
decreases-dict_tree l = 4 * l.levels

abbrev pub decreases-struct_tree : goal.decreases-struct_tree
decreases-struct_tree l = 4 * l.levels

abbrev pub decreases-taken_tree : goal.decreases-taken_tree
decreases-taken_tree l = 4 * l.levels + 1

abbrev pub decreases-member_tree : goal.decreases-member_tree
decreases-member_tree l = 4 * l.levels + 2

abbrev pub decreases-dict_pair : goal.decreases-dict_pair
decreases-dict_pair l = 4 * l.levels + 2

abbrev pub decreases-struct_pair : goal.decreases-struct_pair
decreases-struct_pair l = 4 * l.levels + 2

abbrev pub decreases-member_trees : goal.decreases-member_trees
decreases-member_trees l = 4 * l.levels + 3

abbrev pub decreases-dict_pairs : goal.decreases-dict_pairs
decreases-dict_pairs l = 4 * l.levels + 3

abbrev pub decreases-struct_pairs : goal.decreases-struct_pairs
decreases-struct_pairs l = 4 * l.levels + 3
