use Rattle.std.proofs.Common.{◌+◌, ◌*◌, drop}
use Rattle.star_steps.specs.Meets.{state_in}
use Rattle.star_values.specs.Objects.{seen}
use Rattle.star_values.specs.Owns.{Owns, OwnsPair}
use Rattle.star_values.specs.View.{value_of, values_of}
use Rattle.mod_basic.specs.Walks.{in_turn, member_converted, pair_converted, pairs_of}
use Rattle.mod_basic.proofs.Walking.{InTurn, pair_of}
use Rattle.mod_basic.proofs.walks.+walk.Given as goal

-- what is left of the members, or of the pairs, decides
abbrev pub invariant-members_done-loop-member : goal.invariant-members_done-loop-member
invariant-members_done-loop-member l =
    let turned = member_converted l.way l.inside.levels l.inside.place in
    let was = seen l.initial.arena in
    InTurn value_of Owns turned (in_turn turned (values_of was l.members) (state_in was l.initial.steps)) (values_of was (drop l.member-index l.members)) l.values was (seen l.arena) l.steps

abbrev pub invariant-pairs_done-loop-pair : goal.invariant-pairs_done-loop-pair
invariant-pairs_done-loop-pair l =
    let turned = pair_converted l.way l.inside.levels l.inside.place in
    let was = seen l.initial.arena in
    InTurn pair_of OwnsPair turned (in_turn turned (pairs_of was l.pairs) (state_in was l.initial.steps)) (pairs_of was (drop l.pair-index l.pairs)) l.done was (seen l.arena) l.steps

-- members have one level less
abbrev pub decreases-members_done : goal.decreases-members_done
decreases-members_done l = 4 * l.at.levels

abbrev pub decreases-pairs_done : goal.decreases-pairs_done
decreases-pairs_done l = 4 * l.at.levels

abbrev pub decreases-list_done : goal.decreases-list_done
decreases-list_done l = 4 * l.at.levels + 1

abbrev pub decreases-tuple_done : goal.decreases-tuple_done
decreases-tuple_done l = 4 * l.at.levels + 1

abbrev pub decreases-dict_done : goal.decreases-dict_done
decreases-dict_done l = 4 * l.at.levels + 1

abbrev pub decreases-struct_done : goal.decreases-struct_done
decreases-struct_done l = 4 * l.at.levels + 1

abbrev pub decreases-converted : goal.decreases-converted
decreases-converted l = 4 * l.at.levels + 2

abbrev pub decreases-member_done : goal.decreases-member_done
decreases-member_done l = 4 * l.at.levels + 3

abbrev pub decreases-pair_done : goal.decreases-pair_done
decreases-pair_done l = 4 * l.at.levels + 3
