use Rattle.std.proofs.Common.{◌+◌, ◌*◌, drop}
use Rattle.star_steps.specs.Meets.{state_in}
use Rattle.star_values.specs.Objects.{seen}
use Rattle.star_values.specs.View.{values_of}
use Rattle.value_spec.specs.Store.{pairs_at}
use Rattle.mod_json.specs.View.{field_pairs}
use Rattle.mod_json.specs.Walk.{each_item, each_member, value_item, value_member}
use Rattle.mod_json.proofs.InTurn.{ItemsSoFar, MembersSoFar}
use Rattle.mod_json.proofs.values.+values.Given as goal

-- what is left of the members decides
abbrev pub invariant-value_items-loop-member : goal.invariant-value_items-loop-member
invariant-value_items-loop-member l =
    ItemsSoFar (value_item l.place l.levels) (each_item (value_item l.place l.levels) (values_of (seen l.arena) l.members) (state_in (seen l.arena) l.initial.steps)) l.items.items
    (values_of (seen l.arena) (drop l.member-index l.members)) (state_in (seen l.arena) l.steps)

abbrev pub invariant-dict_members-loop-i : goal.invariant-dict_members-loop-i
invariant-dict_members-loop-i l =
    MembersSoFar (value_member l.place l.levels) (each_member (value_member l.place l.levels) (pairs_at l.dict.at (seen l.arena).store) (state_in (seen l.arena) l.initial.steps)) l.entries.items
    (drop l.i (pairs_at l.dict.at (seen l.arena).store)) (state_in (seen l.arena) l.steps)

abbrev pub invariant-struct_members-loop-field : goal.invariant-struct_members-loop-field
invariant-struct_members-loop-field l =
    MembersSoFar (value_member l.place l.levels) (each_member (value_member l.place l.levels) (field_pairs (seen l.arena).held l.fields) (state_in (seen l.arena) l.initial.steps)) l.entries.items
    (field_pairs (seen l.arena).held (drop l.field-index l.fields)) (state_in (seen l.arena) l.steps)

-- members have one level less
abbrev pub decreases-list_json : goal.decreases-list_json
decreases-list_json l = 4 * l.levels

abbrev pub decreases-dict_json : goal.decreases-dict_json
decreases-dict_json l = 4 * l.levels

abbrev pub decreases-struct_json : goal.decreases-struct_json
decreases-struct_json l = 4 * l.levels

abbrev pub decreases-value_json : goal.decreases-value_json
decreases-value_json l = 4 * l.levels + 1

abbrev pub decreases-value_item : goal.decreases-value_item
decreases-value_item l = 4 * l.levels + 2

abbrev pub decreases-dict_member : goal.decreases-dict_member
decreases-dict_member l = 4 * l.levels + 2

abbrev pub decreases-struct_member : goal.decreases-struct_member
decreases-struct_member l = 4 * l.levels + 2

abbrev pub decreases-value_items : goal.decreases-value_items
decreases-value_items l = 4 * l.levels + 3

abbrev pub decreases-dict_members : goal.decreases-dict_members
decreases-dict_members l = 4 * l.levels + 3

abbrev pub decreases-struct_members : goal.decreases-struct_members
decreases-struct_members l = 4 * l.levels + 3
