use Rattle.std.proofs.Common.{drop}
use Rattle.star_steps.specs.Meets.{state_in}
use Rattle.star_values.specs.Objects.{seen}
use Rattle.mod_json.specs.Walk.{built_item, built_member, each_item, each_member}
use Rattle.mod_json.proofs.InTurn.{ItemsSoFar, MembersSoFar}
use Rattle.mod_json.proofs.built.+built.Given as goal

abbrev pub invariant-built_items-loop-item : goal.invariant-built_items-loop-item
invariant-built_items-loop-item l =
    let f = built_item (seen l.arena).held l.place l.levels in
    ItemsSoFar f (each_item f l.items (state_in (seen l.arena) l.initial.steps)) l.all.items (drop l.item-index l.items) (state_in (seen l.arena) l.steps)

abbrev pub invariant-built_members-loop-item : goal.invariant-built_members-loop-item
invariant-built_members-loop-item l =
    let f = built_member (seen l.arena).held l.place l.levels in
    MembersSoFar f (each_member f l.items (state_in (seen l.arena) l.initial.steps)) l.entries.items (drop l.item-index l.items) (state_in (seen l.arena) l.steps)
