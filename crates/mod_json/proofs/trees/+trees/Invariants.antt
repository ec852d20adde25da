use Rattle.std.proofs.Common.{drop}
use Rattle.star_steps.specs.Meets.{state_in}
use Rattle.star_values.specs.Objects.{seen}
use Rattle.mod_json.specs.Walk.{each_item, each_member, tree_item, tree_member}
use Rattle.mod_json.proofs.InTurn.{ItemsSoFar, MembersSoFar}
use Rattle.mod_json.proofs.trees.+trees.Given as goal

abbrev pub invariant-tree_items-loop-tree : goal.invariant-tree_items-loop-tree
invariant-tree_items-loop-tree l =
    ItemsSoFar (tree_item l.place l.levels) (each_item (tree_item l.place l.levels) l.trees (state_in (seen l.arena) l.initial.steps)) l.items.items
    (drop l.tree-index l.trees) (state_in (seen l.arena) l.steps)

abbrev pub invariant-tree_members-loop-key : goal.invariant-tree_members-loop-key
invariant-tree_members-loop-key l =
    MembersSoFar (tree_member l.place l.levels) (each_member (tree_member l.place l.levels) l.pairs (state_in (seen l.arena) l.initial.steps)) l.entries.items
    (drop l.key-index l.pairs) (state_in (seen l.arena) l.steps)
