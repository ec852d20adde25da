use Rattle.std.proofs.Common.{◌≡◌, drop}
use Rattle.std.specs.Option.{option_map}
use Rattle.module_spec.specs.JsonCodec as plain
use Rattle.serde_json.specs.View.{items_view, members_view}
use Rattle.ytt_base.specs.View.{pairs_of, trees_of}
use Rattle.ytt_laws.proofs.InTurn.{and_pairs, and_trees}
use Rattle.mod_json.proofs.read.+read.Given as goal

-- what was read stands before what is left
abbrev pub invariant-trees_of-loop-item : goal.invariant-trees_of-loop-item
invariant-trees_of-loop-item l =
    plain.trees_of (items_view l.items) ≡ option_map (and_trees (trees_of l.trees)) (plain.trees_of (items_view (drop l.item-index l.items)))

abbrev pub invariant-pairs_of-loop-key : goal.invariant-pairs_of-loop-key
invariant-pairs_of-loop-key l =
    plain.pairs_of (members_view l.members.entries) ≡ option_map (and_pairs (pairs_of l.pairs)) (plain.pairs_of (members_view l.key-iterator))
