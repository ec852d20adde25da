use Rattle.std.proofs.Common.{◌≡◌, drop}
use Rattle.ytt_base.specs.View.{pairs_of, trees_of}
use Rattle.yaml_noted.specs.View.{items_of}
use Rattle.yaml_spec.specs.Noted.{bare_pairs, bare_trees}
use Rattle.ytt_laws.proofs.InTurn.{and_pairs, and_trees}
use Rattle.yaml_trees.proofs.trees.+trees.Given as goal

abbrev pub invariant-bare_trees-loop-item : goal.invariant-bare_trees-loop-item
invariant-bare_trees-loop-item l = and_trees (trees_of l.trees) (bare_trees (items_of (drop l.item-index l.items))) ≡ bare_trees (items_of l.items)

abbrev pub invariant-bare_pairs-loop-item : goal.invariant-bare_pairs-loop-item
invariant-bare_pairs-loop-item l = and_pairs (pairs_of l.pairs) (bare_pairs (items_of (drop l.item-index l.items))) ≡ bare_pairs (items_of l.items)
