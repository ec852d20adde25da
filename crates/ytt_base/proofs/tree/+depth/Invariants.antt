use Rattle.std.proofs.Common.{◌≡◌, take, min}
use Rattle.ytt_base.specs.Trees.{trees_depth, pairs_depth}
use Rattle.ytt_base.specs.View.{trees_of, pairs_of}
use Rattle.ytt_base.proofs.tree.+depth.Given as goal

abbrev pub invariant-depth_of_trees-loop-tree : goal.invariant-depth_of_trees-loop-tree
invariant-depth_of_trees-loop-tree l = l.deepest ≡ min (trees_depth (trees_of (take l.tree-index l.trees))) 4294967295

abbrev pub invariant-depth_of_pairs-loop-tree : goal.invariant-depth_of_pairs-loop-tree
invariant-depth_of_pairs-loop-tree l = l.deepest ≡ min (pairs_depth (pairs_of (take l.tree-index l.pairs))) 4294967295
