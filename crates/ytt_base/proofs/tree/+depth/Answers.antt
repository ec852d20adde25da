use Rattle.std.proofs.Common.{◌≡◌, ◌<◌, List, get_or, length, subst}
use Rattle.ytt_base.specs.declared.tree.Key.{Key}
use Rattle.ytt_base.specs.declared.tree.Tree.{Tree}
use Rattle.ytt_base.proofs.Depths.{trees_depth-take, pairs_depth-take, capped_max}
use Rattle.ytt_base.proofs.tree.+depth.Goals as goal

pub depth_of_trees-loop-tree-preserved : goal.depth_of_trees-loop-tree-preserved
depth_of_trees-loop-tree-preserved t c =
    let lt : c.loop-tree.tree-index < length c.args.trees.now = subst (λ (xs : List Tree). c.loop-tree.tree-index < length xs) c.as_slice-tree-items.ensures c.loop-tree-test.true in
    let e = trees_depth-take c.args.trees.now c.loop-tree.tree-index c.tree-item.result lt (subst (λ (xs : List Tree). c.tree-item.result ≡ get_or xs c.loop-tree.tree-index c.tree-item.result) c.as_slice-tree-items.ensures c.tree-item.is) in
    capped_max _ _ _ _ _ _ _ c.loop-tree.invariant c.depth.ensures c.max-deepest.ensures e

pub depth_of_pairs-loop-tree-preserved : goal.depth_of_pairs-loop-tree-preserved
depth_of_pairs-loop-tree-preserved t c =
    let lt : c.loop-tree.tree-index < length c.args.pairs.now = subst (λ (xs : List (Key × Tree)). c.loop-tree.tree-index < length xs) c.as_slice-tree-items.ensures c.loop-tree-test.true in
    let e = pairs_depth-take c.args.pairs.now c.loop-tree.tree-index c.loop-tree-item.result lt (subst (λ (xs : List (Key × Tree)). c.loop-tree-item.result ≡ get_or xs c.loop-tree.tree-index c.loop-tree-item.result) c.as_slice-tree-items.ensures c.loop-tree-item.is) in
    capped_max _ _ _ _ _ _ _ c.loop-tree.invariant c.depth.ensures c.max-deepest.ensures e
