use Rattle.std.proofs.Common.{refl}
use Rattle.yaml_spec.specs.Noted.{bare_pairs, bare_trees}
use Rattle.ytt_laws.proofs.InTurn.{pairs_all, trees_all}
use Rattle.yaml_noted.specs.View.{items_of}
use Rattle.yaml_trees.proofs.InTurn.{pairs_next, trees_next}
use Rattle.yaml_trees.proofs.trees.+trees.Goals as goal

pub bare_pairs-loop-item-preserved : goal.bare_pairs-loop-item-preserved
bare_pairs-loop-item-preserved t c =
    rw c.in_ok-push.ensures
    (pairs_next c.args.items.now c.loop-item.item-index c.item-item.result (rw c.as_slice-item-items.ensures at c.loop-item-test.true) (rw c.as_slice-item-items.ensures at c.item-item.is) c.loop-item.pairs c.in_ok-key.key c.in_ok-tree.tree _
    c.in_ok-key.ensures c.in_ok-tree.ensures c.loop-item.invariant)

pub bare_pairs-returns : goal.bare_pairs-returns
bare_pairs-returns t c = pairs_all c.args.items.now c.loop-item.item-index (λ xs. bare_pairs (items_of xs)) c.loop-item.pairs _ refl (rw c.as_slice-item-items.ensures at c.loop-item-test.false) c.loop-item.invariant

pub bare_trees-loop-item-preserved : goal.bare_trees-loop-item-preserved
bare_trees-loop-item-preserved t c =
    rw c.in_ok-push.ensures
    (trees_next c.args.items.now c.loop-item.item-index c.item-item.result (rw c.as_slice-item-items.ensures at c.loop-item-test.true) (rw c.as_slice-item-items.ensures at c.item-item.is) c.loop-item.trees c.in_ok-tree.tree _ c.in_ok-tree.ensures c.loop-item.invariant)

pub bare_trees-returns : goal.bare_trees-returns
bare_trees-returns t c = trees_all c.args.items.now c.loop-item.item-index (λ xs. bare_trees (items_of xs)) c.loop-item.trees _ refl (rw c.as_slice-item-items.ensures at c.loop-item-test.false) c.loop-item.invariant
