use Rattle.std.proofs.Common.{refl, sym, ap, ◌∙◌}
use Rattle.ytt_base.proofs.Views.{tree_of-List, tree_of-Map}
use Rattle.ytt_base.specs.Trees.{list, map}
use Rattle.ytt_laws.proofs.InTurn.{pairs_all, pairs_next, pairs_skip, trees_all, trees_next}
use Rattle.node_build.proofs.Bodies.{body_in-List, body_in-Map}
use Rattle.star_values.specs.View.{body_in}
use Rattle.value_spec.specs.Built.{body_tree}
use Rattle.node_build.proofs.TreesInTurn.{no_pair_first, pair_first, pairs_in, tree_first, trees_in}
use Rattle.node_build.proofs.documents.+trees.Goals as goal
use Rattle.node_build.proofs.documents.+trees.Goals.{pairs_of_items-in-None, pairs_of_items-in-Some+in_ok-tree-in-Some+in_ok-copy-in-Some+in_ok-push-in-Some}

pub tree_of_value-returns-in_ok-pairs_of_items-in-Map : goal.tree_of_value-returns-in_ok-pairs_of_items-in-Map
tree_of_value-returns-in_ok-pairs_of_items-in-Map t c = λ held.
    tree_of-Map _ ∙ ap map (rw c.as_slice.ensures at c.in_ok-pairs_of_items-in-Map.ensures held) ∙ sym (ap body_tree (ap (body_in held) c.in-Map.is ∙ body_in-Map held _))

pub tree_of_value-returns-in_ok-trees_of_items-in-List : goal.tree_of_value-returns-in_ok-trees_of_items-in-List
tree_of_value-returns-in_ok-trees_of_items-in-List t c = λ held.
    tree_of-List _ ∙ ap list (rw c.as_slice-in-List.ensures at c.in_ok-trees_of_items-in-List.ensures held) ∙ sym (ap body_tree (ap (body_in held) c.in-List.is ∙ body_in-List held _))

pub trees_of_items-loop-item-preserved : goal.trees_of_items-loop-item-preserved
trees_of_items-loop-item-preserved t c = λ held.
    rw c.in_ok-push.ensures.ok
    (trees_next c.args.items.now c.loop-item.item-index c.item-item.result c.loop-item-test.true c.item-item.is
    (trees_in held) c.loop-item.trees c.in_ok-tree.tree _ (tree_first held _ _ _ (c.in_ok-tree.ensures held)) (c.loop-item.invariant held))

pub trees_of_items-returns : goal.trees_of_items-returns
trees_of_items-returns t c = λ held. trees_all c.args.items.now c.loop-item.item-index (trees_in held) c.loop-item.trees _ refl c.loop-item-test.false (c.loop-item.invariant held)

pub pairs_of_items-returns : goal.pairs_of_items-returns
pairs_of_items-returns t c = λ held. pairs_all c.args.items.now c.loop-item.item-index (pairs_in held) c.loop-item.pairs _ refl c.loop-item-test.false (c.loop-item.invariant held)

pub pairs_of_items-loop-item-preserved : goal.pairs_of_items-loop-item-preserved
pairs_of_items-loop-item-preserved t c = λ held.
    elim c.match-item.branch [
      | pairs_of_items-in-None w ↦
          rw w.pairs-is (pairs_skip c.args.items.now c.loop-item.item-index c.item-item.result c.loop-item-test.true c.item-item.is (pairs_in held) c.loop-item.pairs _ (no_pair_first held _ _ w.in-None.is) (c.loop-item.invariant held))
      | pairs_of_items-in-Some+in_ok-tree-in-Some+in_ok-copy-in-Some+in_ok-push-in-Some w ↦ rw w.pairs-is
          (rw w.in_ok-push-in-Some.ensures.ok
          (pairs_next c.args.items.now c.loop-item.item-index c.item-item.result c.loop-item-test.true c.item-item.is (pairs_in held) c.loop-item.pairs w.in_ok-copy-in-Some.field-0 w.in_ok-tree-in-Some.tree _
          (pair_first held _ _ w.in-Some.key w.in_ok-copy-in-Some.field-0 w.in_ok-tree-in-Some.tree w.in-Some.is w.in_ok-copy-in-Some.ensures (w.in_ok-tree-in-Some.ensures held)) (c.loop-item.invariant held)))
    ]
