use Rattle.std.proofs.Common.{refl}
use Rattle.yaml_spec.specs.Noted.{bare_trees, drop_null}
use Rattle.ytt_laws.proofs.InTurn.{trees_all}
use Rattle.yaml_noted.specs.View.{items_of}
use Rattle.yaml_trees.proofs.InTurn.{documents_next}
use Rattle.yaml_trees.proofs.trees.trees_that_are_some.Goals as goal

pub loop-item-preserved : goal.loop-item-preserved
loop-item-preserved c =
    rw c.in_ok-put_document.ensures
    (documents_next c.args.items.now c.loop-item.item-index c.item-item.result (rw c.as_slice-item-items.ensures at c.loop-item-test.true) (rw c.as_slice-item-items.ensures at c.item-item.is) c.loop-item.trees c.in_ok-tree.tree _ c.in_ok-tree.ensures c.loop-item.invariant)

pub returns : goal.returns
returns c = trees_all c.args.items.now c.loop-item.item-index (λ xs. drop_null (bare_trees (items_of xs))) c.loop-item.trees _ refl (rw c.as_slice-item-items.ensures at c.loop-item-test.false) c.loop-item.invariant
