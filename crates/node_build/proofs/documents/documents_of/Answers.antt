use Rattle.std.proofs.Common.{refl}
use Rattle.ytt_laws.proofs.InTurn.{trees_all, trees_unless}
use Rattle.node_build.proofs.TreesInTurn.{document_first, documents_in}
use Rattle.node_build.proofs.documents.documents_of.Goals as goal

pub loop-item-preserved : goal.loop-item-preserved
loop-item-preserved c = λ held.
    rw c.in_ok-put_document.ensures
    (trees_unless c.args.items.now c.loop-item.item-index c.item-item.result c.loop-item-test.true c.item-item.is
    (documents_in held) _ c.loop-item.trees c.in_ok-tree.tree _ (document_first held _ _ _ (c.in_ok-tree.ensures held)) (c.loop-item.invariant held))

pub returns : goal.returns
returns c = λ held. trees_all c.args.items.now c.loop-item.item-index (documents_in held) c.loop-item.trees _ refl c.loop-item-test.false (c.loop-item.invariant held)
