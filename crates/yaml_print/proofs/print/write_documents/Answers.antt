use Rattle.yaml_print.proofs.Documents.{Text-first, document_line}
use Rattle.yaml_print.proofs.Putting.{puts_all, puts_then}
use Rattle.yaml_print.proofs.print.write_documents.Goals as goal

pub returns-after-loop-tree : goal.returns-after-loop-tree
returns-after-loop-tree g c =
    rw (c.in-Some.ensures.cases.0, Text-first c.in-Some.first.now c.in-Some.rest.now)
    (puts_then c.write_document.ensures (puts_all document_line c.in-Some.rest.now c.loop-tree.tree-index c.loop-tree.invariant c.loop-tree-test.false))
