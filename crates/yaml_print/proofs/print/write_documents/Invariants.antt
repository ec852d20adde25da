use Rattle.std.proofs.Common.{take}
use Rattle.std.specs.List.{flat_map}
use Rattle.yaml_print.specs.Puts.{Puts}
use Rattle.yaml_print.proofs.Documents.{document_line}
use Rattle.yaml_print.proofs.print.write_documents.Given as goal

abbrev pub invariant-loop-tree : goal.invariant-loop-tree
invariant-loop-tree g l = Puts g.W.Put.has l.initial.out l.out (flat_map document_line (take l.tree-index l.rest))
