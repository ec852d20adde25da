use Rattle.std.proofs.Common.{◌≡◌, List, drop}
use Rattle.ytt_base.specs.View.{trees_of}
use Rattle.ytt_laws.proofs.InTurn.{and_trees}
use Rattle.value_spec.specs.Values as plain
use Rattle.node_build.proofs.TreesInTurn.{documents_in}
use Rattle.node_build.proofs.documents.documents_of.Given as goal

abbrev pub invariant-loop-item : goal.invariant-loop-item
invariant-loop-item l = (held : List plain.Value) → and_trees (trees_of l.trees) (documents_in held (drop l.item-index l.items)) ≡ documents_in held l.items
