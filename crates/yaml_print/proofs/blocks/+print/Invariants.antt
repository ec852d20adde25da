use Rattle.std.proofs.Common.{take}
use Rattle.std.specs.List.{flat_map}
use Rattle.yaml_print.specs.Indent.{width}
use Rattle.yaml_print.specs.Puts.{Puts}
use Rattle.yaml_print.proofs.Collections.{element_line, pair_line}
use Rattle.yaml_print.proofs.blocks.+print.Given as goal

abbrev pub invariant-write_elements-loop-tree : goal.invariant-write_elements-loop-tree
invariant-write_elements-loop-tree g l = Puts g.W.Put.has l.initial.out l.out (flat_map (element_line (width l.indent)) (take l.tree-index l.trees))

abbrev pub invariant-write_pairs-loop-key : goal.invariant-write_pairs-loop-key
invariant-write_pairs-loop-key g l = Puts g.W.Put.has l.initial.out l.out (flat_map (pair_line (width l.indent)) (take l.key-index l.pairs))
