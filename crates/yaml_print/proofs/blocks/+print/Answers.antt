use Rattle.std.proofs.Common.{◌<◌, length, sym, ◌∙◌, arith}
use Rattle.yaml_print.specs.Indent.{width}
use Rattle.yaml_print.proofs.Collections.{behind-list, behind-map, behind-scalar, element_line, list-lines, map-lines, node-list, node-map, node-scalar, pair_line}
use Rattle.yaml_print.proofs.Putting.{puts_all, puts_next, puts_then}
use Rattle.yaml_print.proofs.blocks.+print.Goals as goal

pub write_behind_key-returns-else-len-eq0 : goal.write_behind_key-returns-else-len-eq0
write_behind_key-returns-else-len-eq0 g t c =
    let some : 0 < length c.in-List.trees = omega arith in
    rw (behind-list (width c.args.indent.now) c.args.tree.now c.in-List.trees c.in-List.is some)
    (puts_then c.put-in-List.ensures (rw c.as_slice.ensures at c.write_elements.ensures))

pub write_behind_key-returns-else-len-eq0-2 : goal.write_behind_key-returns-else-len-eq0-2
write_behind_key-returns-else-len-eq0-2 g t c =
    let some : 0 < length c.in-Map.pairs = omega arith in
    rw (behind-map (width c.args.indent.now) c.args.tree.now c.in-Map.pairs c.in-Map.is some)
    (puts_then c.put-in-Map.ensures (rw (c.as_slice-in-Map.ensures, c.inside.ensures) at c.write_pairs.ensures))

pub write_behind_key-returns-in_default : goal.write_behind_key-returns-in_default
write_behind_key-returns-in_default g t c =
    rw (behind-scalar (width c.args.indent.now) c.args.tree.now c.in_default.not-List c.in_default.not-Map)
    (puts_then c.put-in_default.ensures (rw c.inside-in_default.ensures at c.write_line.ensures))

pub write_node-returns-in-Some : goal.write_node-returns-in-Some
write_node-returns-in-Some g t c =
    rw (node-list (width c.args.indent.now) c.args.tree.now c.in-List.trees c.in-Some.first.now c.in-Some.rest.now c.in-List.is (sym c.as_slice.ensures ∙ c.in-Some.ensures.cases.0))
    (puts_then c.write_element.ensures c.write_elements.ensures)

pub write_node-returns-in-Some-split_first : goal.write_node-returns-in-Some-split_first
write_node-returns-in-Some-split_first g t c =
    rw (node-map (width c.args.indent.now) c.args.tree.now c.in-Map.pairs c.in-Some-split_first.field-0-0.now c.in-Some-split_first.rest.now c.in-Map.is (sym c.as_slice-in-Map.ensures ∙ c.in-Some-split_first.ensures.cases.0))
    (puts_then c.write_pair.ensures c.write_pairs.ensures)

pub write_node-returns-in_default : goal.write_node-returns-in_default
write_node-returns-in_default g t c =
    rw (node-scalar (width c.args.indent.now) c.args.tree.now c.in_default.not-List c.in_default.not-Map) c.write_line.ensures

pub write_element-returns : goal.write_element-returns
write_element-returns g t c = puts_then c.put.ensures (rw c.inside.ensures at c.write_node.ensures)

pub write_pair-returns : goal.write_pair-returns
write_pair-returns g t c = puts_then c.write_key.ensures (puts_then c.put.ensures c.write_behind_key.ensures)

pub write_elements-loop-tree-preserved : goal.write_elements-loop-tree-preserved
write_elements-loop-tree-preserved g t c =
    puts_next (element_line (width c.args.indent.now)) c.args.trees.now c.loop-tree.tree-index c.tree-item.result c.loop-tree.invariant
    (puts_then c.write_indent.ensures c.write_element.ensures) c.loop-tree-test.true c.tree-item.is

pub write_elements-returns : goal.write_elements-returns
write_elements-returns g t c =
    rw (list-lines (width c.args.indent.now) c.args.trees.now)
    (puts_all (element_line (width c.args.indent.now)) c.args.trees.now c.loop-tree.tree-index c.loop-tree.invariant c.loop-tree-test.false)

pub write_pairs-loop-key-preserved : goal.write_pairs-loop-key-preserved
write_pairs-loop-key-preserved g t c =
    puts_next (pair_line (width c.args.indent.now)) c.args.pairs.now c.loop-key.key-index c.loop-key-item.result c.loop-key.invariant
    (puts_then c.write_indent.ensures c.write_pair.ensures) c.loop-key-test.true c.loop-key-item.is

pub write_pairs-returns : goal.write_pairs-returns
write_pairs-returns g t c =
    rw (map-lines (width c.args.indent.now) c.args.pairs.now)
    (puts_all (pair_line (width c.args.indent.now)) c.args.pairs.now c.loop-key.key-index c.loop-key.invariant c.loop-key-test.false)
