use Rattle.std.proofs.Common.{◌≡◌, ◌+◌, ◌*◌, ◌≤◌, [], length}
use Rattle.ytt_base.specs.Outcomes.{place_at}
use Rattle.code_spec.specs.CodeReading.{CodeReader}
use Rattle.star_grammar.specs.CodeReaders.{IsCodeReader}
use Rattle.text_template_spec.specs.TextTemplates.{texted_branches, texted_items}
use Rattle.template_program.proofs.Sizes.{branches_size, content_size, item_size, items_size}
use Rattle.template_program.proofs.Texting.{SoFar}
use Rattle.template_spec.specs.Compiled.{branches_code, items_code}
use Rattle.template_tree.specs.View.{branches_of, content_of, in_content, item_of, items_of, node_of}
use Rattle.template_program.proofs.program.+compile.Given as goal

abbrev pub invariant-put_items-loop-item : goal.invariant-put_items-loop-item
invariant-put_items-loop-item l = record {
  fewer : items_size (items_of l.file l.items) ≤ items_size (items_of l.file l.fn.items);
  so_far : (r : CodeReader) → IsCodeReader r → SoFar (texted_items r l.asked) items_code l.file (items_of l.file l.fn.items) (items_of l.file l.items) l.initial.code l.code l.initial.next l.next;
}

abbrev pub invariant-put_branches-loop-elif : goal.invariant-put_branches-loop-elif
invariant-put_branches-loop-elif l = record {
  kept : l.last ≡ l.fn.last;
  fewer : branches_size (branches_of l.file l.elifs l.fn.last) ≤ branches_size (branches_of l.file l.fn.elifs l.fn.last);
  so_far : (r : CodeReader) → IsCodeReader r → SoFar (texted_branches r l.asked) (branches_code (place_at l.file l.line)) l.file (branches_of l.file l.fn.elifs l.fn.last) (branches_of l.file l.elifs l.fn.last)
      l.initial.code l.code l.initial.next l.next;
}

abbrev pub decreases-put_branches-loop-elif : goal.decreases-put_branches-loop-elif
decreases-put_branches-loop-elif l = length l.elifs

abbrev pub decreases-put_items-loop-item : goal.decreases-put_items-loop-item
decreases-put_items-loop-item l = length l.items

-- what stands in it, and of the same the outer call
abbrev pub decreases-put_items : goal.decreases-put_items
decreases-put_items l = 8 * items_size (items_of l.file l.items) + 7

abbrev pub decreases-put_item : goal.decreases-put_item
decreases-put_item l = 8 * item_size (item_of l.file l.item) + 6

abbrev pub decreases-put_branches : goal.decreases-put_branches
decreases-put_branches l = 8 * branches_size (branches_of l.file l.elifs l.last) + 7

abbrev pub decreases-put_else : goal.decreases-put_else
decreases-put_else l = 8 * branches_size (branches_of l.file [] l.last) + 6

abbrev pub decreases-put_node : goal.decreases-put_node
decreases-put_node l = 8 * item_size (node_of l.file l.node) + 5

abbrev pub decreases-put_content : goal.decreases-put_content
decreases-put_content l = 8 * content_size (in_content l.place.file l.value (content_of l.place.file l.content)) + 9

abbrev pub decreases-put_written : goal.decreases-put_written
decreases-put_written l = 8 * content_size (content_of l.place.file l.content) + 8
