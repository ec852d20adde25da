use Rattle.std.proofs.Common.{◌-◌, [], ◌++◌, Option, None, take, ap, sym, ◌∙◌, arith}
use Rattle.star_tree.specs.Whole.{instruction_of}
use Rattle.passes_spec.specs.Unbuilt.{unbuilt_branches, unbuilt_item, unbuilt_items}
use Rattle.template_tree.specs.declared.tree.TElse.{TElse}
use Rattle.template_tree.specs.declared.tree.TItem.{TItem}
use Rattle.template_tree.specs.View.{branches_of, item_of, items_of}
use Rattle.template_tree.proofs.Views.{else_of-else, item_of-Code, item_of-If, node_of-node}
use Rattle.star_unbuilt.specs.Places.{earlier}
use Rattle.star_unbuilt.proofs.Finding.{earlier_after, earlier_before}
use Rattle.template_program.proofs.Branches.{branches_up_to, unbuilt_both}
use Rattle.template_program.proofs.Items.{code_places, items_up_to}
use Rattle.template_program.proofs.unbuilt.+unbuilt.Goals as goal

pub see_items-loop-left-preserved : goal.see_items-loop-left-preserved
see_items-loop-left-preserved t c =
    let file = c.args.file in
    let items = c.as_slice-items.result.now in
    let at = c.loop-left in
    let front = items_up_to file items (at.left - 1) at.left c.index-items-left.result (omega (arith, c.loop-left-test.true)) (omega (arith, c.loop-left-test.true, at.invariant.within)) c.index-items-left.is in
    record {
      within = omega (arith, at.invariant.within);
      same = earlier_before _ at.first _ _ (unbuilt_items (items_of file (take (at.left - 1) items))) _ (ap unbuilt_items front) at.invariant.same c.see_item.ensures;
    }

pub see_item-returns-in-Code : goal.see_item-returns-in-Code
see_item-returns-in-Code t c =
    let file = c.args.file in
    c.see_load.ensures ∙ ap (earlier c.args.first.now) (code_places file (instruction_of file c.in-Code.stmt) ∙ sym (ap (λ (i : TItem). unbuilt_item (item_of file i)) c.in-Code.is ∙ ap unbuilt_item (item_of-Code file c.in-Code.stmt)))

pub see_item-returns-in-If : goal.see_item-returns-in-If
see_item-returns-in-If t c =
    let file = c.args.file in
    earlier_after _ _ _ _ _ c.see_items.ensures (earlier_after _ _ _ _ _ c.see_elifs.ensures c.see_else.ensures)
    ∙ ap (earlier c.args.first.now) (ap (λ l. unbuilt_items (items_of file c.in-If.body) ++ l) (sym (unbuilt_both file c.in-If.elifs c.in-If.last))
    ∙ sym (ap (λ (i : TItem). unbuilt_item (item_of file i)) c.in-If.is ∙ ap unbuilt_item (item_of-If file _ _ _ _ _)))

pub see_elifs-loop-left-preserved : goal.see_elifs-loop-left-preserved
see_elifs-loop-left-preserved t c =
    let file = c.args.file in
    let elifs = c.as_slice-elifs.result.now in
    let at = c.loop-left in
    let front = branches_up_to file elifs (at.left - 1) at.left c.index-elifs-left.result None (omega (arith, c.loop-left-test.true)) (omega (arith, c.loop-left-test.true, at.invariant.within)) c.index-elifs-left.is in
    record {
      within = omega (arith, at.invariant.within);
      same = earlier_before _ at.first _ _ (unbuilt_branches (branches_of file (take (at.left - 1) elifs) None)) _ (ap unbuilt_branches front) at.invariant.same c.see_elif.ensures;
    }

pub see_else-returns-in-Some : goal.see_else-returns-in-Some
see_else-returns-in-Some t c =
    let file = c.args.file in
    c.see_items.ensures ∙ ap (earlier c.args.first.now) (sym (ap (λ (o : Option TElse). unbuilt_branches (branches_of file [] o)) c.in-Some.is ∙ ap unbuilt_branches (else_of-else file c.in-Some.last)))

pub see_node-returns : goal.see_node-returns
see_node-returns t c =
    let n = c.args.node.now in
    earlier_after _ _ _ _ _ c.see_notes.ensures c.see_value.ensures ∙ ap (earlier c.args.first.now) (sym (ap unbuilt_item (node_of-node c.args.file n)))
