use Rattle.std.proofs.Common.{List, [], Option, None, ap, sym, ◌∙◌, refl}
use Rattle.template_spec.specs.Template.{branches_have_nodes, has_nodes, is_node}
use Rattle.template_tree.specs.declared.tree.TElif.{TElif}
use Rattle.template_tree.specs.declared.tree.TElse.{TElse}
use Rattle.template_tree.specs.declared.tree.TItem.{TItem}
use Rattle.template_tree.specs.View.{branches_of, item_of, items_of}
use Rattle.template_tree.proofs.Views.{else_of-else, item_of-For, item_of-If}
use Rattle.template_program.proofs.Branches.{in_both, in_first}
use Rattle.template_program.proofs.Items.{nodes_first}
use Rattle.template_program.proofs.Turns.{first_of_two, found_here, found_later, found_nowhere, second_of_two}
use Rattle.template_program.proofs.holds.+nodes.Goals as goal

pub elifs_have_nodes-returns-then-has_nodes : goal.elifs_have_nodes-returns-then-has_nodes
elifs_have_nodes-returns-then-has_nodes t c = λ file.
    found_here (λ (b : TElif). has_nodes (items_of file b.body)) (λ (bs : List TElif). branches_have_nodes (branches_of file bs None)) _ c.args.elifs.now c.loop-elif.elif-index c.elif-item.result
    (in_first has_nodes branches_have_nodes refl (λ p e is more. refl) file)
    (rw c.as_slice-elif-items.ensures at c.loop-elif-test.true) (rw c.as_slice-elif-items.ensures at c.elif-item.is) (sym (c.has_nodes.ensures file) ∙ c.if-has_nodes.true) (c.loop-elif.invariant file)

pub elifs_have_nodes-loop-elif-preserved : goal.elifs_have_nodes-loop-elif-preserved
elifs_have_nodes-loop-elif-preserved t c = λ file.
    found_later (λ (b : TElif). has_nodes (items_of file b.body)) (λ (bs : List TElif). branches_have_nodes (branches_of file bs None)) _ c.args.elifs.now c.loop-elif.elif-index c.elif-item.result
    (in_first has_nodes branches_have_nodes refl (λ p e is more. refl) file)
    (rw c.as_slice-elif-items.ensures at c.loop-elif-test.true) (rw c.as_slice-elif-items.ensures at c.elif-item.is) (sym (c.has_nodes.ensures file) ∙ c.if-has_nodes.false) (c.loop-elif.invariant file)

pub elifs_have_nodes-returns : goal.elifs_have_nodes-returns
elifs_have_nodes-returns t c = λ file.
    found_nowhere (λ (bs : List TElif). branches_have_nodes (branches_of file bs None)) _ c.args.elifs.now c.loop-elif.elif-index refl (rw c.as_slice-elif-items.ensures at c.loop-elif-test.false) (c.loop-elif.invariant file)

pub else_has_nodes-returns-in-Some : goal.else_has_nodes-returns-in-Some
else_has_nodes-returns-in-Some t c = λ file.
    c.has_nodes.ensures file ∙ sym (ap (λ (o : Option TElse). branches_have_nodes (branches_of file [] o)) c.in-Some.is ∙ ap branches_have_nodes (else_of-else file c.in-Some.last))

pub has_nodes-returns-then-is_node : goal.has_nodes-returns-then-is_node
has_nodes-returns-then-is_node t c = λ file.
    found_here (λ (i : TItem). is_node (item_of file i)) (λ (is : List TItem). has_nodes (items_of file is)) _ c.args.items.now c.loop-item.item-index c.item-item.result (nodes_first file)
    (rw c.as_slice-item-items.ensures at c.loop-item-test.true) (rw c.as_slice-item-items.ensures at c.item-item.is) (sym (c.is_node.ensures file) ∙ c.if-is_node.true) (c.loop-item.invariant file)

pub has_nodes-loop-item-preserved : goal.has_nodes-loop-item-preserved
has_nodes-loop-item-preserved t c = λ file.
    found_later (λ (i : TItem). is_node (item_of file i)) (λ (is : List TItem). has_nodes (items_of file is)) _ c.args.items.now c.loop-item.item-index c.item-item.result (nodes_first file)
    (rw c.as_slice-item-items.ensures at c.loop-item-test.true) (rw c.as_slice-item-items.ensures at c.item-item.is) (sym (c.is_node.ensures file) ∙ c.if-is_node.false) (c.loop-item.invariant file)

pub has_nodes-returns : goal.has_nodes-returns
has_nodes-returns t c = λ file.
    found_nowhere (λ (is : List TItem). has_nodes (items_of file is)) _ c.args.items.now c.loop-item.item-index refl (rw c.as_slice-item-items.ensures at c.loop-item-test.false) (c.loop-item.invariant file)

pub is_node-returns-then-has_nodes : goal.is_node-returns-then-has_nodes
is_node-returns-then-has_nodes t c = λ file.
    sym c.if-has_nodes.true ∙ first_of_two _ _ (branches_have_nodes (branches_of file c.in-If.elifs c.in-If.last)) c.if-has_nodes.true (c.has_nodes.ensures file)
    ∙ sym (ap (λ (i : TItem). is_node (item_of file i)) c.in-If.is ∙ ap is_node (item_of-If file _ _ _ _ _))

pub is_node-returns-then-elifs_have_nodes : goal.is_node-returns-then-elifs_have_nodes
is_node-returns-then-elifs_have_nodes t c = λ file.
    let both = in_both has_nodes branches_have_nodes refl (λ p e is more. refl) file c.in-If.elifs c.in-If.last in
    second_of_two _ _ (branches_have_nodes (branches_of file c.in-If.elifs c.in-If.last)) _ c.if-has_nodes.false (c.has_nodes.ensures file)
    (first_of_two _ _ (branches_have_nodes (branches_of file [] c.in-If.last)) c.if-elifs_have_nodes.true (c.elifs_have_nodes.ensures file) ∙ sym both)
    ∙ sym (ap (λ (i : TItem). is_node (item_of file i)) c.in-If.is ∙ ap is_node (item_of-If file _ _ _ _ _))

pub is_node-returns-else-elifs_have_nodes : goal.is_node-returns-else-elifs_have_nodes
is_node-returns-else-elifs_have_nodes t c = λ file.
    let both = in_both has_nodes branches_have_nodes refl (λ p e is more. refl) file c.in-If.elifs c.in-If.last in
    second_of_two _ _ (branches_have_nodes (branches_of file c.in-If.elifs c.in-If.last)) _ c.if-has_nodes.false (c.has_nodes.ensures file)
    (second_of_two _ _ (branches_have_nodes (branches_of file [] c.in-If.last)) _ c.if-elifs_have_nodes.false (c.elifs_have_nodes.ensures file) (c.else_has_nodes.ensures file) ∙ sym both)
    ∙ sym (ap (λ (i : TItem). is_node (item_of file i)) c.in-If.is ∙ ap is_node (item_of-If file _ _ _ _ _))

pub is_node-returns-in-For : goal.is_node-returns-in-For
is_node-returns-in-For t c = λ file.
    c.has_nodes-in-For.ensures file ∙ sym (ap (λ (i : TItem). is_node (item_of file i)) c.in-For.is ∙ ap is_node (item_of-For file _ _ _ _))
