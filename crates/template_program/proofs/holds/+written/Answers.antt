use Rattle.std.proofs.Common.{List, [], Option, None, ap, sym, ◌∙◌, refl}
use Rattle.template_spec.specs.Template.{branches_have_written, has_written, is_written}
use Rattle.template_tree.specs.declared.tree.TElif.{TElif}
use Rattle.template_tree.specs.declared.tree.TElse.{TElse}
use Rattle.template_tree.specs.declared.tree.TItem.{TItem}
use Rattle.template_tree.specs.View.{branches_of, item_of, items_of}
use Rattle.template_tree.proofs.Views.{else_of-else, item_of-Def, item_of-For, item_of-If}
use Rattle.template_program.proofs.Branches.{in_both, in_first}
use Rattle.template_program.proofs.Items.{written_first}
use Rattle.template_program.proofs.Turns.{first_of_two, found_here, found_later, found_nowhere, second_of_two}
use Rattle.template_program.proofs.holds.+written.Goals as goal

pub elifs_have_written-returns-then-has_written : goal.elifs_have_written-returns-then-has_written
elifs_have_written-returns-then-has_written t c = λ file.
    found_here (λ (b : TElif). has_written (items_of file b.body)) (λ (bs : List TElif). branches_have_written (branches_of file bs None)) _ c.args.elifs.now c.loop-elif.elif-index c.elif-item.result
    (in_first has_written branches_have_written refl (λ p e is more. refl) file)
    (rw c.as_slice-elif-items.ensures at c.loop-elif-test.true) (rw c.as_slice-elif-items.ensures at c.elif-item.is) (sym (c.has_written.ensures file) ∙ c.if-has_written.true) (c.loop-elif.invariant file)

pub elifs_have_written-loop-elif-preserved : goal.elifs_have_written-loop-elif-preserved
elifs_have_written-loop-elif-preserved t c = λ file.
    found_later (λ (b : TElif). has_written (items_of file b.body)) (λ (bs : List TElif). branches_have_written (branches_of file bs None)) _ c.args.elifs.now c.loop-elif.elif-index c.elif-item.result
    (in_first has_written branches_have_written refl (λ p e is more. refl) file)
    (rw c.as_slice-elif-items.ensures at c.loop-elif-test.true) (rw c.as_slice-elif-items.ensures at c.elif-item.is) (sym (c.has_written.ensures file) ∙ c.if-has_written.false) (c.loop-elif.invariant file)

pub elifs_have_written-returns : goal.elifs_have_written-returns
elifs_have_written-returns t c = λ file.
    found_nowhere (λ (bs : List TElif). branches_have_written (branches_of file bs None)) _ c.args.elifs.now c.loop-elif.elif-index refl (rw c.as_slice-elif-items.ensures at c.loop-elif-test.false) (c.loop-elif.invariant file)

pub else_has_written-returns-in-Some : goal.else_has_written-returns-in-Some
else_has_written-returns-in-Some t c = λ file.
    c.has_written.ensures file ∙ sym (ap (λ (o : Option TElse). branches_have_written (branches_of file [] o)) c.in-Some.is ∙ ap branches_have_written (else_of-else file c.in-Some.last))

pub has_written-returns-then-is_written : goal.has_written-returns-then-is_written
has_written-returns-then-is_written t c = λ file.
    found_here (λ (i : TItem). is_written (item_of file i)) (λ (is : List TItem). has_written (items_of file is)) _ c.args.items.now c.loop-item.item-index c.item-item.result (written_first file)
    (rw c.as_slice-item-items.ensures at c.loop-item-test.true) (rw c.as_slice-item-items.ensures at c.item-item.is) (sym (c.is_written.ensures file) ∙ c.if-is_written.true) (c.loop-item.invariant file)

pub has_written-loop-item-preserved : goal.has_written-loop-item-preserved
has_written-loop-item-preserved t c = λ file.
    found_later (λ (i : TItem). is_written (item_of file i)) (λ (is : List TItem). has_written (items_of file is)) _ c.args.items.now c.loop-item.item-index c.item-item.result (written_first file)
    (rw c.as_slice-item-items.ensures at c.loop-item-test.true) (rw c.as_slice-item-items.ensures at c.item-item.is) (sym (c.is_written.ensures file) ∙ c.if-is_written.false) (c.loop-item.invariant file)

pub has_written-returns : goal.has_written-returns
has_written-returns t c = λ file.
    found_nowhere (λ (is : List TItem). has_written (items_of file is)) _ c.args.items.now c.loop-item.item-index refl (rw c.as_slice-item-items.ensures at c.loop-item-test.false) (c.loop-item.invariant file)

pub is_written-returns-then-has_written : goal.is_written-returns-then-has_written
is_written-returns-then-has_written t c = λ file.
    sym c.if-has_written.true ∙ first_of_two _ _ (branches_have_written (branches_of file c.in-If.elifs c.in-If.last)) c.if-has_written.true (c.has_written.ensures file)
    ∙ sym (ap (λ (i : TItem). is_written (item_of file i)) c.in-If.is ∙ ap is_written (item_of-If file _ _ _ _ _))

pub is_written-returns-then-elifs_have_written : goal.is_written-returns-then-elifs_have_written
is_written-returns-then-elifs_have_written t c = λ file.
    let both = in_both has_written branches_have_written refl (λ p e is more. refl) file c.in-If.elifs c.in-If.last in
    second_of_two _ _ (branches_have_written (branches_of file c.in-If.elifs c.in-If.last)) _ c.if-has_written.false (c.has_written.ensures file)
    (first_of_two _ _ (branches_have_written (branches_of file [] c.in-If.last)) c.if-elifs_have_written.true (c.elifs_have_written.ensures file) ∙ sym both)
    ∙ sym (ap (λ (i : TItem). is_written (item_of file i)) c.in-If.is ∙ ap is_written (item_of-If file _ _ _ _ _))

pub is_written-returns-else-elifs_have_written : goal.is_written-returns-else-elifs_have_written
is_written-returns-else-elifs_have_written t c = λ file.
    let both = in_both has_written branches_have_written refl (λ p e is more. refl) file c.in-If.elifs c.in-If.last in
    second_of_two _ _ (branches_have_written (branches_of file c.in-If.elifs c.in-If.last)) _ c.if-has_written.false (c.has_written.ensures file)
    (second_of_two _ _ (branches_have_written (branches_of file [] c.in-If.last)) _ c.if-elifs_have_written.false (c.elifs_have_written.ensures file) (c.else_has_written.ensures file) ∙ sym both)
    ∙ sym (ap (λ (i : TItem). is_written (item_of file i)) c.in-If.is ∙ ap is_written (item_of-If file _ _ _ _ _))

pub is_written-returns-in-For : goal.is_written-returns-in-For
is_written-returns-in-For t c = λ file.
    c.has_written-in-For.ensures file ∙ sym (ap (λ (i : TItem). is_written (item_of file i)) c.in-For.is ∙ ap is_written (item_of-For file _ _ _ _))

pub is_written-returns-in-Def : goal.is_written-returns-in-Def
is_written-returns-in-Def t c = λ file.
    c.has_written-in-Def.ensures file ∙ sym (ap (λ (i : TItem). is_written (item_of file i)) c.in-Def.is ∙ ap is_written (item_of-Def file _ _ _ _ _))
