use Rattle.std.proofs.Common.{◌∙◌, ap, sym}
use Rattle.std.proofs.Common.{List, ◌∷◌, [], ◌++◌}
use Rattle.notes_read.specs.View.{said_of}
use Rattle.template_pass.specs.Building as build
use Rattle.template_tree.specs.Slots.{slots_of, with_notes}
use Rattle.template_tree.specs.View.{notes_of}
use Rattle.notes_read.specs.declared.comment.Comment.{Comment}
use Rattle.template_tree.proofs.Slotting.{on_ok}
use Rattle.template_tree.specs.declared.tree.TNote.{TNote}
use Rattle.template_tree.proofs.slots.put_beside.Goals as goal

pub returns-in-Value : goal.returns-in-Value
returns-in-Value c = λ file.
    on_ok c.put_value.result _ _ (λ h. h ∙ ap (λ (t : Comment). build.changed c.args.level (build.with_beside file c.args.line (said_of file t)) (slots_of file c.args.slots.now.items)) (sym c.in-Value.is)) (c.put_value.ensures file c.args.line)

pub returns-in_ok-push-in-Note : goal.returns-in_ok-push-in-Note
returns-in_ok-push-in-Note c = λ file.
    let noted = ap (notes_of file) (c.in_ok-push-in-Note.ensures.ok ∙ ap (λ (ns : List TNote). ns ++ record { name = c.in-Note.name; args = c.in-Note.args; line = c.args.line } ∷ []) c.new-notes.ensures) in
    on_ok c.put_notes.result _ _
    (λ h. h ∙ ap (λ ns. build.changed c.args.level (with_notes ns) (slots_of file c.args.slots.now.items)) noted ∙ ap (λ (t : Comment). build.changed c.args.level (build.with_beside file c.args.line (said_of file t)) (slots_of file c.args.slots.now.items)) (sym c.in-Note.is))
    (c.put_notes.ensures file)

pub returns-in-Code : goal.returns-in-Code
returns-in-Code c = λ file.
    on_ok c.put_none.result _ _ (λ h. h ∙ ap (λ (t : Comment). build.changed c.args.level (build.with_beside file c.args.line (said_of file t)) (slots_of file c.args.slots.now.items)) (sym c.in-Code.is)) (c.put_none.ensures file)

pub returns-in-Open : goal.returns-in-Open
returns-in-Open c = λ file.
    on_ok c.put_none-in-Open.result _ _ (λ h. h ∙ ap (λ (t : Comment). build.changed c.args.level (build.with_beside file c.args.line (said_of file t)) (slots_of file c.args.slots.now.items)) (sym c.in-Open.is)) (c.put_none-in-Open.ensures file)

pub returns-in-Else : goal.returns-in-Else
returns-in-Else c = λ file.
    on_ok c.put_none-in-Else.result _ _ (λ h. h ∙ ap (λ (t : Comment). build.changed c.args.level (build.with_beside file c.args.line (said_of file t)) (slots_of file c.args.slots.now.items)) (sym c.in-Else.is)) (c.put_none-in-Else.ensures file)

pub returns-in-Elif : goal.returns-in-Elif
returns-in-Elif c = λ file.
    on_ok c.put_none-in-Elif.result _ _ (λ h. h ∙ ap (λ (t : Comment). build.changed c.args.level (build.with_beside file c.args.line (said_of file t)) (slots_of file c.args.slots.now.items)) (sym c.in-Elif.is)) (c.put_none-in-Elif.ensures file)

pub returns-in-End : goal.returns-in-End
returns-in-End c = λ file.
    on_ok c.put_none-in-End.result _ _ (λ h. h ∙ ap (λ (t : Comment). build.changed c.args.level (build.with_beside file c.args.line (said_of file t)) (slots_of file c.args.slots.now.items)) (sym c.in-End.is)) (c.put_none-in-End.ensures file)

pub returns-in-Ignored : goal.returns-in-Ignored
returns-in-Ignored c = λ file.
    on_ok c.put_none-in-Ignored.result _ _ (λ h. h ∙ ap (λ (t : Comment). build.changed c.args.level (build.with_beside file c.args.line (said_of file t)) (slots_of file c.args.slots.now.items)) (sym c.in-Ignored.is)) (c.put_none-in-Ignored.ensures file)
