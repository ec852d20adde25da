use Rattle.std.proofs.Common.{◌∷◌, ◌∙◌, refl}
use Rattle.ytt_base.specs.Outcomes.{place_at}
use Rattle.code_spec.specs.Numbering.{number_exprs}
use Rattle.code_spec.specs.Program.{part, node_note}
use Rattle.star_tree.specs.Whole.{exprs_of}
use Rattle.star_number.proofs.Formed.{one_part, seen}
use Rattle.template_spec.specs.Compiled.{notes_code}
use Rattle.template_tree.specs.View.{notes_of}
use Rattle.template_program.proofs.Emitting.{emits_done, emits_next}
use Rattle.template_program.proofs.parts.put_notes.Goals as goal

pub loop-note-preserved : goal.loop-note-preserved
loop-note-preserved c =
    let file = c.args.file in
    let note = c.note-item.result in
    let place = place_at file note.line in
    let now = c.loop-note.next in
    let next = c.number_exprs.new.next in
    let args = exprs_of file note.args in
    let made = part (node_note place note.name args) in
    emits_next file c.args.next.now now next c.args.code.now c.loop-note.code c.put.new.code c.args.notes.now c.loop-note.note-index note
    (λ ns is. notes_code (notes_of file ns) is) (λ is. made ∷ is)
    (rw c.as_slice-note-items.ensures at c.loop-note-test.true) (rw c.as_slice-note-items.ensures at c.note-item.is) (λ ys is. refl) c.loop-note.invariant
    (c.in_ok-put.ensures file now next made
    ((λ i. seen (part (node_note place (c.in_ok-name.ensures i) (exprs_of file c.in_ok-args.args))) next)
    ∙ one_part (λ es. part (node_note place note.name es)) (number_exprs args) _ _ _ c.in_ok-args.ensures))

pub returns : goal.returns
returns c =
    emits_done c.args.file c.args.next.now c.loop-note.next c.args.code.now c.loop-note.code c.args.notes.now c.loop-note.note-index (λ ns is. notes_code (notes_of c.args.file ns) is)
    (rw c.as_slice-note-items.ensures at c.loop-note-test.false) (λ is. refl) c.loop-note.invariant
