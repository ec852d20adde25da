use Rattle.std.proofs.Common.{List, ap, refl, ◌∙◌}
use Rattle.ytt_base.specs.Outcomes.{place_at}
use Rattle.passes_spec.specs.Unbuilt.{unbuilt_note, unbuilt_notes}
use Rattle.template_tree.specs.View.{notes_of}
use Rattle.template_tree.specs.declared.tree.TNote.{TNote}
use Rattle.star_unbuilt.proofs.Finding.{earlier_turn}
use Rattle.star_unbuilt.specs.Places.{earlier}
use Rattle.template_program.proofs.unbuilt.see_notes.Goals as goal

pub loop-note-preserved : goal.loop-note-preserved
loop-note-preserved c =
    let n = c.note-item.result in
    earlier_turn _ c.loop-note.first c.see_note.new.first c.args.notes.now c.loop-note.note-index n
    (λ (ns : List TNote). unbuilt_notes (notes_of c.args.file ns)) (unbuilt_note (place_at c.args.file n.line) n.name)
    (rw c.as_slice-note-items.ensures at c.loop-note-test.true) (rw c.as_slice-note-items.ensures at c.note-item.is) (λ ns. refl) c.loop-note.invariant
    (c.see_note.ensures ∙ ap (λ x. earlier c.loop-note.first (unbuilt_note (place_at c.args.file n.line) x)) c.as_str.ensures)
