use Rattle.std.proofs.Common.{◌≡◌, drop}
use Rattle.star_unbuilt.specs.Places.{earlier}
use Rattle.passes_spec.specs.Unbuilt.{unbuilt_notes}
use Rattle.template_tree.specs.View.{notes_of}
use Rattle.template_program.proofs.unbuilt.see_notes.Given as goal

abbrev pub invariant-loop-note : goal.invariant-loop-note
invariant-loop-note l =
    earlier l.first (unbuilt_notes (notes_of l.file (drop l.note-index l.notes))) ≡ earlier l.initial.first (unbuilt_notes (notes_of l.file l.notes))
