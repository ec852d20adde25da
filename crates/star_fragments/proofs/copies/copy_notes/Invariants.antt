use Rattle.star_steps.proofs.Names.{◌≡◌, take}
use Rattle.star_fragments.proofs.copies.copy_notes.Given as goal

abbrev pub invariant-loop-note : goal.invariant-loop-note
invariant-loop-note l = l.copies ≡ take l.note-index l.notes
