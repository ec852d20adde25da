use Rattle.std.proofs.Common.{◌≡◌, drop}
use Rattle.star_steps.specs.Meets.{state_in}
use Rattle.star_values.specs.Objects.{seen}
use Rattle.star_values.specs.Owns.{OwnsAll, note_values}
use Rattle.star_values.specs.View.{notes_in}
use Rattle.schema_spec.specs.Reading.{nothing_said, read_notes}
use Rattle.schema_read.specs.View.{said_of}
use Rattle.schema_read.proofs.notes.read_notes.Given as goal

-- what the notes that are left say beside what was said decides
abbrev pub invariant-loop-note : goal.invariant-loop-note
invariant-loop-note l =
    let a = seen l.arena in
    let left = drop l.note-index l.notes in
    OwnsAll a (note_values left)
    × (read_notes l.place l.in_list (notes_in a.held l.notes) nothing_said (state_in a l.initial.steps) ≡ read_notes l.place l.in_list (notes_in a.held left) (said_of l.said) (state_in a l.steps))
