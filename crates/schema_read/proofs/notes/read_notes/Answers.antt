use Rattle.std.proofs.Common.{◌∙◌, ◌+◌, ap, drop, subst}
use Rattle.ytt_laws.proofs.Lists.{dropped}
use Rattle.star_steps.specs.Meets.{state_in}
use Rattle.star_values.specs.Objects.{seen}
use Rattle.star_values.specs.Owns.{OwnsAll, note_values}
use Rattle.star_values.specs.View.{notes_in}
use Rattle.value_spec.specs.Outcomes.{then_do}
use Rattle.schema_spec.specs.Reading.{read_notes}
use Rattle.schema_read.specs.View.{said_of}
use Rattle.schema_read.proofs.Owned.{note_parted}
use Rattle.schema_read.proofs.notes.read_notes.Goals as goal

pub read_note-requires : goal.read_note-requires
read_note-requires c =
    let a = seen c.args.arena.now in
    let note = c.note-item.result in
    let left = dropped c.args.notes.now c.loop-note.note-index note c.loop-note-test.true c.note-item.is in
    (note_parted a note (drop (c.loop-note.note-index + 1) c.args.notes.now) (subst (λ ns. OwnsAll a (note_values ns)) left c.loop-note.invariant.0)).0

pub loop-note-preserved : goal.loop-note-preserved
loop-note-preserved c =
    let a = seen c.args.arena.now in
    let note = c.note-item.result in
    let rest = drop (c.loop-note.note-index + 1) c.args.notes.now in
    let left = dropped c.args.notes.now c.loop-note.note-index note c.loop-note-test.true c.note-item.is in (
      (note_parted a note rest (subst (λ ns. OwnsAll a (note_values ns)) left c.loop-note.invariant.0)).1,
      c.loop-note.invariant.1
          ∙ ap (λ ns. read_notes c.args.place c.args.in_list (notes_in a.held ns) (said_of c.loop-note.said) (state_in a c.loop-note.steps)) left
          ∙ ap (λ o. then_do o (λ next. read_notes c.args.place c.args.in_list (notes_in a.held rest) next)) c.in_ok-said.ensures,
    )
