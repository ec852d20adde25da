use Rattle.std.proofs.Common.{refl, sym, ◌∙◌, ap}
use Rattle.yaml_noted.specs.View.{comments_of}
use Rattle.yaml_rows.specs.View.{row_of, mark_of}
use Rattle.yaml_entries.specs.View.{frames_of, note_of, opened_of}
use Rattle.yaml_read.proofs.Openings.{entry_begun}
use Rattle.yaml_read.proofs.opening.begin_entry.Goals as goal

pub returns-clause-content : goal.returns-clause-content
returns-clause-content c =
    entry_begun (frames_of c.new-2.result) c.args.left (mark_of c.args.head.now.mark) c.args.behind.now c.index-behind-0.result c.args.row.now (comments_of c.args.before) (comments_of c.new.result) (note_of c.bare_note.result) (opened_of c.in_ok-inner.inner)
    (sym c.goes_on.ensures ∙ c.if-not-goes_on.false) (ap frames_of c.new-2.ensures) (ap comments_of c.new.ensures) (c.bare_note.ensures (row_of (comments_of c.args.before) c.args.row.now) refl refl) c.in_ok-inner.ensures.content
