use Rattle.std.proofs.Common.{◌≡◌, [], ◌++◌, ◌∷◌, take, ◌∙◌}
use Rattle.yaml_noted.specs.View.{comments_of, content_of}
use Rattle.yaml_rows.specs.View.{row_of}
use Rattle.yaml_read.specs.Steps.{with_next}
use Rattle.yaml_entries.specs.View.{begun_of, found_of, frame_of, frames_of, hole_of, note_of}
use Rattle.yaml_read.proofs.Turns.{entry_in-begun, joined-frames, take-next}
use Rattle.yaml_read.proofs.stepping.step_at.Goals as goal

pub returns-clause-content : goal.returns-clause-content
returns-clause-content c = λ f e.
    let fs = c.args.frames in
    let at = c.args.at in
    let still : c.in_ok-outer.outer ≡ take at fs ++ f ∷ [] = c.in_ok-outer.ensures.0 ∙ take-next fs at f c.requires.within e in
    let next : frames_of c.in_ok-open.open ≡ frames_of (take at fs) ++ with_next (frame_of f) (content_of c.in_ok-outer.found.content) (note_of c.in_ok-begun.begun.note) ∷ [] = c.in_ok-open.ensures (take at fs) f still in
    let out = joined-frames fs c.in_ok-open.open c.in_ok-begun.begun.inner.frames c.in_ok-joined.field-0 at _ c.in_ok-joined.ensures next in
    entry_in-begun at fs f c.index-as_slice-at.result (hole_of c.args.hole) (row_of (comments_of c.args.before) c.args.row.now) (begun_of c.in_ok-begun.begun) (found_of c.in_ok-outer.found) (frames_of c.in_ok-joined.field-0)
    e (rw c.as_slice.ensures at c.index-as_slice-at.is) c.in_ok-begun.ensures.content c.in_ok-outer.ensures.1 out
