use Rattle.std.proofs.Common.{◌≡◌, Err, sym, ap, ◌∙◌, arith, rules}
use Rattle.yaml_noted.specs.View.{comments_of}
use Rattle.yaml_spec.specs.Flow.{look}
use Rattle.yaml_text.specs.View.{cursor_of}
use Rattle.yaml_flow.specs.View.{look_of, comments_and_place}
use Rattle.yaml_flow.proofs.Gaps.{from-token, from-note, from-last, from-below, size-below, size-trimmed, Passes, passed-end, passed-comment}
use Rattle.yaml_flow.proofs.Stops.{stopped}
use Rattle.yaml_flow.proofs.token.next_token.Goals as goal
use Rattle.yaml_flow.proofs.token.next_token.Goals.{in-Comment+in_ok-add_comment-in-Comment, in-LineOver}

pub returns-in-Token-clause-token : goal.returns-in-Token-clause-token
returns-in-Token-clause-token c =
    rw (c.without_white.ensures)
    (sym c.lines.invariant.whole ∙ from-token _ _ _ _ (sym c.in_ok-look_at.ensures ∙ ap look_of c.in-Token.is))

pub returns-in-Token-clause-within : goal.returns-in-Token-clause-within
returns-in-Token-clause-within c = omega (arith, size-trimmed (cursor_of c.lines.here) (cursor_of c.without_white.result) c.without_white.ensures, c.lines.invariant.within)

pub returns-in-NoteComment-clause-token : goal.returns-in-NoteComment-clause-token
returns-in-NoteComment-clause-token c =
    rw c.refusal.ensures (sym c.lines.invariant.whole ∙ from-note _ _ _ _ (sym c.in_ok-look_at.ensures ∙ ap look_of c.in-NoteComment.is))

pub returns-in_err-here-clause-token : goal.returns-in_err-here-clause-token
returns-in_err-here-clause-token c =
    let v = look c.lines.is_fresh c.lines.here.place c.lines.here.text.now in
    let passed : Passes v (comments_of c.lines.comments) (comments_of c.match-branch-2.comments) = elim c.match-branch-2.branch [
      | in-Comment+in_ok-add_comment-in-Comment w ↦ passed-comment v _ _ _ (sym c.in_ok-look_at.ensures ∙ ap look_of w.in-Comment.is) (w.comments-is ∙ w.in_ok-add_comment-in-Comment.ensures)
      | in-LineOver w ↦ passed-end v _ _ (sym c.in_ok-look_at.ensures ∙ ap look_of w.in-LineOver.is) w.comments-is
    ] in
    let stop : c.from_residual-in_err-here.result ≡ Err c.in_err-here.field-0.0 = search rules in
    stopped cursor_of comments_and_place _ _ _ _ stop c.in_err-here.ensures (λ f e. sym c.lines.invariant.whole ∙ from-last _ _ _ _ _ f passed e)

pub lines-preserved : goal.lines-preserved
lines-preserved c =
    let v = look c.lines.is_fresh c.lines.here.place c.lines.here.text.now in
    let passed : Passes v (comments_of c.lines.comments) (comments_of c.match-branch-2.comments) = elim c.match-branch-2.branch [
      | in-Comment+in_ok-add_comment-in-Comment w ↦ passed-comment v _ _ _ (sym c.in_ok-look_at.ensures ∙ ap look_of w.in-Comment.is) (w.comments-is ∙ w.in_ok-add_comment-in-Comment.ensures)
      | in-LineOver w ↦ passed-end v _ _ (sym c.in_ok-look_at.ensures ∙ ap look_of w.in-LineOver.is) w.comments-is
    ] in
    record {
      whole = sym (from-below _ _ _ _ _ _ passed c.in_ok-here.ensures) ∙ c.lines.invariant.whole;
      within = omega (arith, size-below _ (cursor_of c.lines.here) (cursor_of c.in_ok-here.here) c.in_ok-here.ensures, c.lines.invariant.within);
    }
