use Rattle.std.proofs.Common.{List, Some, Ok, Err, ap, sym, ◌∙◌, [], false}
use Rattle.std.proofs.lemmas.Result.{err_from_is_err_and}
use Rattle.ytt_base.specs.Outcomes.{Outcome, ◌>>=◌}
use Rattle.yaml_pass.specs.Machine.{pass, wanting}
use Rattle.yaml_noted.specs.View.{comments_of, content_of}
use Rattle.yaml_noted.specs.declared.noted.RawComment.{RawComment}
use Rattle.yaml_spec.specs.Entries.{row_comment}
use Rattle.yaml_spec.specs.Read.{document_note, marker_row}
use Rattle.yaml_spec.specs.Rows.{has_value}
use Rattle.ytt_laws.proofs.Chains.{gives_same, gives_stop}
use Rattle.yaml_read.specs.Documents.{Noted, Part, explicit_part, passed_behind}
use Rattle.yaml_read.specs.Segments.{segment_of}
use Rattle.yaml_read.specs.View.{part_of, passed_of}
use Rattle.yaml_read.proofs.Explicit.{explicit_with, explicit_without, with_value, without_value}
use Rattle.yaml_read.proofs.documents.read_explicit.Goals as goal

-- a document and the comments behind it
abbrev part_with : Noted → List RawComment → Outcome Part
part_with x after = Ok (Some x, comments_of after)

pub pass_behind-requires-clause-some : goal.pass_behind-requires-clause-some
pass_behind-requires-clause-some c = sym (ap has_value c.marker_row-row.ensures.row) ∙ sym (c.has_value.ensures []) ∙ c.if-has_value.true

pub returns-in_err-found : goal.returns-in_err-found
returns-in_err-found c =
    let s = segment_of c.args.segment in
    let before = comments_of c.args.before in
    let some = sym (ap has_value c.marker_row-row.ensures.row) ∙ sym (c.has_value.ensures []) ∙ c.if-has_value.true in
    let p = err_from_is_err_and c.from_residual.result c.from_residual.ensures.1 in
    let stopped = gives_stop passed_of part_of (with_value before s) c.in_err-found.field-0.0 (passed_behind s (marker_row s)) c.in_err-found.ensures in
    rw (p.1, p.2) (gives_same part_of (Err c.in_err-found.field-0.0) (explicit_part before s) _ (explicit_with before s some) stopped)

pub returns-then-has_value : goal.returns-then-has_value
returns-then-has_value c =
    let s = segment_of c.args.segment in
    let before = comments_of c.args.before in
    let some = sym (ap has_value c.marker_row-row.ensures.row) ∙ sym (c.has_value.ensures []) ∙ c.if-has_value.true in
    explicit_with before s some ∙ ap (λ o. o >>= with_value before s) c.in_ok-found.ensures
    ∙ sym (ap (λ (x : Noted). part_with x c.in_ok-found.field-0.after) c.document-item.ensures)

pub returns-in_err-found-2 : goal.returns-in_err-found-2
returns-in_err-found-2 c =
    let s = segment_of c.args.segment in
    let before = comments_of c.args.before in
    let none = sym (ap has_value c.marker_row-row.ensures.row) ∙ sym (c.has_value.ensures []) ∙ c.if-has_value.false in
    let p = err_from_is_err_and c.from_residual-in_err-found-2.result c.from_residual-in_err-found-2.ensures.1 in
    let stopped = gives_stop passed_of part_of (without_value before s) c.in_err-found-2.field-0.0 (pass s.stop false 0 0 [] [] wanting s.lines) (rw c.new-none.ensures at c.in_err-found-2.ensures) in
    rw (p.1, p.2) (gives_same part_of (Err c.in_err-found-2.field-0.0) (explicit_part before s) _ (explicit_without before s none) stopped)

pub returns : goal.returns
returns c =
    let s = segment_of c.args.segment in
    let before = comments_of c.args.before in
    let none = sym (ap has_value c.marker_row-row.ensures.row) ∙ sym (c.has_value.ensures []) ∙ c.if-has_value.false in
    let trailing = c.in_ok-trailing.ensures [] ∙ ap row_comment c.marker_row-row.ensures.row in
    explicit_without before s none ∙ ap (λ o. o >>= without_value before s) (rw c.new-none.ensures at c.in_ok-found-2.ensures)
    ∙ sym (ap (λ (x : Noted). part_with x c.in_ok-found-2.field-0.after) (c.document-item-2.ensures ∙ ap (λ t. (document_note s.marker.place before t, content_of c.in_ok-found-2.field-0.found.content)) trailing))
