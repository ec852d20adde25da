use Rattle.std.proofs.Common.{Err, false, sym, ◌∙◌, ap}
use Rattle.std.proofs.lemmas.Result.{err_from_is_err_and}
use Rattle.ytt_base.specs.Outcomes.{◌>>=◌}
use Rattle.yaml_noted.specs.View.{comments_of}
use Rattle.ytt_laws.proofs.Chains.{gives_same, gives_stop}
use Rattle.yaml_read.specs.Between.{ended_behind}
use Rattle.yaml_read.specs.Documents.{segment_part}
use Rattle.yaml_read.specs.Segments.{segment_of}
use Rattle.yaml_read.specs.View.{part_of}
use Rattle.yaml_read.proofs.Parts.{no_document, part_closed, part_ended, part_start}
use Rattle.yaml_read.proofs.documents.read_segment.Goals as goal

pub returns-then-is_start : goal.returns-then-is_start
returns-then-is_start c =
    gives_same part_of c.read_explicit.result (segment_part c.args.is_closed (comments_of c.args.before) (segment_of c.args.segment)) _
    (part_start c.args.is_closed (comments_of c.args.before) (segment_of c.args.segment) (sym c.is_start.ensures ∙ c.if-is_start.true)) c.read_explicit.ensures

pub returns-then-is_closed : goal.returns-then-is_closed
returns-then-is_closed c =
    rw (c.refusal.ensures, c.if-is_closed.true) (part_closed (comments_of c.args.before) (segment_of c.args.segment) (sym c.is_start.ensures ∙ c.if-is_start.false))

pub returns-in_err-comments : goal.returns-in_err-comments
returns-in_err-comments c =
    let s = segment_of c.args.segment in
    let before = comments_of c.args.before in
    let p = err_from_is_err_and c.from_residual.result c.from_residual.ensures.1 in
    let stopped = gives_stop comments_of part_of no_document c.in_err-comments.field-0.0 (ended_behind before s) c.in_err-comments.ensures in
    rw (p.1, p.2, c.if-is_closed.false) (gives_same part_of (Err c.in_err-comments.field-0.0) (segment_part false before s) _ (part_ended before s (sym c.is_start.ensures ∙ c.if-is_start.false)) stopped)

pub returns : goal.returns
returns c =
    let s = segment_of c.args.segment in
    let before = comments_of c.args.before in
    rw c.if-is_closed.false (part_ended before s (sym c.is_start.ensures ∙ c.if-is_start.false) ∙ ap (λ o. o >>= no_document) c.in_ok-comments.ensures)
