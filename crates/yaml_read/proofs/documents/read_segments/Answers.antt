use Rattle.std.proofs.Common.{◌≡◌, Err, List, sym, ◌∙◌, ap, option_map}
use Rattle.std.proofs.lemmas.Result.{err_from_is_err_and}
use Rattle.ytt_base.specs.Outcomes.{◌>>=◌}
use Rattle.yaml_noted.specs.View.{comments_of, documents_of, items_of, noted_of}
use Rattle.yaml_spec.specs.Held.{plain_lines}
use Rattle.yaml_spec.specs.Read.{Segment, segments}
use Rattle.ytt_laws.proofs.Chains.{gives_same, gives_stop}
use Rattle.yaml_read.specs.Documents.{documents_behind, segment_part}
use Rattle.yaml_read.specs.Segments.{segment_of}
use Rattle.yaml_read.specs.View.{part_of}
use Rattle.yaml_read.proofs.InParts.{by_segment, is_none, next_state, none_left, none_told, part_behind}
use Rattle.yaml_read.proofs.documents.read_segments.Goals as goal

pub returns-in_err-item : goal.returns-in_err-item
returns-in_err-item c =
    let l = c.segments in
    let s = segment_of c.in-Some.segment in
    let ss = (segments (plain_lines c.in-Some.segment.next.now)).1 in
    let is = items_of l.items in
    let p = err_from_is_err_and c.from_residual.result c.from_residual.ensures.1 in
    let here = ap (λ (ts : List Segment). documents_behind is l.is_closed (comments_of l.comments) ts) c.in-Some.ensures.segment ∙ by_segment is l.is_closed (comments_of l.comments) s ss in
    let stopped = gives_stop part_of documents_of (part_behind is ss) c.in_err-item.field-0.0 (segment_part l.is_closed (comments_of l.comments) s) c.in_err-item.ensures in
    rw (p.1, p.2, ← l.invariant.gives) (gives_same documents_of (Err c.in_err-item.field-0.0) _ _ here stopped)

pub segments-preserved : goal.segments-preserved
segments-preserved c =
    let l = c.segments in
    let s = segment_of c.in-Some.segment in
    let ss = (segments (plain_lines c.in-Some.segment.next.now)).1 in
    let is = items_of l.items in
    let here = ap (λ (ts : List Segment). documents_behind is l.is_closed (comments_of l.comments) ts) c.in-Some.ensures.segment ∙ by_segment is l.is_closed (comments_of l.comments) s ss in
    let closed : c.is_none-is_closed.result ≡ is_none (option_map noted_of c.in_ok-item.item) = none_told c.in_ok-item.item c.is_none-is_closed.result c.is_none-is_closed.ensures in
    record {
      marked = c.in-Some.ensures.marked;
      fits = c.in-Some.ensures.fits.next;
      gives =
          next_state is (items_of c.put_document.new.items) c.in_ok-item.item c.is_none-is_closed.result (comments_of c.in_ok-item.after) ss c.in_ok-put_document.ensures closed
          ∙ sym (here ∙ ap (λ o. o >>= part_behind is ss) c.in_ok-item.ensures) ∙ l.invariant.gives;
    }

pub returns : goal.returns
returns c =
    let l = c.segments in
    sym l.invariant.gives ∙ ap (λ (ts : List Segment). documents_behind (items_of l.items) l.is_closed (comments_of l.comments) ts) c.in_default.ensures.segment ∙ none_left (items_of l.items) l.is_closed (comments_of l.comments)
