use Rattle.std.proofs.Common.{Err}
use Rattle.std.proofs.lemmas.Result.{err_from_is_err_and}
use Rattle.yaml_noted.specs.View.{documents_of}
use Rattle.yaml_spec.specs.Held.{plain_lines}
use Rattle.yaml_spec.specs.Read.{implicit, segments}
use Rattle.ytt_laws.proofs.Chains.{gives_next, gives_same, gives_stop}
use Rattle.yaml_read.specs.View.{part_of}
use Rattle.yaml_read.proofs.InParts.{by_front, front_behind}
use Rattle.yaml_read.proofs.documents.read_documents.Goals as goal

pub returns-in_err-item : goal.returns-in_err-item
returns-in_err-item c =
    let cut = segments (plain_lines c.args.lines.now) in
    let p = err_from_is_err_and c.from_residual.result c.from_residual.ensures.1 in
    let read = rw (c.split_front.ensures.front, c.first_line.ensures, c.split_front.ensures.next) at c.in_err-item.ensures in
    let stopped = gives_stop part_of documents_of (front_behind cut.1) c.in_err-item.field-0.0 _ read in
    rw (p.1, p.2) (gives_same documents_of (Err c.in_err-item.field-0.0) (implicit cut.0 cut.1) _ (by_front cut.0 cut.1) stopped)

pub returns : goal.returns
returns c =
    let cut = segments (plain_lines c.args.lines.now) in
    let read = rw (c.split_front.ensures.front, c.first_line.ensures, c.split_front.ensures.next) at c.in_ok-item.ensures in
    let rest = rw (c.split_front.ensures.next, c.in_ok-put_document.ensures, c.new-items.ensures) at c.read_segments.ensures in
    gives_same documents_of c.read_segments.result (implicit cut.0 cut.1) _ (by_front cut.0 cut.1)
    (gives_next documents_of (front_behind cut.1) c.read_segments.result (part_of (c.in_ok-item.item, c.in_ok-item.after)) _ read rest)
