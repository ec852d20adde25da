use Rattle.std.proofs.Common.{Err}
use Rattle.std.proofs.lemmas.Result.{err_from_is_err_and}
use Rattle.yaml_noted.specs.View.{documents_of}
use Rattle.yaml_spec.specs.Held.{plain_lines}
use Rattle.yaml_spec.specs.Lines.{Lines}
use Rattle.ytt_laws.proofs.Chains.{gives_next, gives_same, gives_stop}
use Rattle.yaml_read.proofs.Fitting.{read_lines_fit}
use Rattle.yaml_read.proofs.Wholes.{read_by_lines, documents_in}
use Rattle.yaml_read.proofs.read.read_noted.Goals as goal

pub returns-in_err-lines : goal.returns-in_err-lines
returns-in_err-lines c =
    let p = err_from_is_err_and c.from_residual.result c.from_residual.ensures.1 in
    let stopped = gives_stop plain_lines documents_of documents_in c.in_err-lines.field-0.0 (Lines c.args.file c.args.bytes.now) c.in_err-lines.ensures.lines in
    rw (p.1, p.2) (gives_same documents_of (Err c.in_err-lines.field-0.0) _ _ (read_by_lines c.args.file c.args.bytes.now) stopped)

pub read_documents-requires : goal.read_documents-requires
read_documents-requires c = rw c.as_slice.ensures (read_lines_fit c.args.file c.args.bytes.now (plain_lines c.in_ok-lines.lines) c.requires c.in_ok-lines.ensures.lines)

pub returns : goal.returns
returns c =
    let rest = rw c.as_slice.ensures at c.read_documents.ensures in
    gives_same documents_of c.read_documents.result _ _ (read_by_lines c.args.file c.args.bytes.now)
    (gives_next documents_of documents_in c.read_documents.result (plain_lines c.in_ok-lines.lines) (Lines c.args.file c.args.bytes.now) c.in_ok-lines.ensures.lines rest)
