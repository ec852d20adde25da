use Rattle.std.proofs.Common.{Err}
use Rattle.std.proofs.lemmas.Result.{err_from_is_err_and}
use Rattle.ytt_base.specs.View.{trees_of}
use Rattle.yaml_noted.specs.View.{documents_of}
use Rattle.yaml_spec.specs.Read.{Read, plain_trees}
use Rattle.ytt_laws.proofs.Chains.{gives_next, gives_same, gives_stop}
use Rattle.yaml_read.proofs.Wholes.{trees_by_documents}
use Rattle.yaml_read.proofs.read.read_plain.Goals as goal

pub returns-in_err-documents : goal.returns-in_err-documents
returns-in_err-documents c =
    let p = err_from_is_err_and c.from_residual.result c.from_residual.ensures.1 in
    let stopped = gives_stop documents_of trees_of plain_trees c.in_err-documents.field-0.0 (Read c.args.file c.args.bytes.now) c.in_err-documents.ensures in
    rw (p.1, p.2) (gives_same trees_of (Err c.in_err-documents.field-0.0) _ _ (trees_by_documents c.args.file c.args.bytes.now) stopped)

pub returns : goal.returns
returns c =
    gives_same trees_of c.plain_trees.result _ _ (trees_by_documents c.args.file c.args.bytes.now)
    (gives_next trees_of plain_trees c.plain_trees.result (documents_of c.in_ok-documents.documents) (Read c.args.file c.args.bytes.now) c.in_ok-documents.ensures c.plain_trees.ensures)
