use Rattle.std.proofs.lemmas.Result.{err_from_is_err_and}
use Rattle.yaml_noted.specs.View.{documents_of}
use Rattle.file_units.proofs.Sources.{yaml_read, yaml_stop}
use Rattle.file_units.proofs.source.read_yaml.Goals as goal

pub of_documents-requires : goal.of_documents-requires
of_documents-requires c = c.reads_keyed.ensures c.args.file c.args.bytes.now (documents_of c.in_ok-documents.documents) c.in_ok-documents.ensures

pub returns-in_err-documents-clause-read : goal.returns-in_err-documents-clause-read
returns-in_err-documents-clause-read c =
    let p = err_from_is_err_and c.from_residual.result c.from_residual.ensures.1 in
    rw (p.1, p.2) (yaml_stop documents_of c.args.file c.args.ignore_unknown c.args.library c.args.bytes.now c.in_err-documents.field-0.0 c.in_err-documents.ensures)

pub returns-clause-read : goal.returns-clause-read
returns-clause-read c = yaml_read c.args.file c.args.ignore_unknown c.args.library (documents_of c.in_ok-documents.documents) c.of_documents.result c.args.bytes.now c.in_ok-documents.ensures c.of_documents.ensures.read
