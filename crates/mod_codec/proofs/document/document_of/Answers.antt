use Rattle.std.proofs.Common.{◌<◌, ◌^◌, ap, arith, length, sym, ◌∙◌, rules}
use Rattle.yaml_noted.specs.View.{documents_of}
use Rattle.yaml_spec.specs.Read.{Read}
use Rattle.mod_codec.proofs.Documents.{of_documents}
use Rattle.mod_codec.proofs.document.document_of.Goals as goal

pub returns-in-Ok : goal.returns-in-Ok
returns-in-Ok c = λ s.
    let short : length c.args.text.now < 2 ^ 32 = search (rules, arith) in
    let is = ap (Read 1) (sym c.as_bytes.ensures.value) ∙ c.in-Ok.ensures in
    of_documents c.args.at c.args.text.now s short (documents_of c.in-Ok.documents) c.only_document.result is (c.only_document.ensures s)
