use Rattle.yaml_noted.specs.View.{documents_of}
use Rattle.file_listing.proofs.file.list_text.Goals as goal

pub list_documents-requires : goal.list_documents-requires
list_documents-requires c = c.reads_keyed.ensures 1 c.args.bytes.now (documents_of c.in_ok-documents.documents) c.in_ok-documents.ensures
