use Rattle.std.proofs.lemmas.Result.{err_from_is_err_and}
use Rattle.template_tree.specs.View.{template_of}
use Rattle.yaml_noted.specs.View.{documents_of}
use Rattle.file_units.proofs.Templates.{compile_told, place_stop}
use Rattle.file_units.proofs.template.compile_documents.Goals as goal

pub returns-in_err-template : goal.returns-in_err-template
returns-in_err-template c =
    let p = err_from_is_err_and c.from_residual.result c.from_residual.ensures.1 in
    rw (p.1, p.2) (place_stop c.args.file c.args.ignore_unknown (documents_of c.args.documents) template_of c.in_err-template.field-0.0 c.in_err-template.ensures.template)

pub returns : goal.returns
returns c =
    compile_told c.args.file c.args.ignore_unknown (documents_of c.args.documents) (template_of c.in_ok-template.template) c.in_ok-template.ensures.template (c.in_ok-template.ensures.placed c.requires) c.in_ok-template.template.file
    c.in_ok-template.ensures.file c.compile.result c.compile.ensures.program c.compile.ensures.globals c.compile.ensures.file
