use Rattle.std.proofs.Common.{Ok, Err, sym, ◌∙◌}
use Rattle.std.proofs.lemmas.Result.{err_from_is_err_and}
use Rattle.world_spec.specs.Units.{template_items}
use Rattle.yaml_noted.specs.View.{documents_of}
use Rattle.file_units.specs.Files.{role_for}
use Rattle.file_units.proofs.Sources.{no_code, program_held, program_stop, program_whole, with_code}
use Rattle.file_units.proofs.source.of_documents.Goals as goal

pub returns-in_err-program-clause-read : goal.returns-in_err-program-clause-read
returns-in_err-program-clause-read c =
    let ds = documents_of c.args.documents in
    let s = c.in_err-program.field-0.0 in
    let p = err_from_is_err_and c.from_residual.result c.from_residual.ensures.1 in
    rw (p.1, p.2) (with_code c.args.file c.args.ignore_unknown c.args.library ds (Err s) (sym c.has_code.ensures ∙ c.if-has_code.true)
    (program_stop c.args.file (λ r. template_items r c.args.ignore_unknown c.args.file ds) (role_for c.args.library) s c.in_err-program.ensures))

pub returns-then-has_code-clause-read : goal.returns-then-has_code-clause-read
returns-then-has_code-clause-read c =
    let ds = documents_of c.args.documents in
    with_code c.args.file c.args.ignore_unknown c.args.library ds (Ok c.of_program.result) (sym c.has_code.ensures ∙ c.if-has_code.true)
    (program_held c.args.file (λ r. template_items r c.args.ignore_unknown c.args.file ds) c.args.library c.in_ok-program.program c.of_program.result c.of_program.ensures.block c.of_program.ensures.content c.in_ok-program.ensures)

pub returns-then-has_code-clause-whole : goal.returns-then-has_code-clause-whole
returns-then-has_code-clause-whole c =
    let ds = documents_of c.args.documents in
    program_whole c.args.file (λ r. template_items r c.args.ignore_unknown c.args.file ds) c.args.library c.in_ok-program.program c.of_program.result c.of_program.ensures.block c.of_program.ensures.content c.in_ok-program.ensures

pub returns-clause-read : goal.returns-clause-read
returns-clause-read c = no_code c.args.file c.args.ignore_unknown c.args.library (documents_of c.args.documents) c.without_code.result (sym c.has_code.ensures ∙ c.if-has_code.false) c.without_code.ensures.read
