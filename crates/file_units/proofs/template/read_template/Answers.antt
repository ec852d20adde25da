use Rattle.std.proofs.lemmas.Result.{err_from_is_err_and}
use Rattle.world_spec.specs.Units.{template_items}
use Rattle.yaml_noted.specs.View.{documents_of}
use Rattle.file_units.proofs.Templates.{has_blocks, nested_read, stop_read}
use Rattle.file_units.proofs.template.read_template.Goals as goal

pub nested-requires : goal.nested-requires
nested-requires c = has_blocks c.args.file c.in_ok-resolved.ensures.0 c.in_ok-resolved.resolved c.in_ok-resolved.ensures.2

pub returns-in_err-resolved : goal.returns-in_err-resolved
returns-in_err-resolved c =
    let p = err_from_is_err_and c.from_residual.result c.from_residual.ensures.1 in
    rw (p.1, p.2) (stop_read c.args.file (λ r. template_items r c.args.ignore_unknown c.args.file (documents_of c.args.documents)) c.in_err-resolved.field-0.0 c.in_err-resolved.ensures)

pub returns : goal.returns
returns c =
    nested_read c.args.file (λ r. template_items r c.args.ignore_unknown c.args.file (documents_of c.args.documents)) c.in_ok-resolved.resolved c.in_ok-nested.field-0 c.in_ok-resolved.ensures
    c.in_ok-nested.ensures.file c.in_ok-nested.ensures.blocks c.in_ok-nested.ensures.globals
