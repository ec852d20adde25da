use Rattle.star_params.proofs.Told.{told_more}
use Rattle.star_params.proofs.parameters.Parameters.with.Goals as goal

pub invariant_of-result : goal.invariant_of-result
invariant_of-result c =
    rw (c.is_starred.ensures, c.is_double_starred.ensures, c.is_defaulted.ensures)
    (told_more c.self.inside c.args.param c.in_ok-with.field-0 c.name_of.result.now c.in_ok-names.names c.self.invariant c.in_ok-with.ensures c.name_of.ensures c.in_ok-names.ensures)
