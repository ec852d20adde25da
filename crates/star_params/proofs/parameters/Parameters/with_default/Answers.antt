use Rattle.std.proofs.Common.{sym}
use Rattle.star_params.proofs.Told.{told_defaulted, defaulted_last}
use Rattle.star_params.proofs.parameters.Parameters.with_default.Goals as goal

pub invariant_of-result : goal.invariant_of-result
invariant_of-result c =
    rw (c.is_defaulted.ensures, c.defaulted_one-last.ensures)
    (told_defaulted c.self.inside c.pop.new.self c.in_ok-with-in-Some.field-0 c.in-Some.last c.args.default c.self.invariant c.in-Some.ensures (rw (← c.defaulted_one-last.ensures) c.in_ok-with-in-Some.ensures))

pub returns-in_ok-with-in-Some : goal.returns-in_ok-with-in-Some
returns-in_ok-with-in-Some c =
    rw (c.in_ok-with-in-Some.ensures, c.defaulted_one-last.ensures, ← c.self.view_is, c.in-Some.ensures) (sym (defaulted_last c.pop.new.self c.in-Some.last c.args.default))
