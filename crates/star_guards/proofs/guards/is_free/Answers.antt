use Rattle.std.proofs.Common.{refl}
use Rattle.star_guards.proofs.guards.is_free.Goals as goal

-- answered, so that a name that isn't asked for is refused at once
pub returns-in-Param : goal.returns-in-Param
returns-in-Param c = rw (c.in-Param.is, c.has_name.ensures, c.name_in.ensures) refl
