use Rattle.std.proofs.Common.{ap}
use Rattle.star_guards.proofs.guards.is_target.Goals as goal

-- answered, so that what is no target is refused at once
pub returns : goal.returns
returns c = ap (λ x. x.target) c.top.ensures
