use Rattle.std.proofs.Common.{refl}
use Rattle.star_tables.proofs.levels.sign_step.Goals as goal

-- answered, so that another row is refused at once
pub returns : goal.returns
returns c = refl
