use Rattle.std.proofs.Common.{arith}
use Rattle.star_tables.proofs.effect.least.Goals as goal

pub returns-in_default : goal.returns-in_default
returns-in_default c = grind arith
