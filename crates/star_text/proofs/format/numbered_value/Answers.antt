use Rattle.std.proofs.Common.{subst, sym}
use Rattle.star_values.specs.Owns.{OwnsOption}
use Rattle.star_text.proofs.Formatting.{owned_there}
use Rattle.star_text.proofs.format.numbered_value.Goals as goal

pub returns-in-Some-clause-owned : goal.returns-in-Some-clause-owned
returns-in-Some-clause-owned c = λ a h. subst (OwnsOption a) (sym c.value_at.ensures) (owned_there a c.args.values.now c.in-Some.at h)
