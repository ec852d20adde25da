use Rattle.std.proofs.Common.{subst}
use Rattle.star_steps.proofs.Names.{seen}
use Rattle.star_values.specs.Owns.{OwnsOption}
use Rattle.star_text.proofs.format.by_number.Goals as goal

pub returns-in-Some-clause-owned : goal.returns-in-Some-clause-owned
returns-in-Some-clause-owned c = subst (OwnsOption (seen c.args.arena.now)) c.in-Some.is (c.numbered_value.ensures.owned (seen c.args.arena.now) c.requires)
