use Rattle.star_values.specs.Objects.{seen}
use Rattle.object_arena.proofs.arena.Arena.list_get.Goals as goal

pub returns-in-Some-clause-owns : goal.returns-in-Some-clause-owns
returns-in-Some-clause-owns c = c.in-Some.ensures.owned (seen c.args.self.now) c.object.ensures.owns
