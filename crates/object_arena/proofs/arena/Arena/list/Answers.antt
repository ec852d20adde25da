use Rattle.object_arena.proofs.Names.{seen}
use Rattle.object_arena.proofs.arena.Arena.list.Goals as goal

pub returns-clause-owns : goal.returns-clause-owns
returns-clause-owns c = c.list.ensures.owned (seen c.args.self.now) c.object.ensures.owns
