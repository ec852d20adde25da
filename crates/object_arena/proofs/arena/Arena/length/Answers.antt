use Rattle.star_values.specs.Objects.{seen}
use Rattle.object_arena.proofs.Reading.{tuple_length}
use Rattle.object_arena.proofs.arena.Arena.length.Goals as goal

pub returns-in-Tuple : goal.returns-in-Tuple
returns-in-Tuple c = tuple_length (seen c.args.self.now) c.args.r c.tuple.result.now c.in-Tuple.is c.requires.owned c.tuple.ensures.members
