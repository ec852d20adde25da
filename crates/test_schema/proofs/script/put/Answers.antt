use Rattle.star_values.specs.Objects.{seen}
use Rattle.test_schema.proofs.script.put.Goals as goal

pub returns : goal.returns
returns c = c.note.ensures.owned (seen c.args.arena.now) c.requires.note c.requires.nodes
