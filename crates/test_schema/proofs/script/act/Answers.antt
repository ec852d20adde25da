use Rattle.star_values.specs.Objects.{seen}
use Rattle.test_schema.proofs.script.act.Goals as goal

pub returns-in-document : goal.returns-in-document
returns-in-document c = c.begin.ensures (seen c.args.arena.now) c.requires

pub returns-in-element : goal.returns-in-element
returns-in-element c = c.begin-in-element.ensures (seen c.args.arena.now) c.requires

pub returns-in-pair : goal.returns-in-pair
returns-in-pair c = c.pair.ensures (seen c.args.arena.now) c.requires

pub returns-in-scalar : goal.returns-in-scalar
returns-in-scalar c = c.scalar.ensures (seen c.args.arena.now) c.requires

pub returns-in-end : goal.returns-in-end
returns-in-end c = c.end.ensures (seen c.args.arena.now) c.requires
