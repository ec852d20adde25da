use Rattle.star_values.specs.Objects.{seen}
use Rattle.test_schema.proofs.script.built.Goals as goal

pub loop-command-init : goal.loop-command-init
loop-command-init c = c.new-builder.ensures.owned (seen c.args.arena.now)

pub returns : goal.returns
returns c = c.take.ensures.owned (seen c.args.arena.now) c.loop-command.invariant
