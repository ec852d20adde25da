use Rattle.star_steps.proofs.Names.{seen}
use Rattle.star_text.proofs.Reading.{argument_owned, argument_value}
use Rattle.star_text.proofs.kinds.argument.Goals as goal

pub returns-clause-value : goal.returns-clause-value
returns-clause-value c = argument_value (seen c.args.arena.now) c.args.values.now c.args.place c.value_at.result c.unwrap_or.result c.value_at.ensures c.unwrap_or.ensures

pub returns-clause-owns : goal.returns-clause-owns
returns-clause-owns c = argument_owned (seen c.args.arena.now) c.args.values.now c.args.place c.value_at.result c.unwrap_or.result c.value_at.ensures c.unwrap_or.ensures c.requires
