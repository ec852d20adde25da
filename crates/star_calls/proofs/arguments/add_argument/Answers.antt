use Rattle.object_arena.specs.Names.{seen}
use Rattle.star_calls.proofs.arguments.add_argument.Goals as goal

pub returns-in_ok-with_position-in-Positional-clause-owns : goal.returns-in_ok-with_position-in-Positional-clause-owns
returns-in_ok-with_position-in-Positional-clause-owns c = c.in_ok-with_position-in-Positional.ensures.owns (seen c.args.arena.now) c.requires.given c.requires.value

pub returns-in_ok-with_name-in-Named-clause-owns : goal.returns-in_ok-with_name-in-Named-clause-owns
returns-in_ok-with_name-in-Named-clause-owns c = c.in_ok-with_name-in-Named.ensures.owns (seen c.args.arena.now) c.requires.given c.requires.value
