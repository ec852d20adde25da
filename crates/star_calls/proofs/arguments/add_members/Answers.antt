use Rattle.object_arena.specs.Names.{seen}
use Rattle.star_calls.proofs.arguments.add_members.Goals as goal

pub returns-clause-owns : goal.returns-clause-owns
returns-clause-owns c = c.in_ok-with_positions.ensures.owns (seen c.args.arena.now) c.requires.given c.in_ok-members.ensures.owns
