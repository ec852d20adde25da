use Rattle.star_values.specs.Objects.{seen}
use Rattle.node_build.proofs.fill.members_of.Goals as goal

pub returns-clause-owned : goal.returns-clause-owned
returns-clause-owned c = c.in_ok-members.ensures.owned (seen c.args.arena.now)
