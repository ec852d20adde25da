use Rattle.star_values.specs.Objects.{seen}
use Rattle.star_builtins.proofs.calls.own_of.Goals as goal

pub returns-in-Native-Language-default-None-clause-owned : goal.returns-in-Native-Language-default-None-clause-owned
returns-in-Native-Language-default-None-clause-owned c = c.function_of.ensures.owned (seen c.args.arena.now)
