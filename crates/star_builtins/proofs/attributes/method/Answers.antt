use Rattle.std.proofs.Common.{ap}
use Rattle.builtin_spec.specs.Attributes.{method_if, or_missing}
use Rattle.star_steps.proofs.Meeting.{gives_same}
use Rattle.star_steps.proofs.Names.{seen, state_in, value_of}
use Rattle.star_builtins.proofs.attributes.method.Goals as goal

pub returns-else-there : goal.returns-else-there
returns-else-there c = λ n.
    let a = seen c.args.arena.now in
    gives_same _ _ _ _ _ _ (ap (λ b. or_missing c.args.at c.args.name.now (method_if b c.args.name.now (value_of a c.args.on)) (state_in a n)) c.if-there.false) (c.given.ensures a n tt)
