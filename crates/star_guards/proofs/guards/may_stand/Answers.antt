use Rattle.std.proofs.Common.{ap, sym, ◌∙◌}
use Rattle.star_grammar.specs.Effects.{takes}
use Rattle.star_guards.proofs.guards.may_stand.Goals as goal

-- answered, so that a token that isn't due is refused at once
pub returns-then-takes : goal.returns-then-takes
returns-then-takes c = rw (ap (takes c.args.terminal) (sym c.kind_of.ensures) ∙ sym c.takes.ensures ∙ c.if-takes.true) c.is_free.ensures
