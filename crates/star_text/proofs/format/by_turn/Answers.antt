use Rattle.std.proofs.Common.{◌+◌, refl, subst, sym, ◌∙◌}
use Rattle.star_steps.proofs.Names.{seen, state_in}
use Rattle.star_values.specs.Owns.{OwnsOption}
use Rattle.text_spec.specs.Fields as fields
use Rattle.star_text.proofs.Formatting.{none_there, one_there}
use Rattle.star_text.proofs.format.by_turn.Goals as goal

pub returns-in-None-clause-found : goal.returns-in-None-clause-found
returns-in-None-clause-found c = λ n.
    rw c.refusal.ensures (none_there (seen c.args.arena.now) c.args.place (fields.by_turn (c.args.turn + 1)) c.args.values.now c.args.turn (state_in (seen c.args.arena.now) n) (sym c.in-None.is ∙ c.numbered_value.ensures.value c.args.turn refl))

pub returns-in-Some-clause-found : goal.returns-in-Some-clause-found
returns-in-Some-clause-found c = λ n.
    one_there (seen c.args.arena.now) c.args.place (fields.by_turn (c.args.turn + 1)) c.in-Some.value c.args.values.now c.args.turn (state_in (seen c.args.arena.now) n) (sym c.in-Some.is ∙ c.numbered_value.ensures.value c.args.turn refl)

pub returns-in-Some-clause-owned : goal.returns-in-Some-clause-owned
returns-in-Some-clause-owned c = subst (OwnsOption (seen c.args.arena.now)) c.in-Some.is (c.numbered_value.ensures.owned (seen c.args.arena.now) c.requires)
