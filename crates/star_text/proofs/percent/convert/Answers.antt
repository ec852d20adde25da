use Rattle.std.proofs.Common.{◌∙◌, ◌∷◌, rules, string_bytes, sym}
use Rattle.star_steps.proofs.Names.{seen, state_in, values_of}
use Rattle.text_spec.specs.Percent.{by_next, filled}
use Rattle.star_shown.specs.Pushes.{behind}
use Rattle.star_text.specs.Filling.{conversion_in}
use Rattle.star_text.proofs.Converting.{by_sign, by_value, goes_stopped}
use Rattle.star_text.proofs.percent.convert.Goals as goal

pub returns-in_err-left-in-Some-clause-goes : goal.returns-in_err-left-in-Some-clause-goes
returns-in_err-left-in-Some-clause-goes c =
    let a = c.args in
    let s = state_in (seen a.arena.now) a.steps.now in
    let vs = values_of (seen a.arena.now) a.values.now in
    goes_stopped c.in_err-left-in-Some.field-0.0 c.from_residual.result (behind (string_bytes a.made.now) (filled a.place (37 ∷ a.text.now) vs) s) (behind (string_bytes a.made.now) (by_next a.place (conversion_in c.in-Some.conversion) vs (filled a.place c.in-Some.more.now)) s) (λ vs. behind (string_bytes c.convert_next.new.made) (filled a.place c.in-Some.more.now (values_of (seen a.arena.now) vs.now)) (state_in (seen a.arena.now) c.convert_next.new.steps)) _ (state_in (seen a.arena.now) c.convert_next.new.steps) (search rules)
    (by_value a.place a.text.now c.in-Some.more.now c.in-Some.conversion vs (string_bytes a.made.now) s c.in-Some.ensures (sym c.takes_value.ensures ∙ c.if-takes_value.true))
    (c.in_err-left-in-Some.ensures.goes (filled a.place c.in-Some.more.now))

pub returns-then-takes_value-clause-goes : goal.returns-then-takes_value-clause-goes
returns-then-takes_value-clause-goes c =
    let a = c.args in
    let s = state_in (seen a.arena.now) a.steps.now in
    let vs = values_of (seen a.arena.now) a.values.now in
    by_value a.place a.text.now c.in-Some.more.now c.in-Some.conversion vs (string_bytes a.made.now) s c.in-Some.ensures (sym c.takes_value.ensures ∙ c.if-takes_value.true)
    ∙ c.in_ok-left-in-Some.ensures.goes (filled a.place c.in-Some.more.now)

pub returns-in_ok-append-in-Some-clause-goes : goal.returns-in_ok-append-in-Some-clause-goes
returns-in_ok-append-in-Some-clause-goes c =
    let a = c.args in
    let s = state_in (seen a.arena.now) a.steps.now in
    let vs = values_of (seen a.arena.now) a.values.now in
    by_sign a.place a.text.now c.in-Some.more.now c.in-Some.conversion vs (string_bytes a.made.now) (string_bytes c.append.new.text) s c.in-Some.ensures (sym c.takes_value.ensures ∙ c.if-takes_value.false) (sym c.is_of_float.ensures ∙ c.if-is_of_float.false) c.in_ok-append-in-Some.ensures
