use Rattle.std.proofs.Common.{◌≡◌, ◌∙◌, Err, rules, string_bytes}
use Rattle.star_steps.proofs.Meeting.{meets_same, meets_stop}
use Rattle.star_steps.proofs.Names.{seen, state_in, then_give, values_of}
use Rattle.star_shown.proofs.Pushing.{shown_alone}
use Rattle.text_spec.specs.Percent.{filled}
use Rattle.value_spec.specs.Outcomes.{give}
use Rattle.star_text.proofs.percent.filled_with.Goals as goal

pub returns-in_err-fill : goal.returns-in_err-fill
returns-in_err-fill c =
    let a = seen c.args.arena.now in
    let m = filled c.args.place c.args.text.now (values_of a c.args.values.now) in
    let s = state_in a c.args.steps.now in
    let stopped : c.from_residual.result ≡ Err c.in_err-fill.field-0.0 = search rules in
    meets_same string_bytes c.from_residual.result _ _ _ (shown_alone m s _ c.new-made.ensures.bytes ∙ then_give _)
    (meets_stop (λ (u : Unit {0}). string_bytes c.fill.new.made) string_bytes c.in_err-fill.field-0.0 _ _ give c.from_residual.result c.in_err-fill.ensures stopped)

pub returns : goal.returns
returns c =
    let a = seen c.args.arena.now in
    shown_alone (filled c.args.place c.args.text.now (values_of a c.args.values.now)) (state_in a c.args.steps.now) _ c.new-made.ensures.bytes ∙ c.in_ok-fill.ensures
