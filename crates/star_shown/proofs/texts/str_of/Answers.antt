use Rattle.star_steps.proofs.Names.{◌≡◌, ◌∙◌, Err, as_is, done, give, meets_same, meets_stop, rules, seen, state_in, string_bytes, sym, then_give, value_of}
use Rattle.text_spec.specs.Shown.{str_of}
use Rattle.star_shown.proofs.Pushing.{shown_alone}
use Rattle.star_shown.proofs.texts.str_of.Goals as goal

pub returns-in_err-push_str-clause-meaning : goal.returns-in_err-push_str-clause-meaning
returns-in_err-push_str-clause-meaning c =
    let a = seen c.args.arena.now in
    let m = str_of c.args.at (value_of a c.args.value) in
    let s = state_in a c.args.work.now.steps in
    let stopped : c.from_residual.result ≡ Err c.in_err-push_str.field-0.0 = search rules in
    meets_same as_is c.from_residual.result _ _ _ (shown_alone m s _ c.new-shown.ensures.bytes ∙ then_give _) (meets_stop (λ (u : Unit {0}). string_bytes c.push_str.new.shown) as_is c.in_err-push_str.field-0.0 _ _ give c.from_residual.result c.in_err-push_str.ensures stopped)

pub returns-clause-meaning : goal.returns-clause-meaning
returns-clause-meaning c =
    let a = seen c.args.arena.now in
    let m = str_of c.args.at (value_of a c.args.value) in
    let s = state_in a c.args.work.now.steps in
    shown_alone m s _ c.new-shown.ensures.bytes ∙ c.in_ok-push_str.ensures ∙ (λ i. done (sym c.of_string.ensures i) (state_in a c.push_str.new.steps))
