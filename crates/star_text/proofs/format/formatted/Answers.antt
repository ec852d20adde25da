use Rattle.std.proofs.Common.{◌≡◌, ◌∙◌, Err, ap, false, not, rules, string_bytes, subst, sym}
use Rattle.ytt_base.specs.declared.fault.FaultKind.TheVariants as kind
use Rattle.star_steps.proofs.Meeting.{meets_same, meets_stop}
use Rattle.star_steps.proofs.Names.{seen, state_in, then_give}
use Rattle.star_shown.proofs.Pushing.{shown_alone}
use Rattle.star_values.specs.Owns.{OwnsArguments}
use Rattle.star_values.specs.View.{fields_in}
use Rattle.text_spec.specs.Fields.{none_met}
use Rattle.value_spec.specs.Binding.{has_twice}
use Rattle.value_spec.specs.Outcomes.{give, need, then_do}
use Rattle.star_text.specs.ByName.{HasFirstIfAny}
use Rattle.star_text.specs.Formatting.{formatted_here}
use Rattle.star_text.proofs.format.formatted.Goals as goal

pub fill-requires : goal.fill-requires
fill-requires c =
    let given = c.in_ok-args.ensures.given in
    record {
      args = subst (OwnsArguments (seen c.args.arena.now)) (sym given) c.requires;
      first = subst (λ g. HasFirstIfAny c.in_ok-args.args.values g.named) (sym given) c.in_ok-args.ensures.first;
    }

pub returns-in_err-fill : goal.returns-in_err-fill
returns-in_err-fill c =
    let a = seen c.args.arena.now in
    let p = c.args.place in
    let t = c.args.text.now in
    let m = formatted_here a p c.in_ok-args.args.given.now none_met t in
    let s = state_in a c.args.steps.now in
    let once : has_twice (fields_in a.held c.args.args.now.named) ≡ false = sym (sym c.if-twice.false ∙ c.in_ok-twice.ensures a ∙ ap (λ fs. has_twice (fields_in a.held fs)) c.as_slice.ensures) in
    let stopped : c.from_residual-in_err-fill.result ≡ Err c.in_err-fill.field-0.0 = search rules in
    meets_same string_bytes c.from_residual-in_err-fill.result _ _ _
    (ap (λ b. then_do (need kind.ArgBind p (not b) s) (λ u. formatted_here a p c.args.args.now none_met t)) once
    ∙ ap (λ g. formatted_here a p g none_met t s) (sym c.in_ok-args.ensures.given) ∙ shown_alone m s _ c.new-made.ensures.bytes ∙ then_give _)
    (meets_stop (λ (u : Unit {0}). string_bytes c.fill.new.made) string_bytes c.in_err-fill.field-0.0 _ _ give c.from_residual-in_err-fill.result c.in_err-fill.ensures stopped)

pub returns : goal.returns
returns c =
    let a = seen c.args.arena.now in
    let p = c.args.place in
    let t = c.args.text.now in
    let m = formatted_here a p c.in_ok-args.args.given.now none_met t in
    let s = state_in a c.args.steps.now in
    let once : has_twice (fields_in a.held c.args.args.now.named) ≡ false = sym (sym c.if-twice.false ∙ c.in_ok-twice.ensures a ∙ ap (λ fs. has_twice (fields_in a.held fs)) c.as_slice.ensures) in
    ap (λ b. then_do (need kind.ArgBind p (not b) s) (λ u. formatted_here a p c.args.args.now none_met t)) once
    ∙ ap (λ g. formatted_here a p g none_met t s) (sym c.in_ok-args.ensures.given) ∙ shown_alone m s _ c.new-made.ensures.bytes ∙ c.in_ok-fill.ensures
