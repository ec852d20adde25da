use Rattle.std.proofs.Common.{◌≡◌, ◌∙◌, ◌++◌, ◌∷◌, ap, length, refl, rules, string_bytes, subst, sym}
use Rattle.star_steps.proofs.Names.{OwnsAll, done, seen, state_in, value_of, values_of}
use Rattle.star_values.specs.declared.value.Value.TheVariants as value
use Rattle.star_values.specs.View.{arguments_in, fields_in}
use Rattle.text_spec.specs.Fields.{format, none_met, values_of_fields}
use Rattle.star_text.specs.Formatting.{formatted_here, unless_twice}
use Rattle.star_text.proofs.Converting.{text_made, text_unpaid}
use Rattle.star_text.proofs.Formatting.{format_goes}
use Rattle.star_text.proofs.format.format.Goals as goal

pub pay_operation-requires-clause-others : goal.pay_operation-requires-clause-others
pay_operation-requires-clause-others c = subst (OwnsAll (seen c.args.arena.now)) (sym c.as_slice.ensures) (c.in_ok-values.ensures.owned (seen c.args.arena.now) c.requires.args)

pub returns-in_err-pay_operation : goal.returns-in_err-pay_operation
returns-in_err-pay_operation c = λ t e.
    let a = seen c.args.arena.now in
    let p = c.args.place in
    let s = state_in a c.args.steps.now in
    let mid = state_in a c.formatted.new.steps in
    let made = string_bytes c.in_ok-made.made in
    let vs = values_of a c.as_slice.result.now in
    let text : c.as_str.result.now ≡ t = cc in
    let is : unless_twice a p c.args.args (formatted_here a p c.args.args none_met t) s ≡ done made mid = ap (λ t. unless_twice a p c.args.args (formatted_here a p c.args.args none_met t) s) (sym text) ∙ c.in_ok-made.ensures in
    let all : vs ≡ values_of a c.args.args.positional ++ values_of_fields (fields_in a.held c.args.args.named) = ap (values_of a) c.as_slice.ensures ∙ c.in_ok-values.ensures.values a in
    let goes = format_goes a p c.args.args t made (value_of a (value.Text c.args.text)) vs s mid e is all in
    let size : c.len.result ≡ length made = search rules in
    let unpaid = c.in_err-pay_operation.ensures (length made) 0 size refl in
    text_unpaid p (value_of a (value.Text c.args.text) ∷ vs) made mid (format p t (arguments_in a.held c.args.args) s) goes a c.pay_operation.new.steps c.in_err-pay_operation.field-0.0 c.from_residual-in_err-pay_operation.result (search rules) unpaid

pub returns : goal.returns
returns c = λ t e.
    let a = seen c.args.arena.now in
    let p = c.args.place in
    let s = state_in a c.args.steps.now in
    let mid = state_in a c.formatted.new.steps in
    let made = string_bytes c.in_ok-made.made in
    let vs = values_of a c.as_slice.result.now in
    let text : c.as_str.result.now ≡ t = cc in
    let is : unless_twice a p c.args.args (formatted_here a p c.args.args none_met t) s ≡ done made mid = ap (λ t. unless_twice a p c.args.args (formatted_here a p c.args.args none_met t) s) (sym text) ∙ c.in_ok-made.ensures in
    let all : vs ≡ values_of a c.args.args.positional ++ values_of_fields (fields_in a.held c.args.args.named) = ap (values_of a) c.as_slice.ensures ∙ c.in_ok-values.ensures.values a in
    let goes = format_goes a p c.args.args t made (value_of a (value.Text c.args.text)) vs s mid e is all in
    let size : c.len.result ≡ length made = search rules in
    let paid = c.in_ok-pay_operation.ensures (length made) 0 size refl in
    text_made p (value_of a (value.Text c.args.text) ∷ vs) made mid (format p t (arguments_in a.held c.args.args) s) goes a (seen c.new_text.new.self) c.pay_operation.new.steps c.in_ok-new_text.field-0 paid (search rules)
