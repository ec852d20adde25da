use Rattle.std.proofs.Common.{◌≡◌, ◌++◌, ◌∷◌, ap, refl, rules, subst, sym, ◌∙◌}
use Rattle.builtin_spec.specs.Dicts.{field_values, keys_sized}
use Rattle.star_steps.proofs.Names.{OwnsAll, as_is, fields_in, meets_same, meets_stop, pairs_in, seen, state_in, value_of, values_of}
use Rattle.star_text.proofs.Paying.{after_cost}
use Rattle.text_spec.specs.Answers.{paid_operation}
use Rattle.star_builtins.proofs.pairs.pay_pairs.Goals as goal

pub pay_operation-requires-clause-others : goal.pay_operation-requires-clause-others
pay_operation-requires-clause-others c = let a = seen c.args.arena.now in subst (OwnsAll a) (sym c.as_slice.ensures) (c.in_ok-operands.ensures.owned a c.requires.args)

pub returns-in_err-pay_operation : goal.returns-in_err-pay_operation
returns-in_err-pay_operation c =
    let a = seen c.args.arena.now in
    let p = c.args.at in
    let v = value_of a c.args.first in
    let s = state_in a c.args.steps.now in
    let keys = keys_sized p (pairs_in a.held c.args.pairs.now) in
    let operands : values_of a c.as_slice.result.now ≡ values_of a c.args.args.now.positional ++ field_values (fields_in a.held c.args.args.now.named) = ap (values_of a) c.as_slice.ensures ∙ c.in_ok-operands.ensures.values a in
    meets_same as_is _ _ _ _
    (ap (λ vs. paid_operation p (v ∷ vs) 0 c.args.members keys s) (sym operands) ∙ after_cost p (v ∷ values_of a c.as_slice.result.now) 0 c.args.members keys s)
    (meets_stop as_is as_is c.in_err-pay_operation.field-0.0 (state_in a c.pay_operation.new.steps) _ (λ u. keys) _ (c.in_err-pay_operation.ensures 0 c.args.members refl refl) (search rules))
