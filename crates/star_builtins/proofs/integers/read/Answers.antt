use Rattle.std.proofs.Common.{◌≡◌, [], ◌∷◌, ap, refl, rules, ◌∙◌}
use Rattle.builtin_spec.specs.Builtins.{integer_read}
use Rattle.star_steps.proofs.Meeting.{gives_same}
use Rattle.star_steps.specs.Names.{get_or, none_value, seen, state_in, value_of}
use Rattle.star_values.specs.View.{text_in}
use Rattle.star_values.specs.declared.value.Value.TheVariants as value
use Rattle.star_builtins.specs.Reading.{integer_told}
use Rattle.star_builtins.proofs.Changing.{cost_refused, cost_taken}
use Rattle.star_builtins.proofs.integers.read.Goals as goal

pub returns-in_err-pay_operation : goal.returns-in_err-pay_operation
returns-in_err-pay_operation c =
    let a = seen c.args.arena.now in
    let p = c.args.at in
    let t = text_in (get_or a.held c.args.text.at none_value) in
    cost_refused p (value_of a (value.Text c.args.text) ∷ []) (integer_told p (integer_read c.args.base t)) a c.args.steps.now _ refl
    c.in_err-pay_operation.field-0.0 c.pay_operation.new.steps c.from_residual.result (c.in_err-pay_operation.ensures 0 0 refl refl) (search rules)

pub returns : goal.returns
returns c =
    let a = seen c.args.arena.now in
    let p = c.args.at in
    let k = c.pay_operation.new.steps in
    let t = text_in (get_or a.held c.args.text.at none_value) in
    let bytes : t ≡ c.as_bytes.result.now = ap text_in c.text.ensures ∙ search rules in
    cost_taken p (value_of a (value.Text c.args.text) ∷ []) (integer_told p (integer_read c.args.base t)) a c.args.steps.now _ refl
    a k c.read_bytes.result (c.in_ok-pay_operation.ensures 0 0 refl refl)
    (gives_same _ _ _ _ _ _ (ap (λ t. integer_told p (integer_read c.args.base t) (state_in a k)) bytes) (c.read_bytes.ensures k))
