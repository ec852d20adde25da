use Rattle.std.proofs.Common.{◌≡◌, Err, Ok, length, refl, rules, string_bytes, subst}
use Rattle.std.proofs.lemmas.Str.{IsUtf8-string_bytes, is_utf8-from_IsUtf8}
use Rattle.object_arena.specs.Made.{Makes}
use Rattle.star_values.specs.Objects.{seen}
use Rattle.value_spec.specs.Values.{text_value}
use Rattle.mod_json.specs.View.{text_at}
use Rattle.mod_codec.proofs.Paying.{paid_text, unpaid_text}
use Rattle.mod_codec.proofs.bytes.give_for.Goals as goal

pub returns-in_err-pay_operation : goal.returns-in_err-pay_operation
returns-in_err-pay_operation c =
    let a = seen c.args.arena.now in
    let u = string_bytes c.args.answer in
    let x = c.in_err-pay_operation.field-0.0 in
    let stopped : c.from_residual.result ≡ Err x = search rules in
    let size : c.len.result ≡ length u = search rules in
    unpaid_text c.args.at (text_at a c.args.text) u a c.args.steps.now c.pay_operation.new.steps x c.from_residual.result (c.in_err-pay_operation.ensures (length u) 0 size refl) stopped

pub returns : goal.returns
returns c =
    let a = seen c.args.arena.now in
    let b = seen c.new_text.new.self in
    let u = string_bytes c.args.answer in
    let size : c.len.result ≡ length u = search rules in
    paid_text c.args.at (text_at a c.args.text) u a c.args.steps.now c.pay_operation.new.steps c.in_ok-new_text.field-0 b (c.in_ok-pay_operation.ensures (length u) 0 size refl)
    (is_utf8-from_IsUtf8 u (IsUtf8-string_bytes c.args.answer))
    (subst (λ t. Makes (text_value t) (Ok c.in_ok-new_text.field-0) a b) c.of_string.ensures c.in_ok-new_text.ensures.made)
