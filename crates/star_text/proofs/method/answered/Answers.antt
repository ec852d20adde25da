use Rattle.std.proofs.Common.{◌≡◌, Err, ap, rules, subst, sym, ◌∙◌}
use Rattle.std.specs.Option.{option_map}
use Rattle.star_steps.proofs.Names.{done, seen, state_in, value_of, values_of}
use Rattle.star_steps.specs.Meets.{Meets}
use Rattle.star_values.specs.declared.value.Value.TheVariants as value
use Rattle.text_spec.specs.Answers.{answer_bytes, answer_members}
use Rattle.text_spec.specs.Methods.{method_answer}
use Rattle.text_spec.specs.Signatures.{read_operands}
use Rattle.star_text.specs.View.{answer_of, made_of, method_of, operands_of}
use Rattle.star_text.proofs.Paying.{answer_paid, answer_unpaid}
use Rattle.star_text.proofs.Reading.{separated}
use Rattle.star_text.proofs.method.answered.Goals as goal

pub answer-requires : goal.answer-requires
answer-requires c =
    let a = seen c.args.arena.now in
    let vs = values_of a c.args.values.now in
    separated c.args.method a.store vs (operands_of c.in-Some.operands)
    (ap (λ ks. read_operands a.store ks vs) (sym c.signature_of.ensures.kinds) ∙ sym c.in_ok-operands.ensures ∙ ap (option_map operands_of) c.in-Some.is)

pub returns-in_err-pay_operation : goal.returns-in_err-pay_operation
returns-in_err-pay_operation c = λ t e.
    let a = seen c.args.arena.now in
    let m = method_of c.args.method in
    let vs = values_of a c.args.values.now in
    let os = operands_of c.in-Some.operands in
    let s = state_in a c.args.steps.now in
    let after = state_in a c.pay_operation.new.steps in
    let x = answer_of c.in_ok-answer.answer in
    let read = ap (λ ks. read_operands a.store ks vs) (sym c.signature_of.ensures.kinds) ∙ sym c.in_ok-operands.ensures ∙ ap (option_map operands_of) c.in-Some.is in
    let same : c.as_str-receiver.result.now ≡ t = cc in
    let is : x ≡ m.answer t os = c.in_ok-answer.ensures ∙ ap (λ y. m.answer y os) same in
    let unpaid = c.in_err-pay_operation.ensures (answer_bytes x) (answer_members x) c.answer_bytes.ensures c.answer_members.ensures in
    let met = answer_unpaid c.args.place m t vs os s x (value_of a (value.Text c.args.text)) read is e made_of after c.in_err-pay_operation.field-0.0 unpaid in
    let given : c.from_residual-in_err-pay_operation.result ≡ Err c.in_err-pay_operation.field-0.0 = search rules in
    subst (λ r. Meets made_of r after (method_answer c.args.place m t vs s)) (sym given) met

pub returns : goal.returns
returns c = λ t e.
    let a = seen c.args.arena.now in
    let m = method_of c.args.method in
    let vs = values_of a c.args.values.now in
    let os = operands_of c.in-Some.operands in
    let s = state_in a c.args.steps.now in
    let after = state_in a c.pay_operation.new.steps in
    let x = answer_of c.in_ok-answer.answer in
    let read = ap (λ ks. read_operands a.store ks vs) (sym c.signature_of.ensures.kinds) ∙ sym c.in_ok-operands.ensures ∙ ap (option_map operands_of) c.in-Some.is in
    let same : c.as_str-receiver.result.now ≡ t = cc in
    let is : x ≡ m.answer t os = c.in_ok-answer.ensures ∙ ap (λ y. m.answer y os) same in
    let paid = c.in_ok-pay_operation.ensures (answer_bytes x) (answer_members x) c.answer_bytes.ensures c.answer_members.ensures in
    answer_paid c.args.place m t vs os s x (value_of a (value.Text c.args.text)) read is e after paid ∙ ap (λ y. done y after) (sym c.in_ok-owned.ensures)
