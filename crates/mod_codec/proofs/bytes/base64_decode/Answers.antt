use Rattle.std.proofs.Common.{◌≡◌, Err, ap, string_bytes, sym, ◌∙◌, rules}
use Rattle.star_steps.specs.Meets.{state_in}
use Rattle.star_values.specs.Objects.{seen}
use Rattle.star_values.specs.View.{text_in as text_told}
use Rattle.mod_json.specs.View.{text_at}
use Rattle.mod_codec.proofs.Paying.{decoded_as, undecoded}
use Rattle.mod_codec.proofs.bytes.base64_decode.Goals as goal

pub returns-in_err-answer : goal.returns-in_err-answer
returns-in_err-answer c =
    let a = seen c.args.arena.now in
    let s = state_in a c.args.steps.now in
    let stopped : c.from_residual.result ≡ Err c.in_err-answer.field-0.0 = search rules in
    let same : c.as_str.result.now ≡ text_at a c.args.text = c.as_str.ensures ∙ sym (ap text_told c.text.ensures) in
    undecoded c.args.at (text_at a c.args.text) a c.args.steps.now c.as_str.result.now same c.in_err-answer.field-0.0 c.from_residual.result (c.in_err-answer.ensures s) stopped

pub returns : goal.returns
returns c =
    let a = seen c.args.arena.now in
    let s = state_in a c.args.steps.now in
    let same : c.as_str.result.now ≡ text_at a c.args.text = c.as_str.ensures ∙ sym (ap text_told c.text.ensures) in
    decoded_as c.args.at (text_at a c.args.text) a c.args.steps.now c.as_str.result.now same (string_bytes c.in_ok-answer.answer) c.give_for.result (seen c.give_for.new.arena) c.give_for.new.steps (c.in_ok-answer.ensures s) c.give_for.ensures
