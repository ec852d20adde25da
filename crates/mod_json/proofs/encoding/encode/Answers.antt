use Rattle.std.proofs.Common.{◌≡◌, Err, Ok, string_bytes, subst, rules}
use Rattle.std.proofs.lemmas.Str.{IsUtf8-string_bytes, is_utf8-from_IsUtf8}
use Rattle.object_arena.specs.Made.{Makes}
use Rattle.serde_json.specs.View.{view}
use Rattle.star_steps.specs.Meets.{state_in}
use Rattle.star_values.specs.Objects.{seen}
use Rattle.star_values.specs.View.{value_of}
use Rattle.value_spec.specs.Values.{text_value}
use Rattle.mod_json.proofs.Giving.{encoded, made, unencoded}
use Rattle.mod_json.proofs.Plain.{given_plain}
use Rattle.mod_json.proofs.encoding.encode.Goals as goal

pub returns-in_err-json : goal.returns-in_err-json
returns-in_err-json c =
    let a = seen c.args.arena.now in
    let stopped : c.from_residual.result ≡ Err c.in_err-json.field-0.0 = search rules in
    unencoded view c.args.at (value_of a c.args.value) c.in_err-json.field-0.0 a c.args.steps.now c.value_json.new.steps c.from_residual.result c.in_err-json.ensures stopped

pub returns : goal.returns
returns c =
    let a = seen c.args.arena.now in
    let v = value_of a c.args.value in
    let s = state_in a c.args.steps.now in
    let u = state_in a c.value_json.new.steps in
    let t = string_bytes c.in_ok-text.text in
    let plain = given_plain 100 c.args.at v (view c.in_ok-json.json) s u c.in_ok-json.ensures in
    made _ (text_value t) c.in_ok-new_text.field-0 a (seen c.new_text.new.self) c.value_json.new.steps
    (encoded c.args.at v (view c.in_ok-json.json) t s u c.in_ok-json.ensures (is_utf8-from_IsUtf8 t (IsUtf8-string_bytes c.in_ok-text.text)) (c.in_ok-text.ensures plain))
    (subst (λ t. Makes (text_value t) (Ok c.in_ok-new_text.field-0) a (seen c.new_text.new.self)) c.of_string.ensures c.in_ok-new_text.ensures.made)
