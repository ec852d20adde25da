use Rattle.std.proofs.Common.{ap, rules, string_bytes, sym, ◌∙◌}
use Rattle.std.proofs.lemmas.Str.{IsUtf8-string_bytes, is_utf8-from_IsUtf8}
use Rattle.base64.specs.Engines.{standard}
use Rattle.base64.specs.GeneralPurpose.{decode_of}
use Rattle.std.specs.Str.{IsUtf8}
use Rattle.mod_codec.proofs.Tables.{is_no_text, is_text}
use Rattle.mod_codec.proofs.bytes.decoded.Goals as goal

pub returns-in-Ok-from_utf8 : goal.returns-in-Ok-from_utf8
returns-in-Ok-from_utf8 c = λ s.
    let u = string_bytes c.in-Ok-from_utf8.text in
    let is = ap (decode_of standard) (sym c.as_bytes.ensures.value) ∙ c.in-Ok.ensures.ok in
    is_text c.args.at c.args.text.now c.in-Ok.bytes.items s is u (ap (λ v. v.items) c.in-Ok-from_utf8.ensures.ok) (is_utf8-from_IsUtf8 u (IsUtf8-string_bytes c.in-Ok-from_utf8.text))

pub returns-in-Ok : goal.returns-in-Ok
returns-in-Ok c = λ s.
    let is = ap (decode_of standard) (sym c.as_bytes.ensures.value) ∙ c.in-Ok.ensures.ok in
    let fails : IsUtf8 c.in-Ok.bytes.items → ⊥ = λ h. search (rules, c.from_utf8.ensures.succeeds h, c.in-Err.is) in
    rw c.refusal.ensures (is_no_text c.args.at c.args.text.now c.in-Ok.bytes.items s is fails)
