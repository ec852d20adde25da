use Rattle.std.proofs.Common.{◌≡◌, ◌<◌, length, get_or, sym, ◌∙◌, arith}
use Rattle.std.proofs.lemmas.Grind.{common_steps}
use Rattle.yaml_quotes.proofs.Escaping.{escape-char}
use Rattle.yaml_quotes.proofs.escapes.escape.Goals as goal

pub returns-in-Some-escaped_char-clause-value : goal.returns-in-Some-escaped_char-clause-value
returns-in-Some-escaped_char-clause-value c =
    let t = c.args.text.now in
    let some : 0 < length t = grind (arith, common_steps) in
    let here : get_or t 0 0 ≡ c.in-Some.byte.now = grind (arith, common_steps) in
    rw c.behind.ensures (sym (escape-char t c.in-Some-escaped_char.character some (rw here (sym c.escaped_char.ensures ∙ c.in-Some-escaped_char.is))))
