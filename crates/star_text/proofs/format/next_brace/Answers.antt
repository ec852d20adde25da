use Rattle.std.proofs.Common.{◌≡◌, ◌+◌, ◌==◌, ap, drop, get_or, rules, take}
use Rattle.std.proofs.lemmas.Str.{IsCharBoundary-after_ascii}
use Rattle.star_text.proofs.Formatting.{cut_there, low_brace, without_brace}
use Rattle.star_text.proofs.format.next_brace.Goals as goal

pub range_from-requires : goal.range_from-requires
range_from-requires c =
    let found = rw c.as_bytes.ensures.value at c.in-Some.ensures in
    λ h. IsCharBoundary-after_ascii c.args.text.now c.in-Some.at c.utf8.text found.0.high (low_brace (get_or c.args.text.now c.in-Some.at 0) found.1)

pub returns-in-None : goal.returns-in-None
returns-in-None c = without_brace c.args.text.now (rw c.as_bytes.ensures.value at c.in-None.ensures)

pub returns-in-Some : goal.returns-in-Some
returns-in-Some c =
    let t = c.args.text.now in
    let at = c.in-Some.at in
    let found = rw c.as_bytes.ensures.value at c.in-Some.ensures in
    let front : c.range.result.now ≡ take at t = search rules in
    let rest : c.range_from.result.now ≡ drop (at + 1) t = search rules in
    cut_there t c.range.result.now c.range_from.result.now at _ found.0.high found.0.before found.1 front rest (ap (λ bs. get_or bs at 0 == 123) c.as_bytes-in-Some.ensures.value)
