use Rattle.std.proofs.Common.{◌≡◌, ◌<◌, ◌++◌, ◌/◌, ◌-◌, ◌==◌, true, false, [], ap, append-nil, arith, if◌then◌else◌, rules, string_bytes, sym, ◌∙◌}
use Rattle.std.proofs.lemmas.Bool.Decides.{nat_tests}
use Rattle.std.specs.Fmt.{digits_onto}
use Rattle.star_text.proofs.Conversions.{digits_last, pushed}
use Rattle.star_text.proofs.percent.+push_digits.Goals as goal
use Rattle.star_text.proofs.percent.+push_digits.Goals.{then-number-base-ne0+in_ok-push_digits, else-number-base-ne0}

pub returns : goal.returns
returns n c =
    let a = c.args in
    let quotient = a.number / a.base in
    let before = if quotient == 0 then [] else digits_onto (a.count - 1) a.base a.capitals quotient [] in
    let mid : string_bytes c.if-number-base-ne0.made ≡ string_bytes a.made.now ++ before = elim c.if-number-base-ne0.branch [
      | then-number-base-ne0+in_ok-push_digits w ↦ (let h : false ≡ (quotient == 0) = search (rules, arith, nat_tests) in ap string_bytes w.made-is ∙ w.in_ok-push_digits.ensures ∙ ap (λ b. string_bytes a.made.now ++ (if b then [] else digits_onto (a.count - 1) a.base a.capitals quotient [])) h)
      | else-number-base-ne0 w ↦ (let h : true ≡ (quotient == 0) = search (rules, arith, nat_tests) in ap string_bytes w.made-is ∙ sym (append-nil (string_bytes a.made.now)) ∙ ap (λ b. string_bytes a.made.now ++ (if b then [] else digits_onto (a.count - 1) a.base a.capitals quotient [])) h)
    ] in
    let some : 0 < a.count = search (rules, arith, nat_tests) in
    pushed c.push_glyph.result (string_bytes a.made.now) (string_bytes c.if-number-base-ne0.made) (string_bytes c.push_glyph.new.made) before _ _ mid (digits_last a.count a.base a.capitals a.number some) c.push_glyph.ensures
