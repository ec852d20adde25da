use Rattle.std.proofs.Common.{◌≡◌, ◌++◌, [], ap, append-nil, int_lt, nat_abs, pos, string_bytes, subst, sym, true, false, ◌∙◌}
use Rattle.std.proofs.lemmas.Int.{to_z-of_z}
use Rattle.std.specs.Fmt.{digits_onto}
use Rattle.std.specs.Int.{w128}
use Rattle.star_text.proofs.Conversions.{pushed, sign_above, sign_below, sign_of, signed_digits}
use Rattle.star_text.proofs.percent.push_in_base.Goals as goal
use Rattle.star_text.proofs.percent.push_in_base.Goals.{then-number-lt0+in_ok-append, else-number-lt0}

pub returns : goal.returns
returns c =
    let a = c.args in
    let back = to_z-of_z w128 a.number c.ranges.number in
    let size : c.unsigned_abs.result ≡ nat_abs a.number = c.unsigned_abs.ensures.value ∙ ap nat_abs back in
    let mid : string_bytes c.if-number-lt0.made ≡ string_bytes a.made.now ++ sign_of a.number = elim c.if-number-lt0.branch [
      | then-number-lt0+in_ok-append w ↦ ap string_bytes w.made-is ∙ w.in_ok-append.ensures ∙ ap (λ x. string_bytes a.made.now ++ x) (sym (sign_below a.number (subst (λ z. int_lt z (pos 0) ≡ true) back w.if-number-lt0.true)))
      | else-number-lt0 w ↦ ap string_bytes w.made-is ∙ sym (append-nil (string_bytes a.made.now)) ∙ ap (λ x. string_bytes a.made.now ++ x) (sym (sign_above a.number (subst (λ z. int_lt z (pos 0) ≡ false) back w.if-number-lt0.false)))
    ] in
    pushed c.push_digits.result (string_bytes a.made.now) (string_bytes c.if-number-lt0.made) (string_bytes c.push_digits.new.made) (sign_of a.number) _ _ mid
    (signed_digits a.base a.capitals a.number ∙ ap (λ n. sign_of a.number ++ digits_onto 64 a.base a.capitals n []) (sym size)) c.push_digits.ensures
