-- What a text ends with.
use Rattle.std.proofs.Common.{◌≡◌, ℕ, ◌-◌, true, List, ◌++◌, length, take, drop, reverse, sym, ap, ◌∙◌, arith}
use Rattle.std.proofs.lemmas.List.{length-append, reverse-append, reverse-reverse}
use Rattle.std.proofs.Math.Seq.{take-append_seam}
use Rattle.operator_spec.specs.Operators.{begins_with}
use Rattle.operator_spec.proofs.Fronts.{begins, begins_is}
use Rattle.text_spec.specs.Places.{ends_with}

-- what stands before an end
front_of : (a c t : List ℕ) → t ≡ a ++ c → take (length t - length c) t ≡ a
front_of a c t e =
    ap (λ s. take (length s - length c) s) e
    ∙ ap (λ n. take n (a ++ c)) (grind (arith, length-append a c))
    ∙ take-append_seam a c

-- what ends with a text is a front and that text
pub ends_is : (c t : List ℕ) → ends_with c t ≡ true → t ≡ take (length t - length c) t ++ c
ends_is c t h =
    let back = drop (length (reverse c)) (reverse t) in
    let parts : t ≡ reverse back ++ c = sym (reverse-reverse t) ∙ ap reverse (begins_is (reverse c) (reverse t) h) ∙ reverse-append (reverse c) back ∙ ap (λ x. reverse back ++ x) (reverse-reverse c) in
    parts ∙ ap (λ x. x ++ c) (sym (front_of (reverse back) c t parts))

pub ends : (x a : List ℕ) → ends_with x (a ++ x) ≡ true
ends x a = ap (begins_with (reverse x)) (reverse-append a x) ∙ begins (reverse x) (reverse a)
