-- A text in UTF-8 is cut into such where another one occurs.
use Rattle.std.proofs.Common.{◌≡◌, ℕ, zero, suc, ◌+◌, ◌<◌, ◌≤◌, true, false, Bool, if◌then◌else◌, List, [], ◌∷◌, ◌++◌, length, take, drop, Option, Some, None, IsUtf8, refl, sym, ap, subst, arith, ◌∙◌}
use Rattle.std.proofs.lemmas.List.{drop-drop, length-append}
use Rattle.std.proofs.lemmas.Str.{IsCharBoundary-from_take, IsCharBoundary-start, IsUtf8-drop, IsUtf8-take}
use Rattle.std.proofs.Math.Seq.{drop-append_seam, get_or-append_seam, take-append_seam}
use Rattle.std.specs.Str.{IsCharBoundary}
use Rattle.code_spec.specs.Options.{further, or_else}
use Rattle.operator_spec.specs.Operators.{begins_with}
use Rattle.operator_spec.proofs.Fronts.{begins_is}
use Rattle.text_spec.specs.Places.{first_place, last_place}

-- ---- the sides of a text that isn't empty

-- a place at which a text in UTF-8 stands is a bound of a character
bound_before : (a x b : List ℕ) → IsUtf8 x → 0 < length x → IsCharBoundary (a ++ (x ++ b)) (length a)
bound_before a [] b u n = elim n [ ]
bound_before a (c ∷ x) b u n =
    let here = get_or-append_seam a c (x ++ b) 0 in
    (grind (arith, length-append a (c ∷ x ++ b)), λ l h. subst (λ k. 192 ≤ k) (sym here) ((IsCharBoundary-start (c ∷ x) u).1 n (subst (λ k. 128 ≤ k) here h)))

pub behind_utf8 : (x b : List ℕ) → IsUtf8 x → IsUtf8 (x ++ b) → IsUtf8 b
behind_utf8 x b u w =
    subst IsUtf8 (drop-append_seam x b)
    (IsUtf8-drop (x ++ b) (length x) w (IsCharBoundary-from_take (x ++ b) (length x) w (grind (arith, length-append x b)) (subst IsUtf8 (sym (take-append_seam x b)) u)))

pub sides_utf8 : (a x b : List ℕ) → IsUtf8 x → 0 < length x → IsUtf8 (a ++ (x ++ b)) → IsUtf8 a × IsUtf8 b
sides_utf8 a x b u n w =
    let at = bound_before a x b u n in (
      subst IsUtf8 (take-append_seam a (x ++ b)) (IsUtf8-take (a ++ (x ++ b)) (length a) w at),
      behind_utf8 x b u (subst IsUtf8 (drop-append_seam a (x ++ b)) (IsUtf8-drop (a ++ (x ++ b)) (length a) w at)),
    )

-- ---- the first place, and the last

first_at : (x : List ℕ) (b : ℕ) (t : List ℕ) (i : ℕ) (o : Option ℕ) → (o ≡ first_place x t) → ((j : ℕ) → first_place x t ≡ Some j → t ≡ take j t ++ (x ++ drop (length x) (drop j t))) → (h : Bool) → begins_with x (b ∷ t) ≡ h → (if h then Some 0 else further o) ≡ Some i →
    b ∷ t ≡ take i (b ∷ t) ++ (x ++ drop (length x) (drop i (b ∷ t)))
first_at x b t zero o e more true h is = begins_is x (b ∷ t) h
first_at x b t (suc i) o e more true h is = cc
first_at x b t i None e more false h is = cc
first_at x b t zero (Some j) e more false h is = cc
first_at x b t (suc i) (Some j) e more false h is =
    let same : j ≡ i = cc in
    λ k. b ∷ more i (sym e ∙ ap Some same) k

pub first_is : (x t : List ℕ) (i : ℕ) → first_place x t ≡ Some i → t ≡ take i t ++ (x ++ drop (length x) (drop i t))
first_is x [] i e = cc
first_is x (b ∷ t) i e = first_at x b t i (first_place x t) refl (first_is x t) (begins_with x (b ∷ t)) refl e

last_at : (x : List ℕ) (b : ℕ) (t : List ℕ) (i : ℕ) (o : Option ℕ) → (o ≡ last_place x t) → ((j : ℕ) → last_place x t ≡ Some j → t ≡ take j t ++ (x ++ drop (length x) (drop j t))) → (h : Bool) → begins_with x (b ∷ t) ≡ h → or_else (further o) (if h then Some 0 else None) ≡ Some i →
    b ∷ t ≡ take i (b ∷ t) ++ (x ++ drop (length x) (drop i (b ∷ t)))
last_at x b t zero None e more true h is = begins_is x (b ∷ t) h
last_at x b t (suc i) None e more true h is = cc
last_at x b t i None e more false h is = cc
last_at x b t zero (Some j) e more h l is = cc
last_at x b t (suc i) (Some j) e more h l is =
    let same : j ≡ i = cc in
    λ k. b ∷ more i (sym e ∙ ap Some same) k

pub last_is : (x t : List ℕ) (i : ℕ) → last_place x t ≡ Some i → t ≡ take i t ++ (x ++ drop (length x) (drop i t))
last_is x [] i e = cc
last_is x (b ∷ t) i e = last_at x b t i (last_place x t) refl (last_is x t) (begins_with x (b ∷ t)) refl e

-- both sides of a place are in UTF-8
pub around_utf8 : (x t : List ℕ) (i : ℕ) → IsUtf8 x → 0 < length x → IsUtf8 t → t ≡ take i t ++ (x ++ drop (length x) (drop i t)) → IsUtf8 (take i t) × IsUtf8 (drop (i + length x) t)
around_utf8 x t i u n w e =
    let both = sides_utf8 (take i t) x (drop (length x) (drop i t)) u n (subst IsUtf8 e w) in
    (both.0, subst IsUtf8 (drop-drop (length x) i t) both.1)
