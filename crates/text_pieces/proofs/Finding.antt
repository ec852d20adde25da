-- Where a text occurs: what a search gives is the first place, or the last.
use Rattle.std.proofs.Common.{◌≡◌, ℕ, zero, suc, ◌<◌, true, List, [], ◌∷◌, ◌++◌, length, take, drop, Option, Some, None, MatchOption, refl, sym, ap, ◌∙◌, arith}
use Rattle.std.proofs.lemmas.List.{length-append, length-drop}
use Rattle.std.proofs.Math.Seq.{take-append_seam}
use Rattle.std.specs.Str.Pattern.{FindsText, LacksTextAt, RFindsText, SplitsAroundMatch}
use Rattle.memchr.specs.Find.{FindsLastNeedle, FindsNeedle, OccursAt}
use Rattle.memchr.proofs.lemmas.MatchLemmas.{OccursAt-from_part, OccursAt-split}
use Rattle.operator_spec.specs.Operators.{begins_with}
use Rattle.operator_spec.proofs.Fronts.{begins}
use Rattle.text_spec.specs.Places.{first_place, last_place}
use Rattle.text_pieces.proofs.Fronts.{lacks}
use Rattle.text_pieces.specs.Texts.{Parts, StandAround}

-- ---- over plain lists

stands : (x t b : List ℕ) (i : ℕ) → drop i t ≡ x ++ b → begins_with x (drop i t) ≡ true
stands x t b i e = ap (begins_with x) e ∙ begins x b

first_none : (x t : List ℕ) → ((j : ℕ) → j < length t → LacksTextAt x t j) → first_place x t ≡ None
first_none x [] h = refl
first_none x (c ∷ t) h = rw (lacks x (c ∷ t) 0 (h 0 (omega arith)), first_none x t (λ j l. h (suc j) (omega arith))) refl

first_at : (x t b : List ℕ) (i : ℕ) → i < length t → drop i t ≡ x ++ b → ((j : ℕ) → j < i → LacksTextAt x t j) → first_place x t ≡ Some i
first_at x [] b i l e h = absurd (omega arith)
first_at x (c ∷ t) b zero l e h = rw (stands x (c ∷ t) b 0 e) refl
first_at x (c ∷ t) b (suc i) l e h = rw (lacks x (c ∷ t) 0 (h 0 (omega arith)), first_at x t b i (omega arith) e (λ j m. h (suc j) (omega arith))) refl

last_none : (x t : List ℕ) → ((j : ℕ) → j < length t → LacksTextAt x t j) → last_place x t ≡ None
last_none x [] h = refl
last_none x (c ∷ t) h = rw (lacks x (c ∷ t) 0 (h 0 (omega arith)), last_none x t (λ j l. h (suc j) (omega arith))) refl

last_at : (x t b : List ℕ) (i : ℕ) → i < length t → drop i t ≡ x ++ b → ((j : ℕ) → i < j → j < length t → LacksTextAt x t j) → last_place x t ≡ Some i
last_at x [] b i l e h = absurd (omega arith)
last_at x (c ∷ t) b zero l e h = rw (stands x (c ∷ t) b 0 e, last_none x t (λ j m. h (suc j) (omega arith) (omega arith))) refl
last_at x (c ∷ t) b (suc i) l e h = rw (last_at x t b i (omega arith) e (λ j m k. h (suc j) (omega arith) (omega arith))) refl

-- ---- what std's searches of a text give

pub cut_first : (x t : List ℕ) (r : Parts) → 0 < length x → MatchOption r (FindsText x t None) (λ p. SplitsAroundMatch (FindsText x) t p.0.now p.1.now) → StandAround x t (first_place x t) r
cut_first x t None some h = first_none x t (λ j l. h j (omega arith))
cut_first x t (Some p) some (i, j, f, front, back, le, n, m) =
    (i, first_at x t (drop j t) i (omega (arith, f.1.ends)) f.1.split f.0, front, back ∙ ap (λ n. drop n t) f.1.ends)

pub cut_last : (x t : List ℕ) (r : Parts) → 0 < length x → MatchOption r (RFindsText x t None) (λ p. SplitsAroundMatch (RFindsText x) t p.0.now p.1.now) → StandAround x t (last_place x t) r
cut_last x t None some h = last_none x t (λ j l. h j (omega arith))
cut_last x t (Some p) some (i, j, f, front, back, le, n, m) =
    (i, last_at x t (drop j t) i (omega (arith, f.1.ends)) f.1.split (λ k a b. f.0 k a (omega arith)), front, back ∙ ap (λ n. drop n t) f.1.ends)

-- ---- what the searches of bytes give

no_needle : (x t : List ℕ) (i : ℕ) → 0 < length x → (OccursAt t x i → ⊥) → LacksTextAt x t i
no_needle x t i some h b e =
    let n = length-append x b in
    let m = length-drop i t in
    let k = ap length e in
    h (OccursAt-from_part t x i (omega arith) (ap (take (length x)) e ∙ take-append_seam x b))

pub needle_first : (x t : List ℕ) (r : Option ℕ) → 0 < length x → FindsNeedle t x 0 r → r ≡ first_place x t
needle_first x t None some h = sym (first_none x t (λ j l. no_needle x t j some (h j (omega arith) (omega arith))))
needle_first x t (Some i) some h =
    sym (first_at x t _ i (omega (arith, h.1.fits)) (OccursAt-split t x i h.1) (λ j l. no_needle x t j some (h.0.before j (omega arith) l)))

pub needle_last : (x t : List ℕ) (r : Option ℕ) → 0 < length x → FindsLastNeedle t x r → r ≡ last_place x t
needle_last x t None some h = sym (last_none x t (λ j l. no_needle x t j some (h j (omega arith) (omega arith))))
needle_last x t (Some i) some h =
    sym (last_at x t _ i (omega (arith, h.1.fits)) (OccursAt-split t x i h.1) (λ j l m. no_needle x t j some (h.0.after j (omega arith) (omega arith))))
