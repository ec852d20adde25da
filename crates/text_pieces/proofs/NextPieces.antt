-- One cut, and what is left to be cut.
use Rattle.std.proofs.Common.{◌≡◌, ℕ, zero, suc, ◌+◌, ◌-◌, ◌<◌, ◌≤◌, true, false, ◌==◌, List, [], ◌∷◌, ◌++◌, length, drop, Some, None, MatchOption, reverse, refl, sym, ap, ◌∙◌, arith, Bor}
use Rattle.std.proofs.lemmas.Bool.{eqb-true, false≢true}
use Rattle.std.proofs.lemmas.List.{map-append, reverse-append}
use Rattle.text_spec.specs.Classes.{characters}
use Rattle.text_spec.specs.Cutting.{cut_once, pieces}
use Rattle.text_spec.specs.Places.{first_place}
use Rattle.text_pieces.proofs.FirstCharacter.{joined-characters}
use Rattle.text_spec.specs.Texts.{texts_of}
use Rattle.text_pieces.specs.Texts.{AreNext, Parts, StandAround, pieces_on}

-- ---- the next piece

pub none_left : (x t : List ℕ) → pieces_on x 0 t ≡ t ∷ []
none_left [] t = ap (λ l. l ∷ []) (joined-characters t)
none_left (x ∷ xs) t = refl

pub next_character : (x t : List ℕ) (n : ℕ) (r : Parts) → 0 < n → (length x == 0) ≡ true → MatchOption r (t ≡ []) (λ p. characters t ≡ p.0.now ∷ characters p.1.now) → AreNext x n t r
next_character (x ∷ xs) t n r some none h = absurd (let e : suc (length xs) ≡ 0 = eqb-true _ 0 none in omega arith)
next_character [] t zero r some none h = absurd (omega arith)
next_character [] t (suc n) None some none h = rw h refl
next_character [] t (suc n) (Some p) some none h = let e : suc n - 1 ≡ n = omega arith in (some, rw (h, e) refl)

pub next_piece : (x t : List ℕ) (n : ℕ) (r : Parts) → 0 < n → (length x == 0) ≡ false → StandAround x t (first_place x t) r → AreNext x n t r
next_piece [] t n r some long h = absurd (false≢true (sym long))
next_piece x t zero r some long h = absurd (omega arith)
next_piece (x ∷ xs) t (suc n) None some long h = rw h refl
next_piece (x ∷ xs) t (suc n) (Some p) some long (i, e, front, back) =
    let one : suc n - 1 ≡ n = omega arith in
    (some, rw (e, one, front, back) refl)

-- ---- the pieces that were made from the last on

texts_of-reverse : (ts : List (Bor (List ℕ))) → texts_of (reverse ts) ≡ reverse (texts_of ts)
texts_of-reverse [] = refl
texts_of-reverse (t ∷ ts) =
    ap texts_of (reverse-append (t ∷ []) ts) ∙ map-append (λ (t : Bor (List ℕ)). t.now) (reverse ts) (t ∷ []) ∙ ap (λ l. l ++ t.now ∷ []) (texts_of-reverse ts)
    ∙ sym (reverse-append (t.now ∷ []) (texts_of ts))

pub reversed : (ts : List (Bor (List ℕ))) (t : Bor (List ℕ)) → texts_of (reverse (ts ++ t ∷ [])) ≡ t.now ∷ reverse (texts_of ts)
reversed ts t = ap texts_of (reverse-append ts (t ∷ [])) ∙ ap (λ l. t.now ∷ l) (texts_of-reverse ts)

-- ---- how many there are

pub count_next : (x t u : List ℕ) (k i : ℕ) → Some i ≡ first_place x u → ((n : ℕ) → k + length (pieces x n u) ≡ length (pieces x (k + n) t)) →
    (n : ℕ) → (k + 1) + length (pieces x n (drop (i + length x) u)) ≡ length (pieces x ((k + 1) + n) t)
count_next x t u k i e h n =
    let more : (k + 1) + n ≡ k + suc n = omega arith in
    let one = ap (λ p. length (cut_once x u p (pieces x n))) e in
    rw more (omega (arith, h (suc n), one))

pub count_done : (x t u : List ℕ) (k cuts : ℕ) → None ≡ first_place x u → ((n : ℕ) → k + length (pieces x n u) ≡ length (pieces x (k + n) t)) →
    k ≤ cuts → k ≡ length (pieces x cuts t) - 1
count_done x t u k cuts e h le =
    let all : k + (cuts - k) ≡ cuts = omega arith in
    omega (arith, rw all at (h (cuts - k)), by (cuts - k)) where
      by : (n : ℕ) → length (pieces x n u) ≡ 1
      by zero = refl
      by (suc n) = ap (λ p. length (cut_once x u p (pieces x n))) (sym e)
