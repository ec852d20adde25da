-- The brackets behind a text are those before the text below.
use Rattle.std.proofs.Common.{◌≡◌, ℕ, zero, suc, ◌-◌, ◌≤◌, List, [], ◌∷◌, ◌++◌, Bool, true, false, ◌==◌, ◌&&◌, ◌||◌, Option, Some, refl, ap, ◌∙◌, length, arith}
use Rattle.std.proofs.lemmas.Bool.{and_parts}
use Rattle.std.specs.Char.{is_ascii_digit}
use Rattle.star_grammar.specs.declared.token.Origin.TheVariants as origin
use Rattle.star_grammar.specs.declared.token.Piece.{Piece}
use Rattle.star_grammar.specs.declared.token.Piece.TheVariants as piece
use Rattle.star_grammar.specs.Pieces.{begins_number, begins_word, front, is_blank, is_quote, is_raw, other_piece, text_piece}
use Rattle.star_grammar.specs.Tokens.{depth_after}
use Rattle.star_lines.specs.Depths.{depth_from, depth_over}
use Rattle.star_lines.proofs.Marks.{operators_stay, words_stay}
use Rattle.star_lines.proofs.Numbers.{numbers_stay}
use Rattle.star_lines.proofs.Stays.{Stays, first_same, stays_if}
use Rattle.star_lines.proofs.Texts.{texts_stay}

others_stay : (b : ℕ) (bs m : List ℕ) → Stays (suc (length bs)) (other_piece (b ∷ bs)) (other_piece (b ∷ bs ++ 10 ∷ m))
others_stay b bs m =
    stays_if (suc (length bs)) (begins_word b) (begins_word b) _ _ _ _ refl (λ z. words_stay (b ∷ bs) m)
    (λ z. stays_if (suc (length bs)) (begins_number (b ∷ bs)) (begins_number (b ∷ bs ++ 10 ∷ m)) _ _ _ _ (ap (λ y. is_ascii_digit b || ((b == 46) && y)) (first_same is_ascii_digit bs m refl refl)) (λ y. numbers_stay b bs m)
    (λ y. operators_stay b bs m))

raw_stays : (b : ℕ) (bs m : List ℕ) → is_raw (b ∷ bs) ≡ true → Stays (suc (length bs)) (text_piece origin.Comment true 1 bs) (text_piece origin.Comment true 1 (bs ++ 10 ∷ m))
raw_stays b [] m e = absurd (not_raw (b == 114) e)
  where
    not_raw : (z : Bool) → (z && false) ≡ true → ⊥
    not_raw true h = cc
    not_raw false h = cc
raw_stays b (q ∷ qs) m e = texts_stay true 1 (suc (suc (length qs))) q qs m (and_parts (b == 114) (is_quote q) e).1 (omega arith)

front_stays : (b : ℕ) (bs m : List ℕ) → Stays (suc (length bs)) (front origin.Comment (b ∷ bs)) (front origin.Comment (b ∷ bs ++ 10 ∷ m))
front_stays b bs m =
    let n : ℕ = suc (length bs) in
    stays_if n (is_blank b) (is_blank b) _ _ _ _ refl (λ z g. (refl, omega arith))
    (λ z. stays_if n (b == 10) (b == 10) _ _ _ _ refl (λ y g. (refl, omega arith))
    (λ y. stays_if n (b == 35) (b == 35) _ _ _ _ refl (λ x g. absurd g)
    (λ x. stays_if n (is_quote b) (is_quote b) _ _ _ _ refl (λ q. texts_stay false 0 n b bs m q (omega arith))
    (λ q. stays_if n (is_raw (b ∷ bs)) (is_raw (b ∷ bs ++ 10 ∷ m)) _ _ _ _ (ap (λ w. (b == 114) && w) (first_same is_quote bs m refl refl)) (raw_stays b bs m) (λ r. others_stay b bs m)))))

some_same : (d e : ℕ) → ◌≡◌ {A = Option ℕ} (Some d) (Some e) → d ≡ e
some_same d e h = cc

over : (d e k : ℕ) (p p' : Piece) (there there' : ℕ → ℕ → Option ℕ) (end : Option ℕ) → Stays (suc k) p p' → ((n d : ℕ) → n ≤ k → there n d ≡ Some e → there' n d ≡ end)
    → depth_over d p there ≡ Some e → depth_over d p' there' ≡ end
over d e k (piece.Refused f) p' there there' end s h g = cc
over d e k (piece.Blank n) p' there there' end s h g =
    ap (λ q. depth_over d q there') (s tt).0 ∙ h (n - 1) d (let low : n ≤ suc k = (s tt).1 in omega arith) g
over d e k piece.LineEnd p' there there' end s h g = ap (λ q. depth_over d q there') (s tt).0 ∙ h 0 d (omega arith) g
over d e k (piece.Whole t n ends) p' there there' end s h g =
    ap (λ q. depth_over d q there') (s tt).0 ∙ h (n - 1) (depth_after d (piece.Whole t n ends)) (let low : n ≤ suc k = (s tt).1 in omega arith) g

pub goes_on : (n d e : ℕ) (t m : List ℕ) → n ≤ length t → depth_from n d t ≡ Some e → depth_from n d (t ++ 10 ∷ m) ≡ depth_from 0 e m
goes_on zero d e [] m low h = ap (λ k. depth_from 0 k m) (some_same d e h)
goes_on (suc n) d e [] m low h = absurd (omega arith)
goes_on (suc n) d e (b ∷ bs) m low h = goes_on n d e bs m (omega arith) h
goes_on zero d e (b ∷ bs) m low h =
    over d e (length bs) (front origin.Comment (b ∷ bs)) (front origin.Comment (b ∷ bs ++ 10 ∷ m)) (λ n k. depth_from n k bs) (λ n k. depth_from n k (bs ++ 10 ∷ m)) (depth_from 0 e m) (front_stays b bs m)
    (λ n k l g. goes_on n k e bs m l g) h
