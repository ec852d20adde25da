-- What stands at the front of a line stands there also where another line follows.
use Rattle.std.proofs.Common.{◌≡◌, ℕ, ◌≤◌, ◌+◌, List, [], ◌∷◌, ◌++◌, Bool, true, false, ◌&&◌, refl, sym, ap, ◌∙◌, length, take, if◌then◌else◌, arith, cond}
use Rattle.std.proofs.lemmas.List.Sums.{prefix_len-le-length}
use Rattle.std.proofs.lemmas.List.Folds.{length-prefix_len}
use Rattle.std.specs.Prelude.{slice_index}
use Rattle.std.proofs.Math.Numerals.{one-add}
use Rattle.std.specs.List.{prefix_len}
use Rattle.star_grammar.specs.declared.token.Piece.{Piece}
use Rattle.star_grammar.specs.declared.token.Piece.TheVariants as piece
use Rattle.star_grammar.specs.Pieces.{first, run_at}
use Rattle.star_grammar.specs.Tokens.{size_of}

abbrev pub IsGood : Piece → Type 0
IsGood (piece.Refused f) = ⊥
IsGood p = Unit {0}

-- a piece of a text with so many bytes, and what it becomes where a line follows
abbrev pub Stays : (n : ℕ) → (p p' : Piece) → Type 0
Stays n p p' = IsGood p → (p' ≡ p) × (size_of p ≤ n)

pub stays_if : (n : ℕ) (b b' : Bool) (x x' y y' : Piece) → b' ≡ b → (b ≡ true → Stays n x x') → (b ≡ false → Stays n y y') → Stays n (if b then x else y) (if b' then x' else y')
stays_if n true true x x' y y' e f g = f refl
stays_if n false false x x' y y' e f g = g refl
stays_if n true false x x' y y' e f g = cc
stays_if n false true x x' y y' e f g = cc

-- a test that fails at the end and at a line end
pub first_same : (p : ℕ → Bool) (t m : List ℕ) → p 0 ≡ false → p 10 ≡ false → p (first (t ++ 10 ∷ m)) ≡ p (first t)
first_same p [] m z l = l ∙ sym z
first_same p (b ∷ bs) m z l = refl

and_false : (a b c : Bool) → a ≡ false → (a && b) ≡ (false && c)
and_false false b c e = refl
and_false true b c e = cc

-- two such tests, of bytes that follow one another
pub two_same : (p q : ℕ → Bool) (t m : List ℕ) → p 0 ≡ false → p 10 ≡ false → q 0 ≡ false → q 10 ≡ false → (p (first (t ++ 10 ∷ m)) && q (slice_index (t ++ 10 ∷ m) 1)) ≡ (p (first t) && q (slice_index t 1))
two_same p q [] m a b c d = and_false (p 10) (q (first m)) false b ∙ sym (and_false (p 0) (q 0) false a)
two_same p q (x ∷ xs) m a b c d = ap (λ z. p x && z) (first_same q xs m c d)

run_more : (p : ℕ → Bool) (x : ℕ) (z : Bool) (xs ys : List ℕ) → take (prefix_len p xs) xs ≡ take (prefix_len p ys) ys → take (cond z (1 + prefix_len p xs) 0) (x ∷ xs) ≡ take (cond z (1 + prefix_len p ys) 0) (x ∷ ys)
run_more p x false xs ys e = refl
run_more p x true xs ys e = simp (one-add) (ap (λ l. x ∷ l) e)

-- the longest run at the front
pub run_same : (p : ℕ → Bool) (t m : List ℕ) → p 10 ≡ false → run_at p (t ++ 10 ∷ m) ≡ run_at p t
run_same p [] m l = ap (λ b. take (cond b (1 + prefix_len p m) 0) (10 ∷ m)) l
run_same p (b ∷ bs) m l = run_more p b (p b) (bs ++ 10 ∷ m) bs (run_same p bs m l)

pub run_fits : (p : ℕ → Bool) (t : List ℕ) → length (run_at p t) ≤ length t
run_fits p t = let e = length-prefix_len p t in let f = prefix_len-le-length p t in omega arith
