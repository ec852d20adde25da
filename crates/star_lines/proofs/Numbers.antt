-- Numbers stand there too.
use Rattle.std.proofs.Common.{◌≡◌, ℕ, suc, ◌+◌, ◌≤◌, List, [], ◌∷◌, ◌++◌, drop, Bool, true, false, ◌==◌, ◌&&◌, ◌||◌, refl, sym, ap, ◌∙◌, subst, length, if◌then◌else◌, arith}
use Rattle.std.proofs.lemmas.Bool.{both_ways}
use Rattle.std.proofs.lemmas.List.{drop-append-le}
use Rattle.std.specs.Prelude.{nat_le, pos, slice_index}
use Rattle.std.specs.Char.{is_ascii_digit, is_ascii_hexdigit}
use Rattle.std.specs.Str.Parse.{digits_value}
use Rattle.ytt_base.specs.declared.fault.FaultKind.{FaultKind}
use Rattle.ytt_base.specs.declared.fault.FaultKind.TheVariants as fault
use Rattle.star_grammar.specs.declared.token.Piece.{Piece}
use Rattle.star_grammar.specs.declared.token.Piece.TheVariants as piece
use Rattle.star_grammar.specs.declared.token.TokenKind.TheVariants as token
use Rattle.star_grammar.specs.Pieces.{first, decimal_piece, greatest_integer, integer_piece, is_decimal, is_exponent, is_octal, is_prefixed, no_code, number_piece, rest_of, run_at}
use Rattle.star_grammar.specs.Tokens.{size_of}
use Rattle.star_lines.proofs.Stays.{IsGood, Stays, stays_if, first_same, two_same, run_same, run_fits}

exponent_same : (t m : List ℕ) → is_exponent (t ++ 10 ∷ m) ≡ is_exponent t
exponent_same [] m = refl
exponent_same (x ∷ xs) m =
    let e : is_ascii_digit (first (xs ++ 10 ∷ m)) ≡ is_ascii_digit (first xs) = first_same is_ascii_digit xs m refl refl in
    let f : ((first (xs ++ 10 ∷ m) == 43 || first (xs ++ 10 ∷ m) == 45) && is_ascii_digit (slice_index (xs ++ 10 ∷ m) 1)) ≡ ((first xs == 43 || first xs == 45) && is_ascii_digit (slice_index xs 1)) =
    two_same (λ b. b == 43 || b == 45) is_ascii_digit xs m refl refl refl refl
    in
    ap (λ z. (x == 101 || x == 69) && (z || ((first (xs ++ 10 ∷ m) == 43 || first (xs ++ 10 ∷ m) == 45) && is_ascii_digit (slice_index (xs ++ 10 ∷ m) 1)))) e
    ∙ ap (λ z. (x == 101 || x == 69) && (is_ascii_digit (first xs) || z)) f

never : (n : ℕ) (p' : Piece) (f : FaultKind) → Stays n (piece.Refused f) p'
never n p' f g = absurd g

integer_fits : (base : ℕ) (ds : List ℕ) (size n : ℕ) → size ≤ n → IsGood (integer_piece base ds size) → size_of (integer_piece base ds size) ≤ n
integer_fits base ds size n low g = by_size (nat_le (digits_value base ds) greatest_integer) g
  where
    by_size : (z : Bool) → IsGood (if z then piece.Whole (token.Int (pos (digits_value base ds))) size 0 else piece.Refused fault.IntWide)
        → size_of (if z then piece.Whole (token.Int (pos (digits_value base ds))) size 0 else piece.Refused fault.IntWide) ≤ n
    by_size true h = low
    by_size false h = absurd h

decimals_stay : (n : ℕ) (ds rest m : List ℕ) → length ds ≤ n → Stays n (decimal_piece ds rest) (decimal_piece ds (rest ++ 10 ∷ m))
decimals_stay n ds rest m low =
    let e : (first (rest ++ 10 ∷ m) == 46 || is_exponent (rest ++ 10 ∷ m)) ≡ (first rest == 46 || is_exponent rest) =
    ap (λ z. z || is_exponent (rest ++ 10 ∷ m)) (first_same (λ b. b == 46) rest m refl refl) ∙ ap (λ z. (first rest == 46) || z) (exponent_same rest m)
    in
    stays_if n (first rest == 46 || is_exponent rest) (first (rest ++ 10 ∷ m) == 46 || is_exponent (rest ++ 10 ∷ m)) (piece.Refused fault.FloatRefused) (piece.Refused fault.FloatRefused)
    (if is_decimal ds then integer_piece 10 ds (length ds) else no_code) (if is_decimal ds then integer_piece 10 ds (length ds) else no_code) e (λ z. never n (piece.Refused fault.FloatRefused) fault.FloatRefused)
    (λ z. stays_if n (is_decimal ds) (is_decimal ds) (integer_piece 10 ds (length ds)) (integer_piece 10 ds (length ds)) no_code no_code refl (λ y g. (refl, integer_fits 10 ds (length ds) n low g)) (λ y. never n no_code fault.CodeForm))

not_both : (x y : Bool) → ((x && false) && y) ≡ false
not_both true y = refl
not_both false y = refl

-- a prefix whose letter is neither at the end nor a line end
module _ (letter base : ℕ) (p : ℕ → Bool) (z : (0 == letter) ≡ false) (l : (10 == letter) ≡ false) (pz : p 0 ≡ false) (pl : p 10 ≡ false) where
  alone_not : (b x : ℕ) (y : Bool) → (x == letter) ≡ false → ((b == 48 && x == letter) && y) ≡ false
  alone_not b x y e = ap (λ v. (b == 48 && v) && y) e ∙ not_both (b == 48) y

  prefixed_same : (b : ℕ) (bs m : List ℕ) → is_prefixed letter p (b ∷ bs ++ 10 ∷ m) ≡ is_prefixed letter p (b ∷ bs)
  prefixed_same b [] m = alone_not b 10 (p (first m)) l ∙ sym (alone_not b 0 (p 0) z)
  prefixed_same b (c ∷ cs) m = ap (λ v. (b == 48 && c == letter) && v) (first_same p cs m pz pl)

  abbrev prefixed : List ℕ → Piece
  prefixed t = integer_piece base (run_at p (drop 2 t)) (2 + length (run_at p (drop 2 t)))

  prefixed_stay : (b : ℕ) (bs m : List ℕ) → is_prefixed letter p (b ∷ bs) ≡ true → Stays (suc (length bs)) (prefixed (b ∷ bs)) (prefixed (b ∷ bs ++ 10 ∷ m))
  prefixed_stay b [] m e = absurd (both_ways (is_prefixed letter p (b ∷ [])) (alone_not b 0 (p 0) z) e)
  prefixed_stay b (c ∷ cs) m e = λ g. (
    ap (λ r. integer_piece base r (2 + length r)) (run_same p cs m pl),
    let f = run_fits p cs in integer_fits base (run_at p cs) (2 + length (run_at p cs)) (suc (suc (length cs))) (omega arith) g,
  )

abbrev decimal : List ℕ → Piece
decimal t = decimal_piece (run_at is_ascii_digit t) (rest_of (run_at is_ascii_digit t) t)

decimal_stays : (t m : List ℕ) → Stays (length t) (decimal t) (decimal (t ++ 10 ∷ m))
decimal_stays t m =
    let ds : List ℕ = run_at is_ascii_digit t in
    let same : decimal (t ++ 10 ∷ m) ≡ decimal_piece ds (drop (length ds) t ++ 10 ∷ m) =
    ap (λ r. decimal_piece r (rest_of r (t ++ 10 ∷ m))) (run_same is_ascii_digit t m refl) ∙ ap (decimal_piece ds) (drop-append-le (length ds) t (10 ∷ m) (run_fits is_ascii_digit t))
    in
    subst (λ p'. Stays (length t) (decimal t) p') (sym same) (decimals_stay (length t) ds (drop (length ds) t) m (run_fits is_ascii_digit t))

pub numbers_stay : (b : ℕ) (bs m : List ℕ) → Stays (suc (length bs)) (number_piece (b ∷ bs)) (number_piece (b ∷ bs ++ 10 ∷ m))
numbers_stay b bs m =
    stays_if (suc (length bs)) (is_prefixed 120 is_ascii_hexdigit (b ∷ bs)) (is_prefixed 120 is_ascii_hexdigit (b ∷ bs ++ 10 ∷ m)) _ _ _ _ (prefixed_same 120 16 is_ascii_hexdigit refl refl refl refl b bs m)
    (prefixed_stay 120 16 is_ascii_hexdigit refl refl refl refl b bs m)
    (λ no. stays_if (suc (length bs)) (is_prefixed 111 is_octal (b ∷ bs)) (is_prefixed 111 is_octal (b ∷ bs ++ 10 ∷ m)) _ _ _ _ (prefixed_same 111 8 is_octal refl refl refl refl b bs m)
    (prefixed_stay 111 8 is_octal refl refl refl refl b bs m) (λ none. decimal_stays (b ∷ bs) m))
