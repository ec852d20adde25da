-- Operators, punctuation and words stand there too.
use Rattle.std.proofs.Common.{◌≡◌, ℕ, suc, ◌≤◌, List, [], ◌∷◌, ◌++◌, Bool, true, false, ◌==◌, ◌&&◌, Option, Some, None, refl, sym, ap, ◌∙◌, subst, length, if◌then◌else◌, arith}
use Rattle.std.proofs.lemmas.Bool.{eqb-true}
use Rattle.star_grammar.specs.declared.token.Mark.{Mark}
use Rattle.star_grammar.specs.declared.token.Piece.{Piece}
use Rattle.star_grammar.specs.declared.token.Piece.TheVariants as piece
use Rattle.star_grammar.specs.declared.token.TokenKind.TheVariants as token
use Rattle.star_grammar.specs.Pieces.{first, only_if, doubled_assigning, doubled, assigning, single, short_piece, middle_piece, double_piece, operator_piece, mark_piece, word_at, word_piece, word_token, in_word, keyword, is_among, refused_words, no_code}
use Rattle.ytt_base.specs.declared.fault.FaultKind.TheVariants as fault
use Rattle.star_grammar.specs.Tokens.{size_of}
use Rattle.star_lines.proofs.Stays.{IsGood, Stays, run_same, run_fits}

none_if : (z : Bool) → only_if z None ≡ None
none_if true = refl
none_if false = refl

by_test : (f : ℕ → Option Mark) (x b : ℕ) (z t : Bool) → (x == b) ≡ t → f x ≡ None → only_if (t && z) (f b) ≡ None
by_test f x b z false h e = refl
by_test f x b z true h e = let same : x ≡ b = eqb-true x b h in subst (λ y. only_if z (f y) ≡ None) same (ap (only_if z) e ∙ none_if z)

-- a byte that isn't there is none of these
guarded : (f : ℕ → Option Mark) (x b : ℕ) (z : Bool) → f x ≡ None → only_if ((x == b) && z) (f b) ≡ None
guarded f x b z e = by_test f x b z (x == b) refl e

unguarded : (f : ℕ → Option Mark) (x b : ℕ) → f x ≡ None → only_if (x == b) (f b) ≡ None
unguarded f x b e = by_alone (x == b) refl
  where
    by_alone : (t : Bool) → (x == b) ≡ t → only_if t (f b) ≡ None
    by_alone false h = refl
    by_alone true h = subst (λ y. f y ≡ None) (eqb-true x b h) e

abbrev or_mark : Option Mark → ℕ → Piece → Piece
or_mark o size p = elim o [ None ↦ p | Some m ↦ mark_piece m size ]

-- an operator of one byte, where nothing follows it on its line
alone : (b x : ℕ) (z : Bool) → doubled_assigning x ≡ None → doubled x ≡ None → or_mark (only_if ((x == b) && z) (doubled_assigning b)) 3 (or_mark (only_if (x == b) (doubled b)) 2 (short_piece b)) ≡ short_piece b
alone b x z e f = ap (λ o. or_mark o 3 (or_mark (only_if (x == b) (doubled b)) 2 (short_piece b))) (guarded doubled_assigning x b z e) ∙ ap (λ o. or_mark o 2 (short_piece b)) (unguarded doubled x b f)

operator_alone : (b : ℕ) → operator_piece (b ∷ []) ≡ short_piece b
operator_alone b = alone b 0 false refl refl

operator_before : (b : ℕ) (m : List ℕ) → operator_piece (b ∷ 10 ∷ m) ≡ short_piece b
operator_before b m = alone b 10 (first m == 61) refl refl

short_fits : (b : ℕ) → size_of (short_piece b) ≤ 1
short_fits b = of_mark (single b) (b == 47)
  where
    of_mark : (o : Option Mark) (z : Bool) → size_of (elim o [ None ↦ (if z then piece.Refused fault.FloatRefused else no_code) | Some m ↦ mark_piece m 1 ]) ≤ 1
    of_mark None true = omega arith
    of_mark None false = omega arith
    of_mark (Some m) z = omega arith

or_fits : (o : Option Mark) (n k : ℕ) (p : Piece) → (size_of p ≤ n) → k ≤ n → size_of (or_mark o k p) ≤ n
or_fits None n k p low l = low
or_fits (Some m) n k p low l = l

none_fits : (t : Bool) (o : Option Mark) (n k : ℕ) (p : Piece) → size_of p ≤ n → size_of (or_mark (only_if (t && false) o) k p) ≤ n
none_fits true o n k p low = low
none_fits false o n k p low = low

two_fit : (b c : ℕ) → size_of (operator_piece (b ∷ c ∷ [])) ≤ 2
two_fit b c =
    let s : size_of (short_piece b) ≤ 2 = (let e = short_fits b in omega arith) in
    none_fits (c == b) (doubled_assigning b) 2 3 (double_piece (b ∷ c ∷ []))
    (or_fits (only_if (c == b) (doubled b)) 2 2 (middle_piece (b ∷ c ∷ [])) (or_fits (only_if (c == 61) (assigning b)) 2 2 (short_piece b) s (omega arith)) (omega arith))

three_fit : (b c d : ℕ) (ds : List ℕ) → size_of (operator_piece (b ∷ c ∷ d ∷ ds)) ≤ 3
three_fit b c d ds =
    let s : size_of (short_piece b) ≤ 3 = (let e = short_fits b in omega arith) in
    or_fits (only_if ((c == b) && (d == 61)) (doubled_assigning b)) 3 3 (double_piece (b ∷ c ∷ d ∷ ds))
    (or_fits (only_if (c == b) (doubled b)) 3 2 (middle_piece (b ∷ c ∷ d ∷ ds)) (or_fits (only_if (c == 61) (assigning b)) 3 2 (short_piece b) s (omega arith)) (omega arith)) (omega arith)

pub operators_stay : (b : ℕ) (bs m : List ℕ) → Stays (suc (length bs)) (operator_piece (b ∷ bs)) (operator_piece (b ∷ bs ++ 10 ∷ m))
operators_stay b [] m g = (operator_before b m ∙ sym (operator_alone b), subst (λ p. size_of p ≤ 1) (sym (operator_alone b)) (short_fits b))
operators_stay b (c ∷ []) m g = (refl, two_fit b c)
operators_stay b (c ∷ d ∷ ds) m g = (refl, let e = three_fit b c d ds in omega arith)

-- ---- words

word_fits : (w : List ℕ) → IsGood (word_token w) → size_of (word_token w) ≤ length w
word_fits w g = of_word (keyword w) (is_among refused_words w) g
  where
    of_word : (o : Option Mark) (z : Bool) → IsGood (elim o [ None ↦ (if z then no_code else piece.Whole (token.Name w) (length w) 0) | Some m ↦ mark_piece m (length w) ])
        → size_of (elim o [ None ↦ (if z then no_code else piece.Whole (token.Name w) (length w) 0) | Some m ↦ mark_piece m (length w) ]) ≤ length w
    of_word None true h = absurd h
    of_word None false h = omega arith
    of_word (Some m) z h = omega arith

pub words_stay : (t m : List ℕ) → Stays (length t) (word_piece t) (word_piece (t ++ 10 ∷ m))
words_stay t m g =
    (ap word_token (run_same in_word t m refl), let e = word_fits (word_at t) g in let f = run_fits in_word t in omega arith)
