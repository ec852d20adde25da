-- A text's tokens, a piece at a time.
use Rattle.std.proofs.Common.{◌≡◌, ℕ, zero, suc, ◌-◌, true, List, [], ◌∷◌, ◌++◌, drop, Ok, Err, refl, sym, ap, ◌∙◌, append_assoc, arith}
use Rattle.ytt_base.specs.declared.fault.FaultKind.{FaultKind}
use Rattle.star_grammar.specs.declared.token.Cursor.{Cursor}
use Rattle.star_grammar.specs.declared.token.Origin.{Origin}
use Rattle.star_grammar.specs.declared.token.Piece.{Piece}
use Rattle.star_grammar.specs.declared.token.Piece.TheVariants as piece
use Rattle.star_grammar.specs.declared.token.Token.{Token}
use Rattle.star_grammar.specs.Pieces.{front}
use Rattle.star_grammar.specs.Tokens.{Tokens, Refused, behind, tokens_from, tokens_in, moved, size_of, went, end_at, ends}

-- the tokens of a rest of a text, from this place on
abbrev pub rest_of : Origin → Cursor → List ℕ → Tokens
rest_of o c t = tokens_from 0 o c t

skip : (n : ℕ) (o : Origin) (c : Cursor) (t : List ℕ) → tokens_from n o c t ≡ rest_of o c (drop n t)
skip zero o c [] = refl
skip (suc n) o c [] = refl
skip zero o c (b ∷ bs) = refl
skip (suc n) o c (b ∷ bs) = skip n o c bs

pub behind-nothing : (ts : Tokens) → behind [] ts ≡ ts
behind-nothing (Ok ts) = refl
behind-nothing (Err r) = refl

behind-more : (xs ys : List Token) (ts : Tokens) → behind (xs ++ ys) ts ≡ behind xs (behind ys ts)
behind-more xs ys (Ok ts) = ap Ok (append_assoc xs ys ts)
behind-more xs ys (Err r) = refl

-- it is a piece that isn't refused
abbrev pub IsGood : Piece → Type 0
IsGood (piece.Refused f) = ⊥
IsGood p = Unit {0}

pub good_of : (p : Piece) → ((f : FaultKind) → p ≡ piece.Refused f → ⊥) → IsGood p
good_of (piece.Refused f) none = none f refl
good_of (piece.Blank n) none = tt
good_of piece.LineEnd none = tt
good_of (piece.Whole k n ends) none = tt

goes : (o : Origin) (c : Cursor) (p : Piece) (bs : List ℕ) → IsGood p → went c p (λ n d. tokens_from n o d bs) ≡ behind (tokens_in c p) (rest_of o (moved c p) (drop (size_of p - 1) bs))
goes o c (piece.Refused f) bs good = absurd good
goes o c (piece.Blank n) bs good = ap (behind []) (skip (n - 1) o (moved c (piece.Blank n)) bs)
goes o c piece.LineEnd bs good = ap (behind (tokens_in c piece.LineEnd)) (skip 0 o (moved c piece.LineEnd) bs)
goes o c (piece.Whole k n ends) bs good = ap (behind (tokens_in c (piece.Whole k n ends))) (skip (n - 1) o (moved c (piece.Whole k n ends)) bs)

-- one piece, and then the tokens behind it
pub more : (o : Origin) (c : Cursor) (t rest : List ℕ) (b : ℕ) (found : List Token) (p : Piece) (all : Tokens) → t ≡ b ∷ rest → p ≡ front o t → IsGood p
    → behind found (rest_of o c t) ≡ all → behind (found ++ tokens_in c p) (rest_of o (moved c p) (drop (size_of p - 1) rest)) ≡ all
more o c t rest b found p all e f good i =
    behind-more found (tokens_in c p) (rest_of o (moved c p) (drop (size_of p - 1) rest))
    ∙ ap (behind found) (sym (goes o c p rest good) ∙ ap (λ q. went c q (λ n d. tokens_from n o d rest)) (f ∙ ap (front o) e) ∙ ap (rest_of o c) (sym e)) ∙ i

-- a piece that is refused
pub refused : (o : Origin) (c : Cursor) (t rest : List ℕ) (b : ℕ) (found : List Token) (p : Piece) (r : Refused) (all : Tokens) → t ≡ b ∷ rest → p ≡ front o t → p ≡ piece.Refused r.fault → r.line ≡ c.line
    → behind found (rest_of o c t) ≡ all → all ≡ Err r
refused o c t rest b found p r all e f is line i =
    sym i ∙ ap (λ x. behind found (rest_of o c x)) e ∙ ap (λ q. behind found (went c q (λ n d. tokens_from n o d rest))) (sym (f ∙ ap (front o) e) ∙ is)
    ∙ ap (λ l. Err (record { fault = r.fault; line = l })) (sym line)

-- the text's end
pub at_end : (o : Origin) (c : Cursor) (t : List ℕ) (found : List Token) (all : Tokens) → t ≡ [] → behind found (rest_of o c t) ≡ all → all ≡ Ok (found ++ end_at c ∷ [])
at_end o c t found all e i = sym i ∙ ap (λ x. behind found (rest_of o c x)) e

-- ---- the last token

ends_append : (ks ts : List Token) → ends ts ≡ true → ends (ks ++ ts) ≡ true
ends_append [] ts e = e
ends_append (k ∷ []) [] e = absurd (grind arith)
ends_append (k ∷ []) (t ∷ ts) e = e
ends_append (k ∷ j ∷ ks) ts e = ends_append (j ∷ ks) ts e

behind_ended : (ks ts : List Token) (rest : Tokens) → ((us : List Token) → rest ≡ Ok us → ends us ≡ true) → behind ks rest ≡ Ok ts → ends ts ≡ true
behind_ended ks ts (Ok us) ih e = let same : ks ++ us ≡ ts = cc in rw (← same) (ends_append ks us (ih us refl))
behind_ended ks ts (Err r) ih e = absurd (let h : ◌≡◌ {A = Tokens} (Err r) (Ok ts) = e in cc)

went_ended : (c : Cursor) (p : Piece) (go : ℕ → Cursor → Tokens) (ts : List Token) → ((n : ℕ) (d : Cursor) (us : List Token) → go n d ≡ Ok us → ends us ≡ true) → went c p go ≡ Ok ts → ends ts ≡ true
went_ended c (piece.Refused f) go ts ih e = absurd (let h : ◌≡◌ {A = Tokens} (Err (record { fault = f; line = c.line })) (Ok ts) = e in cc)
went_ended c (piece.Blank n) go ts ih e = behind_ended [] ts (go (n - 1) (moved c (piece.Blank n))) (ih (n - 1) (moved c (piece.Blank n))) e
went_ended c piece.LineEnd go ts ih e = behind_ended (tokens_in c piece.LineEnd) ts (go 0 (moved c piece.LineEnd)) (ih 0 (moved c piece.LineEnd)) e
went_ended c (piece.Whole k n l) go ts ih e = behind_ended (tokens_in c (piece.Whole k n l)) ts (go (n - 1) (moved c (piece.Whole k n l))) (ih (n - 1) (moved c (piece.Whole k n l))) e

-- it is the text's end
pub ended : (t : List ℕ) (n : ℕ) (o : Origin) (c : Cursor) (ts : List Token) → tokens_from n o c t ≡ Ok ts → ends ts ≡ true
ended [] n o c ts e = let same : end_at c ∷ [] ≡ ts = cc in rw (← same) refl
ended (b ∷ bs) (suc n) o c ts e = ended bs n o c ts e
ended (b ∷ bs) zero o c ts e = went_ended c (front o (b ∷ bs)) (λ n d. tokens_from n o d bs) ts (λ n d us. ended bs n o d us) e
