-- The tokens of a text of code are what the program holds: integers of 128 bits, and names and texts in UTF-8.
use Rattle.std.proofs.Common.{◌≡◌, ℕ, zero, suc, pos, ◌+◌, ◌<◌, ◌||◌, ◌==◌, nat_le, Bool, true, false, cond, if◌then◌else◌, List, [], ◌∷◌, ◌++◌, length, take, drop, Option, Some, None, Ok, Err, FitsSigned, refl, arith}
use Rattle.std.specs.Prelude.{slice_index}
use Rattle.std.specs.Int.{w128}
use Rattle.std.specs.List.{prefix_len}
use Rattle.std.specs.Result.{IfOk}
use Rattle.std.specs.Str.{is_utf8, IsAscii, IsUtf8}
use Rattle.std.specs.Str.Parse.{digits_value}
use Rattle.std.specs.Char.{is_ascii_digit, is_ascii_hexdigit}
use Rattle.std.proofs.lemmas.Bool.Decides.{nat_tests}
use Rattle.std.proofs.lemmas.Str.{IsUtf8-from_ascii, IsUtf8-from_is_utf8}
use Rattle.std.proofs.lemmas.Str.Ascii.{IsAscii-nil, IsAscii-cons}
use Rattle.ytt_base.specs.declared.fault.FaultKind.TheVariants as fault
use Rattle.star_grammar.specs.declared.token.Cursor.{Cursor}
use Rattle.star_grammar.specs.declared.token.Mark.{Mark}
use Rattle.star_grammar.specs.declared.token.Origin.{Origin}
use Rattle.star_grammar.specs.declared.token.Origin.TheVariants as origin
use Rattle.star_grammar.specs.declared.token.Piece.{Piece}
use Rattle.star_grammar.specs.declared.token.Piece.TheVariants as piece
use Rattle.star_grammar.specs.declared.token.Token.{Token}
use Rattle.star_grammar.specs.declared.token.TokenKind.{TokenKind}
use Rattle.star_grammar.specs.declared.token.TokenKind.TheVariants as token
use Rattle.star_grammar.specs.Pieces.{Span, begins_number, begins_word, comment_piece, decimal_piece, double_piece, doubled, doubled_assigning, assigning, first, form, front, greatest_integer, holds_lines, in_word, integer_piece, is_among, is_blank, is_decimal, is_double, is_double_assign, is_exponent, is_octal, is_prefixed, is_quote, is_raw, is_triple, keyword, mark_piece, middle_piece, no_code, number_piece, only_if, operator_piece, other_piece, quoted, refused_words, rest_of, run_at, short_piece, single, text_piece, text_token, word_at, word_piece}
use Rattle.star_grammar.specs.Tokens.{Tokens, behind, ends_line, tokens_from, tokens_in, tokens_of, at_line, went}

abbrev pub HeldKind : TokenKind → Type 0
HeldKind (token.Name x) = IsUtf8 x
HeldKind (token.Int z) = FitsSigned w128 z
HeldKind (token.Text t) = IsUtf8 t
HeldKind (token.Mark m) = Unit {0}

abbrev HeldPiece : Piece → Type 0
HeldPiece (piece.Whole k n ends) = HeldKind k
HeldPiece p = Unit {0}

either_piece : (b : Bool) (p q : Piece) → (b ≡ true → HeldPiece p) → HeldPiece q → HeldPiece (if b then p else q)
either_piece true p q h g = h refl
either_piece false p q h g = g

mark_or : (o : Option Mark) (n : ℕ) (p : Piece) → HeldPiece p → HeldPiece (elim o as (λ _. Piece) [ None ↦ p | Some m ↦ mark_piece m n ])
mark_or None n p h = h
mark_or (Some m) n p h = tt

-- ---- names

run_more : (c n : ℕ) (cs : List ℕ) → take (1 + n) (c ∷ cs) ≡ c ∷ take n cs
run_more c n cs = let e : 1 + n ≡ suc n = omega arith in rw e refl

word_small : (c : ℕ) → in_word c ≡ true → c < 128
word_small c e = grind (arith, nat_tests)

word_ascii : (t : List ℕ) → IsAscii (word_at t)
word_ascii [] = IsAscii-nil
word_ascii (c ∷ cs) = on (in_word c) refl (word_ascii cs)
  where
    on : (b : Bool) → in_word c ≡ b → IsAscii (word_at cs) → IsAscii (take (cond b (1 + prefix_len in_word cs) 0) (c ∷ cs))
    on true e ih = rw run_more (IsAscii-cons c (word_at cs) (word_small c e) ih)
    on false e ih = IsAscii-nil

word_held : (t : List ℕ) → HeldPiece (word_piece t)
word_held t =
    let w = word_at t in
    let name = piece.Whole (token.Name w) (length w) 0 in
    mark_or (keyword w) (length w) (if is_among refused_words w then no_code else name) (either_piece (is_among refused_words w) no_code name (λ e. tt) (IsUtf8-from_ascii w (word_ascii t)))

-- ---- integers and texts

integer_fits : (n : ℕ) → nat_le n greatest_integer ≡ true → FitsSigned w128 (pos n)
integer_fits n h = record { sfits = grind (arith, nat_tests, h) }

integer_held : (base : ℕ) (ds : List ℕ) (size : ℕ) → HeldPiece (integer_piece base ds size)
integer_held base ds size = either_piece (nat_le (digits_value base ds) greatest_integer) _ _ (λ e. integer_fits (digits_value base ds) e) tt

decimal_held : (ds rest : List ℕ) → HeldPiece (decimal_piece ds rest)
decimal_held ds rest =
    either_piece (first rest == 46 || is_exponent rest) (piece.Refused fault.FloatRefused) _ (λ e. tt)
    (either_piece (is_decimal ds) (integer_piece 10 ds (length ds)) no_code (λ e. integer_held 10 ds (length ds)) tt)

number_held : (t : List ℕ) → HeldPiece (number_piece t)
number_held t =
    either_piece (is_prefixed 120 is_ascii_hexdigit t) _ _ (λ e. integer_held 16 (run_at is_ascii_hexdigit (drop 2 t)) (2 + length (run_at is_ascii_hexdigit (drop 2 t))))
    (either_piece (is_prefixed 111 is_octal t) _ _ (λ e. integer_held 8 (run_at is_octal (drop 2 t)) (2 + length (run_at is_octal (drop 2 t)))) (decimal_held (run_at is_ascii_digit t) (rest_of (run_at is_ascii_digit t) t)))

text_held : (before : ℕ) (t : List ℕ) (o : Option Span) → HeldPiece (text_token before t o)
text_held before t None = tt
text_held before t (Some s) = either_piece (is_utf8 s.bytes) _ _ (λ e. IsUtf8-from_is_utf8 s.bytes e) tt

quoted_held : (o : Origin) (raw : Bool) (before : ℕ) (t : List ℕ) → HeldPiece (text_piece o raw before t)
quoted_held o raw before t =
    either_piece (is_triple t) _ _ (λ e. text_held (before + 3) (drop 3 t) (quoted (form raw true (holds_lines o) (first t)) (drop 3 t)))
    (text_held (before + 1) (drop 1 t) (quoted (form raw false false (first t)) (drop 1 t)))

-- ---- pieces

short_held : (b : ℕ) → HeldPiece (short_piece b)
short_held b = mark_or (single b) 1 _ (either_piece (b == 47) _ _ (λ e. tt) tt)

middle_held : (t : List ℕ) → HeldPiece (middle_piece t)
middle_held t = mark_or (only_if (slice_index t 1 == 61) (assigning (first t))) 2 _ (short_held (first t))

double_held : (t : List ℕ) → HeldPiece (double_piece t)
double_held t = mark_or (only_if (is_double t) (doubled (first t))) 2 _ (middle_held t)

operator_held : (t : List ℕ) → HeldPiece (operator_piece t)
operator_held t = mark_or (only_if (is_double_assign t) (doubled_assigning (first t))) 3 _ (double_held t)

other_held : (t : List ℕ) → HeldPiece (other_piece t)
other_held t = either_piece (begins_word (first t)) _ _ (λ e. word_held t) (either_piece (begins_number t) _ _ (λ e. number_held t) (operator_held t))

comment_held : (o : Origin) (t : List ℕ) → HeldPiece (comment_piece o t)
comment_held origin.File t = tt
comment_held origin.Comment t = tt

front_held : (o : Origin) (t : List ℕ) → HeldPiece (front o t)
front_held o t =
    either_piece (is_blank (first t)) _ _ (λ e. tt)
    (either_piece (first t == 10) _ _ (λ e. tt)
    (either_piece (first t == 35) _ _ (λ e. comment_held o t)
    (either_piece (is_quote (first t)) _ _ (λ e. quoted_held o false 0 t)
    (either_piece (is_raw t) _ _ (λ e. quoted_held o true 1 (drop 1 t)) (other_held t)))))

-- ---- tokens

abbrev pub HeldTokens : List Token → Type 0
HeldTokens [] = Unit {0}
HeldTokens (k ∷ ks) = HeldKind k.kind × HeldTokens ks

one_held : (b : Bool) (k : Token) → HeldKind k.kind → HeldTokens (if b then k ∷ [] else [])
one_held true k h = (h, tt)
one_held false k h = tt

piece_held : (c : Cursor) (p : Piece) → HeldPiece p → HeldTokens (tokens_in c p)
piece_held c (piece.Whole k n ends) h = (h, tt)
piece_held c piece.LineEnd h = one_held (ends_line c) _ tt
piece_held c (piece.Blank n) h = tt
piece_held c (piece.Refused f) h = tt

both_held : (ks ts : List Token) → HeldTokens ks → HeldTokens ts → HeldTokens (ks ++ ts)
both_held [] ts h g = g
both_held (k ∷ ks) ts h g = (h.0, both_held ks ts h.1 g)

behind_held : (ks : List Token) (r : Tokens) → HeldTokens ks → IfOk r HeldTokens → IfOk (behind ks r) HeldTokens
behind_held ks (Ok ts) h g = both_held ks ts h g
behind_held ks (Err r) h g = tt

went_held : (c : Cursor) (p : Piece) (go : ℕ → Cursor → Tokens) → HeldPiece p → ((n : ℕ) (d : Cursor) → IfOk (go n d) HeldTokens) → IfOk (went c p go) HeldTokens
went_held c (piece.Refused f) go h g = tt
went_held c (piece.Whole k n ends) go h g = behind_held (tokens_in c (piece.Whole k n ends)) _ (piece_held c (piece.Whole k n ends) h) (g _ _)
went_held c piece.LineEnd go h g = behind_held (tokens_in c piece.LineEnd) _ (piece_held c piece.LineEnd h) (g _ _)
went_held c (piece.Blank n) go h g = behind_held (tokens_in c (piece.Blank n)) _ (piece_held c (piece.Blank n) h) (g _ _)

from_held : (n : ℕ) (o : Origin) (c : Cursor) (t : List ℕ) → IfOk (tokens_from n o c t) HeldTokens
from_held n o c [] = (tt, tt)
from_held (suc n) o c (b ∷ bs) = from_held n o c bs
from_held zero o c (b ∷ bs) = went_held c (front o (b ∷ bs)) (λ n d. tokens_from n o d bs) (front_held o (b ∷ bs)) (λ n d. from_held n o d bs)

pub tokens_held : (o : Origin) (line : ℕ) (t : List ℕ) → IfOk (tokens_of o line t) HeldTokens
tokens_held o line t = from_held 0 o (at_line line) t
