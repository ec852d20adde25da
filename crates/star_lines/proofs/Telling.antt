-- The tokens of a text tell how many brackets are open behind it.
use Rattle.std.proofs.Common.{◌≡◌, ℕ, zero, suc, ◌-◌, List, [], ◌∷◌, ◌++◌, Bool, true, false, Option, Some, Ok, Err, refl, ap, ◌∙◌, if◌then◌else◌}
use Rattle.ytt_base.specs.declared.fault.Place.{Place}
use Rattle.star_grammar.specs.declared.token.Cursor.{Cursor}
use Rattle.star_grammar.specs.declared.token.Origin.TheVariants as origin
use Rattle.star_grammar.specs.declared.token.Piece.{Piece}
use Rattle.star_grammar.specs.declared.token.Piece.TheVariants as piece
use Rattle.star_grammar.specs.declared.token.Token.{Token}
use Rattle.star_grammar.specs.declared.token.TokenKind.{TokenKind}
use Rattle.star_grammar.specs.declared.token.TokenKind.TheVariants as token
use Rattle.star_grammar.specs.declared.token.Mark.TheVariants as mark
use Rattle.star_grammar.specs.CodeReaders.{brackets, leaves_open, tokens_at}
use Rattle.star_grammar.specs.CodeReaders as readers
use Rattle.star_grammar.specs.Pieces.{front}
use Rattle.star_grammar.specs.Tokens.{Tokens, at_line, behind, depth_after, ends_line, moved, token_at, tokens_from, tokens_in, went}
use Rattle.star_lines.specs.Depths.{depth_from, depth_in, depth_over, depth_behind}

brackets-append : (n : ℕ) (ks ts : List Token) → brackets n (ks ++ ts) ≡ brackets (brackets n ks) ts
brackets-append n [] ts = refl
brackets-append n (k ∷ ks) ts = brackets-append (readers.depth_behind n k.kind) ks ts

in_behind : (n : ℕ) (ks : List Token) (ts : Tokens) → depth_in n (behind ks ts) ≡ depth_in (brackets n ks) ts
in_behind n ks (Ok ts) = ap Some (brackets-append n ks ts)
in_behind n ks (Err r) = refl

kind_after : (n : ℕ) (k : TokenKind) (size ends : ℕ) → readers.depth_behind n k ≡ depth_after n (piece.Whole k size ends)
kind_after n (token.Mark m) size ends = refl
kind_after n k size ends = refl

line_end : (d : ℕ) (c : Cursor) (b : Bool) → brackets d (if b then token_at c (token.Mark mark.LineEnd) 1 ∷ [] else []) ≡ d
line_end d c true = refl
line_end d c false = refl

piece_after : (d : ℕ) (c : Cursor) (p : Piece) → brackets d (tokens_in c p) ≡ depth_after d p
piece_after d c (piece.Blank n) = refl
piece_after d c piece.LineEnd = line_end d c (ends_line c)
piece_after d c (piece.Whole k n ends) = kind_after d k n ends
piece_after d c (piece.Refused f) = refl

over : (d : ℕ) (c : Cursor) (p : Piece) (go : ℕ → Cursor → Tokens) (there : ℕ → ℕ → Option ℕ) → ((n : ℕ) (d : ℕ) (e : Cursor) → depth_in d (go n e) ≡ there n d) → depth_in d (went c p go) ≡ depth_over d p there
over d c (piece.Refused f) go there h = refl
over d c (piece.Blank n) go there h = in_behind d [] (go (n - 1) (moved c (piece.Blank n))) ∙ h (n - 1) d (moved c (piece.Blank n))
over d c piece.LineEnd go there h =
    in_behind d (tokens_in c piece.LineEnd) (go (1 - 1) (moved c piece.LineEnd)) ∙ ap (λ e. depth_in e (go (1 - 1) (moved c piece.LineEnd))) (piece_after d c piece.LineEnd) ∙ h (1 - 1) d (moved c piece.LineEnd)
over d c (piece.Whole k n ends) go there h =
    let p : Piece = piece.Whole k n ends in
    in_behind d (tokens_in c p) (go (n - 1) (moved c p)) ∙ ap (λ e. depth_in e (go (n - 1) (moved c p))) (piece_after d c p) ∙ h (n - 1) (depth_after d p) (moved c p)

from_tokens : (n d : ℕ) (c : Cursor) (t : List ℕ) → depth_in d (tokens_from n origin.Comment c t) ≡ depth_from n d t
from_tokens zero d c [] = refl
from_tokens (suc n) d c [] = refl
from_tokens (suc n) d c (b ∷ bs) = from_tokens n d c bs
from_tokens zero d c (b ∷ bs) = over d c (front origin.Comment (b ∷ bs)) (λ n e. tokens_from n origin.Comment e bs) (λ n e. depth_from n e bs) (λ n k e. from_tokens n k e bs)

pub counts : (place : Place) (d : ℕ) (text : List ℕ) → depth_in d (tokens_at place text) ≡ depth_behind d text
counts place d text = from_tokens 0 d (at_line place.line) text
