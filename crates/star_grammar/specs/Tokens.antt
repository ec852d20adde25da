-- The tokens of a text of code, or the first of its pieces that is no token.
use Rattle.std.specs.Prelude.{ℕ, zero, suc, ◌+◌, ◌-◌, ◌^◌, min, nat_eq, Bool, true, false, not, ◌&&◌, if◌then◌else◌, List, [], ◌∷◌, ◌++◌, Result, Ok, Err}
use Rattle.ytt_base.specs.declared.fault.FaultKind.{FaultKind}
use Rattle.ytt_base.specs.declared.fault.Stop.{Stop}
use Rattle.ytt_base.specs.declared.fault.Stop.TheVariants as stop
use Rattle.ytt_base.specs.Outcomes.{fault_at, place_at}
use Rattle.star_grammar.specs.declared.token.Cursor.{Cursor}
use Rattle.star_grammar.specs.declared.token.Mark.{Mark}
use Rattle.star_grammar.specs.declared.token.Mark.TheVariants as mark
use Rattle.star_grammar.specs.declared.token.Origin.{Origin}
use Rattle.star_grammar.specs.declared.token.Piece.{Piece}
use Rattle.star_grammar.specs.declared.token.Piece.TheVariants as piece
use Rattle.star_grammar.specs.declared.token.Token.{Token}
use Rattle.star_grammar.specs.declared.token.TokenKind.{TokenKind}
use Rattle.star_grammar.specs.declared.token.TokenKind.TheVariants as token
use Rattle.star_grammar.specs.Pieces.{front}

-- a piece that is no token, by its fault and its line
pub record Refused : Type 0 where
  pub fault : FaultKind
  pub line : ℕ

abbrev pub at_line : ℕ → Cursor
at_line line = record { at = 0; line = line; depth = 0; fresh = true }

-- counts stand still at their greatest
abbrev pub further : ℕ → ℕ → ℕ
further n more = min (n + more) (2 ^ 64 - 1)

abbrev pub lower : ℕ → ℕ → ℕ
lower line ends = min (line + ends) (2 ^ 32 - 1)

abbrev pub size_of : Piece → ℕ
size_of (piece.Blank n) = n
size_of piece.LineEnd = 1
size_of (piece.Whole k n ends) = n
size_of (piece.Refused f) = 1

abbrev pub ends_in : Piece → ℕ
ends_in (piece.Whole k n ends) = ends
ends_in piece.LineEnd = 1
ends_in p = 0

abbrev pub depth_of_mark : ℕ → Mark → ℕ
depth_of_mark n mark.Open = lower n 1
depth_of_mark n mark.OpenBracket = lower n 1
depth_of_mark n mark.OpenBrace = lower n 1
depth_of_mark n mark.Close = n - 1
depth_of_mark n mark.CloseBracket = n - 1
depth_of_mark n mark.CloseBrace = n - 1
depth_of_mark n m = n

abbrev pub depth_after : ℕ → Piece → ℕ
depth_after n (piece.Whole (token.Mark m) size ends) = depth_of_mark n m
depth_after n p = n

-- a line end outside brackets ends a line of code
abbrev pub fresh_after : Cursor → Piece → Bool
fresh_after c (piece.Whole k n ends) = false
fresh_after c piece.LineEnd = if nat_eq c.depth 0 then true else c.fresh
fresh_after c p = c.fresh

abbrev pub moved : Cursor → Piece → Cursor
moved c p = record { at = further c.at (size_of p); line = lower c.line (ends_in p); depth = depth_after c.depth p; fresh = fresh_after c p }

abbrev pub token_at : Cursor → TokenKind → ℕ → Token
token_at c k size = record { kind = k; start = c.at; end = further c.at size; line = c.line }

abbrev pub end_at : Cursor → Token
end_at c = token_at c (token.Mark mark.TextEnd) 0

-- a line of code that has a token ends outside brackets
abbrev pub ends_line : Cursor → Bool
ends_line c = nat_eq c.depth 0 && not c.fresh

-- the token that a piece is, where it is one: a line end ends a line of code that has a token
abbrev pub tokens_in : Cursor → Piece → List Token
tokens_in c (piece.Whole k n ends) = token_at c k n ∷ []
tokens_in c piece.LineEnd = if ends_line c then token_at c (token.Mark mark.LineEnd) 1 ∷ [] else []
tokens_in c p = []

-- what a caller is told of it, in a file of this number
abbrev pub stop_of : (file : ℕ) → FaultKind → (line : ℕ) → Stop
stop_of file kind line = stop.Fault (fault_at kind (place_at file line))

abbrev pub Tokens : Type 0
Tokens = Result (List Token) Refused

abbrev pub behind : List Token → Tokens → Tokens
behind ks (Ok ts) = Ok (ks ++ ts)
behind ks (Err r) = Err r

-- a piece, and then the tokens behind it
abbrev pub went : Cursor → Piece → (ℕ → Cursor → Tokens) → Tokens
went c (piece.Refused f) go = Err (record { fault = f; line = c.line })
went c p go = behind (tokens_in c p) (go (size_of p - 1) (moved c p))

-- the tokens of a text from this many bytes on, with its end
abbrev pub tokens_from : ℕ → Origin → Cursor → List ℕ → Tokens
tokens_from n o c [] = Ok (end_at c ∷ [])
tokens_from (suc n) o c (b ∷ bs) = tokens_from n o c bs
tokens_from zero o c (b ∷ bs) = went c (front o (b ∷ bs)) (λ n d. tokens_from n o d bs)

-- the tokens of a text whose first line is this one
abbrev pub tokens_of : Origin → ℕ → List ℕ → Tokens
tokens_of o line t = tokens_from 0 o (at_line line) t

-- ---- the last token

abbrev pub is_end : TokenKind → Bool
is_end (token.Mark mark.TextEnd) = true
is_end k = false

-- the last token is the text's end
abbrev pub ends : List Token → Bool
ends [] = false
ends (k ∷ []) = is_end k.kind
ends (k ∷ j ∷ ks) = ends (j ∷ ks)
