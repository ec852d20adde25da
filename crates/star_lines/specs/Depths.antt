-- How many brackets are open behind the code of a comment.
use Rattle.std.specs.Prelude.{◌≡◌, ℕ, zero, suc, ◌-◌, List, [], ◌∷◌, ◌++◌, Option, Some, None, Ok, Err}
use Rattle.ytt_base.specs.declared.fault.Place.{Place}
use Rattle.star_grammar.specs.declared.token.Origin.TheVariants as origin
use Rattle.star_grammar.specs.declared.token.Piece.{Piece}
use Rattle.star_grammar.specs.declared.token.Piece.TheVariants as piece
use Rattle.star_grammar.specs.CodeReaders.{brackets, tokens_at}
use Rattle.star_grammar.specs.Pieces.{front}
use Rattle.star_grammar.specs.Tokens.{Tokens, depth_after, size_of}

-- a piece, and then what is behind it
abbrev pub depth_over : (depth : ℕ) → Piece → (ℕ → ℕ → Option ℕ) → Option ℕ
depth_over d (piece.Refused f) go = None
depth_over d p go = go (size_of p - 1) (depth_after d p)

-- how many brackets are open behind a text from this many bytes on, where so many are open before it; none where a piece is no token
abbrev pub depth_from : ℕ → (depth : ℕ) → List ℕ → Option ℕ
depth_from n d [] = Some d
depth_from (suc n) d (b ∷ bs) = depth_from n d bs
depth_from zero d (b ∷ bs) = depth_over d (front origin.Comment (b ∷ bs)) (λ n e. depth_from n e bs)

abbrev pub depth_behind : (depth : ℕ) → List ℕ → Option ℕ
depth_behind d text = depth_from 0 d text

-- behind tokens; none where a piece is no token
abbrev pub depth_in : (depth : ℕ) → Tokens → Option ℕ
depth_in d (Ok ts) = Some (brackets d ts)
depth_in d (Err r) = None

pub record DepthsGoOn : Type 0 where
  -- the tokens of a text tell how many are open behind it
  pub counts : (place : Place) (d : ℕ) (text : List ℕ) → depth_in d (tokens_at place text) ≡ depth_behind d text
  -- those behind a text are those before the text below
  pub goes_on : (text below : List ℕ) (d n : ℕ) → depth_behind d text ≡ Some n → depth_behind d (text ++ 10 ∷ below) ≡ depth_behind n below
