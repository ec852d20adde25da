-- Positions in lines: the index of a line, from 0, and a column in it, in bytes from 0.
use Rattle.std.specs.Prelude.{ℕ, zero, suc, ◌-◌, ℤ, pos, negsuc, List, [], ◌∷◌, length, drop, Ok}
use Rattle.ytt_base.specs.Outcomes.{Outcome, ◌>>=◌}
use Rattle.yaml_spec.specs.Refusals.{nowhere}
use Rattle.yaml_spec.specs.Lines.{Line}
use Rattle.yaml_spec.specs.Quotes.{Cursor, Quote}
use Rattle.yaml_spec.specs.Blocks.{Block}

-- what stands at a column of a line, where there is such a line
abbrev pub cursor_at : List Line → ℕ → ℕ → Cursor
cursor_at [] line column = record { place = nowhere; text = []; below = [] }
cursor_at (l ∷ ls) zero column = record { place = l.place; text = drop column l.text; below = ls }
cursor_at (l ∷ ls) (suc line) column = cursor_at ls line column

-- the text of a line, where there is such a line
abbrev pub text_at : List Line → ℕ → List ℕ
text_at [] line = []
text_at (l ∷ ls) zero = l.text
text_at (l ∷ ls) (suc line) = text_at ls line

-- the line of a place in the lines, told by what is left below it
abbrev pub line_of : List Line → Cursor → ℕ
line_of ls c = length ls - suc (length c.below)

-- its column, told by what is left of its line
abbrev pub column_of : List Line → Cursor → ℕ
column_of ls c = length (text_at ls (line_of ls c)) - length c.text

-- a string that was read, and the position behind it
pub record Quoted : Type 0 where
  pub text : List ℕ
  pub line : ℕ
  pub column : ℕ

-- a string with the position of the place behind it
abbrev pub read_up_to : List Line → List ℕ → Cursor → Quoted
read_up_to ls s c = record { text = s; line = line_of ls c; column = column_of ls c }

-- the string in quotes at an opening quote; one that nothing closes is refused where it opens
unfoldable pub quoted_at : List Line → ℕ → ℕ → Outcome Quoted
quoted_at ls line column = let c = cursor_at ls line column in Quote c.place c >>= (λ q. Ok (read_up_to ls q.0 q.1))

-- the least indent of the lines of a block scalar under a parent of this indent, which is -1 for a document
abbrev pub least_under : ℤ → ℕ
least_under (pos n) = suc n
least_under (negsuc n) = 0

-- the string of the block scalar at `|` or `>`, under a parent of this indent
unfoldable pub block_at : List Line → ℕ → ℕ → ℤ → Outcome Quoted
block_at ls line column parent =
    Block (least_under parent) (cursor_at ls line column) >>= (λ b. Ok (read_up_to ls b.0 b.2))
