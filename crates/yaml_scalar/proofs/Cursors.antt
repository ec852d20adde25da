-- Places in lines by positions.
use Rattle.std.proofs.Common.{◌≡◌, ℕ, zero, suc, ◌+◌, ◌-◌, ◌<◌, ℤ, true, List, [], ◌∷◌, length, get_or, drop, refl, arith, inl, inr, Ok, get_or-drop, add-zero}
use Rattle.std.proofs.lemmas.Bool.{cases_lt}
use Rattle.std.proofs.lemmas.Bool.Decides.{nat_tests}
use Rattle.std.proofs.lemmas.List.{get_or_past}
use Rattle.std.proofs.lemmas.Str.{IsCharBoundary-before_ascii}
use Rattle.std.specs.Str.{IsCharBoundary}
use Rattle.ytt_base.specs.declared.line.Line as held
use Rattle.ytt_base.specs.Outcomes.{Outcome, ◌>>=◌}
use Rattle.yaml_spec.specs.Blocks.{Block}
use Rattle.yaml_spec.specs.Bytes.{first}
use Rattle.yaml_spec.specs.Held.{plain_lines}
use Rattle.yaml_spec.specs.Lines.{Line}
use Rattle.yaml_spec.specs.Openers.{starts_block}
use Rattle.yaml_spec.specs.Positions.{Quoted, cursor_at, read_up_to, text_at, quoted_at, block_at, least_under}
use Rattle.yaml_spec.proofs.HeldLines.{plain_lines-length, some-line, text_at-index}
use Rattle.yaml_spec.specs.Quotes.{Cursor, Quote, starts_quote}
use Rattle.yaml_scalar.specs.View.{BeginsAscii}

-- ---- a position at a byte that is ASCII

text-drop : (lines : List Line) (at column : ℕ) → at < length lines → (let here = cursor_at lines at column in here.text) ≡ drop column (text_at lines at)
text-drop [] at column h = absurd (omega arith)
text-drop (l ∷ lines) zero column h = refl
text-drop (l ∷ lines) (suc at) column h = text-drop lines at column (omega arith)

-- the byte there is one of the text, since 0 stands for none
cut-before : (t : List ℕ) (column : ℕ) → 0 < first (drop column t) → first (drop column t) < 128 → IsCharBoundary t column
cut-before t column some ascii =
    let here : first (drop column t) ≡ get_or t column 0 = rw (get_or-drop column t 0 0, add-zero) refl in
    elim (cases_lt column (length t)) [
      | inl within ↦ IsCharBoundary-before_ascii t column within (rw here at ascii)
      | inr past ↦ absurd (omega (arith, get_or_past t column 0 past))
    ]

pub cut-at : (lines : List held.Line) (at column : ℕ) → at < length lines → (let here = cursor_at (plain_lines lines) at column in BeginsAscii here.text) → IsCharBoundary (text_at (plain_lines lines) at) column
cut-at lines at column there h =
    let byte = rw (text-drop (plain_lines lines) at column (rw (plain_lines-length lines) there)) at h in
    cut-before _ column byte.0 byte.1

-- a line stands there, and an ASCII character on it
abbrev Opens : List held.Line → ℕ → ℕ → Type 0
Opens lines at column = (at < length lines) × (let here = cursor_at (plain_lines lines) at column in BeginsAscii here.text)

opens : (lines : List held.Line) (at column : ℕ) → (let here = cursor_at (plain_lines lines) at column in BeginsAscii here.text) → Opens lines at column
opens lines at column h = (some-line lines at column h.0, h)

quote-ascii : (t : List ℕ) → starts_quote t ≡ true → BeginsAscii t
quote-ascii t h = (grind (arith, nat_tests), grind (arith, nat_tests))

pub quote-opens : (lines : List held.Line) (at column : ℕ) → (let here = cursor_at (plain_lines lines) at column in starts_quote here.text ≡ true) → Opens lines at column
quote-opens lines at column h = let here : Cursor = cursor_at (plain_lines lines) at column in opens lines at column (quote-ascii here.text h)

block-ascii : (t : List ℕ) → starts_block t ≡ true → BeginsAscii t
block-ascii t h = (grind (arith, nat_tests), grind (arith, nat_tests))

pub block-opens : (lines : List held.Line) (at column : ℕ) → (let here = cursor_at (plain_lines lines) at column in starts_block here.text ≡ true) → Opens lines at column
block-opens lines at column h = let here : Cursor = cursor_at (plain_lines lines) at column in opens lines at column (block-ascii here.text h)

-- ---- a string that was read up to a place

abbrev up_to : List Line → List ℕ × Cursor → Outcome Quoted
up_to lines r = Ok (read_up_to lines r.0 r.1)

pub quoted_at-Quote : (lines : List Line) (line column : ℕ) (c : Cursor) → c ≡ cursor_at lines line column → quoted_at lines line column ≡ (Quote c.place c >>= up_to lines)
unfolding quoted_at
quoted_at-Quote lines line column c e = rw e refl

abbrev below_block : List Line → List ℕ × List ℕ × Cursor → Outcome Quoted
below_block lines r = Ok (read_up_to lines r.0 r.2)

pub block_at-Block : (lines : List Line) (line column least : ℕ) (parent : ℤ) (c : Cursor) → c ≡ cursor_at lines line column → least ≡ least_under parent → block_at lines line column parent ≡ (Block least c >>= below_block lines)
unfolding block_at
block_at-Block lines line column least parent c e l = rw (e, l) refl

pub read_up_to-fields : (lines : List held.Line) (s : List ℕ) (c : Cursor) (at : ℕ) (l : held.Line) → at ≡ length lines - (length c.below + 1) → 0 < length lines → l ≡ get_or lines at l
    → record { text = s; line = at; column = length l.text - length c.text } ≡ read_up_to (plain_lines lines) s c
read_up_to-fields lines s c at l e some i =
    let here : length (plain_lines lines) - suc (length c.below) ≡ at = rw (plain_lines-length lines) (omega arith) in
    rw (here, text_at-index lines at l (omega arith) i) refl
