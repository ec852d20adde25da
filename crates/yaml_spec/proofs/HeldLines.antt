-- Positions in lines that the program holds.
use Rattle.std.proofs.Common.{◌≡◌, ℕ, zero, suc, ◌+◌, ◌<◌, true, List, [], ◌∷◌, length, get_or, drop, ◌⊎◌, refl, ap, arith, get_or-drop, add-zero}
use Rattle.std.proofs.lemmas.Bool.Decides.{nat_tests}
use Rattle.ytt_base.specs.declared.line.Line as held
use Rattle.yaml_spec.specs.Bytes.{first}
use Rattle.yaml_spec.specs.Held.{plain_lines}
use Rattle.yaml_spec.specs.Openers.{starts_block}
use Rattle.yaml_spec.specs.Positions.{cursor_at, text_at}
use Rattle.yaml_spec.specs.Quotes.{Cursor, starts_quote}

-- what stands at a column of a line, with the lines below it
abbrev pub cursor_in : held.Line → ℕ → List held.Line → Cursor
cursor_in l column below = record { place = l.place; text = drop column l.text; below = plain_lines below }

pub cursor_at-index : (lines : List held.Line) (at column : ℕ) (l : held.Line) → at < length lines → l ≡ get_or lines at l → cursor_at (plain_lines lines) at column ≡ cursor_in l column (drop (at + 1) lines)
cursor_at-index [] at column l h e = absurd (omega arith)
cursor_at-index (x ∷ lines) zero column l h e = rw e refl
cursor_at-index (x ∷ lines) (suc at) column l h e =
    let more : suc at + 1 ≡ suc (at + 1) = omega arith in
    rw more (cursor_at-index lines at column l (omega arith) e)

pub text_at-index : (lines : List held.Line) (at : ℕ) (l : held.Line) → at < length lines → l ≡ get_or lines at l → text_at (plain_lines lines) at ≡ l.text
text_at-index [] at l h e = absurd (omega arith)
text_at-index (x ∷ lines) zero l h e = rw e refl
text_at-index (x ∷ lines) (suc at) l h e = text_at-index lines at l (omega arith) e

-- an item, whatever stands for none
pub some_item : (lines : List held.Line) (at : ℕ) (d : held.Line) → at < length lines → get_or lines at d ≡ get_or lines at (get_or lines at d)
some_item [] at d h = absurd (omega arith)
some_item (x ∷ lines) zero d h = refl
some_item (x ∷ lines) (suc at) d h = some_item lines at d (omega arith)

pub plain_lines-length : (lines : List held.Line) → length (plain_lines lines) ≡ length lines
plain_lines-length [] = refl
plain_lines-length (l ∷ lines) = ap (λ n. suc n) (plain_lines-length lines)

-- ---- where a quote or a block scalar opens

-- where a byte stands there is a line
pub some-line : (lines : List held.Line) (at column : ℕ) → (let here = cursor_at (plain_lines lines) at column in 0 < first here.text) → at < length lines
some-line [] at column h = absurd (omega arith)
some-line (l ∷ lines) zero column h = omega arith
some-line (l ∷ lines) (suc at) column h = omega (arith, some-line lines at column h)

-- an opening byte of a line's text is one
pub quote-opens : (lines : List held.Line) (at column : ℕ) (l : held.Line) → at < length lines → l ≡ get_or lines at l → (get_or l.text column 0 ≡ 34) ⊎ (get_or l.text column 0 ≡ 39)
    → (let here = cursor_at (plain_lines lines) at column in starts_quote here.text ≡ true)
quote-opens lines at column l there i h =
    let here : get_or (drop column l.text) 0 0 ≡ get_or l.text column 0 = rw (get_or-drop column l.text 0 0, add-zero) refl in
    rw (cursor_at-index lines at column l there i, here) (grind (arith, nat_tests))

pub block-starts : (lines : List held.Line) (at column : ℕ) (l : held.Line) → at < length lines → l ≡ get_or lines at l → (get_or l.text column 0 ≡ 124) ⊎ (get_or l.text column 0 ≡ 62)
    → (let here = cursor_at (plain_lines lines) at column in starts_block here.text ≡ true)
block-starts lines at column l there i h =
    let here : get_or (drop column l.text) 0 0 ≡ get_or l.text column 0 = rw (get_or-drop column l.text 0 0, add-zero) refl in
    rw (cursor_at-index lines at column l there i, here) (grind (arith, nat_tests))

pub ruleset openers = (quote-opens, block-starts)
