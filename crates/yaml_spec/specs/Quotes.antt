-- Scalars in quotes (YAML 1.2.2, 5.7, 7.3.1 and 7.3.2). White space around a folded break is dropped.
use Rattle.std.specs.Prelude.{ℕ, zero, suc, ◌+◌, ◌*◌, Bool, true, false, ◌&&◌, ◌||◌, ◌==◌, nat_le, if◌then◌else◌, List, [], ◌∷◌, ◌++◌, drop, Option, Some, None, Ok, encode_utf8}
use Rattle.yaml_spec.specs.Bytes.{quote, apostrophe, backslash, first, is_white, is_hex_digit, digit_value, is_between, skip_white}
use Rattle.ytt_base.specs.declared.fault.FaultKind.TheVariants as kind
use Rattle.ytt_base.specs.declared.fault.Place.{Place}
use Rattle.ytt_base.specs.Outcomes.{Outcome, ◌>>=◌}
use Rattle.yaml_spec.specs.Refusals.{refused}
use Rattle.yaml_spec.specs.Lines.{Line}
use Rattle.yaml_spec.specs.Folding.{Part, fold_parts}

-- a place in a text: the rest of a line, and the lines below it
pub record Cursor : Type 0 where
  pub place : Place
  pub text : List ℕ
  pub below : List Line

-- the place so many bytes further on the line
abbrev pub after : ℕ → Cursor → Cursor
after n c = record c { text = drop n c.text }

-- what a line holds of a quoted scalar: all of it, or up to the closing quote with the text behind, or a wrong escape
pub data Scan : Type 0 where
  open_end : Part → Scan
  closed : List ℕ → List ℕ → Scan
  wrong : Scan

-- the part with a text before it
abbrev pub before_part : List ℕ → Part → Part
before_part t p = record p { text = t ++ p.text }

-- what a line holds, where a text was read before it
abbrev pub prepend : List ℕ → Scan → Scan
prepend t (open_end p) = open_end (before_part t p)
prepend t (closed u rest) = closed (t ++ u) rest
prepend t wrong = wrong

-- the line ends
abbrev pub line_ends : List ℕ → Bool → Scan
line_ends t joined = open_end (record { text = t; joined = joined })

-- in single quotes (7.3.2); `white` is white space that may stand before a break
unfoldable pub single : List ℕ → List ℕ → Scan
single white [] = line_ends [] false
single white (b ∷ []) =
    if b == apostrophe then closed white [] else if is_white b then line_ends [] false else prepend (white ++ b ∷ []) (line_ends [] false)
single white (b ∷ c ∷ bs) =
    elim (b == apostrophe) [
      | true ↦ elim (c == apostrophe) [ true ↦ prepend (white ++ apostrophe ∷ []) (single [] bs) | false ↦ closed white (c ∷ bs) ]
      | false ↦ elim (is_white b) [ true ↦ single (white ++ b ∷ []) (c ∷ bs) | false ↦ prepend (white ++ b ∷ []) (single [] (c ∷ bs)) ]
    ]

-- in double quotes: between escapes, after a backslash, or with so many hexadecimal digits to come
pub data Mode : Type 0 where
  normal : Mode
  escape : Mode
  digits : ℕ → ℕ → Mode

-- the character of a one-letter escape (5.7)
abbrev pub escaped : ℕ → Option ℕ
escaped b =
    if b == 48 then Some 0x00 else if b == 97 then Some 0x07 else if b == 98 then Some 0x08 else if b == 116 then Some 0x09
    else if b == 110 then Some 0x0A else if b == 118 then Some 0x0B else if b == 102 then Some 0x0C else if b == 114 then Some 0x0D
    else if b == 101 then Some 0x1B else if b == 32 then Some 0x20 else if b == 34 then Some 0x22 else if b == 47 then Some 0x2F
    else if b == 92 then Some 0x5C else if b == 78 then Some 0x85 else if b == 95 then Some 0xA0 else if b == 76 then Some 0x2028
    else if b == 80 then Some 0x2029 else None

-- the digits of a numbered escape (5.7)
abbrev pub escape_digits : ℕ → Option ℕ
escape_digits b = if b == 120 then Some 2 else if b == 117 then Some 4 else if b == 85 then Some 8 else None

-- the number of a character that UTF-8 can write
abbrev pub is_scalar_value : ℕ → Bool
is_scalar_value c = nat_le c 0xD7FF || is_between 0xE000 0x10FFFF c

-- in double quotes (7.3.1); in each mode with white space, or the text so far, that is not yet given out
unfoldable pub double : Mode → List ℕ → List ℕ → Scan
double normal white [] = line_ends [] false
double escape white [] = line_ends white true
double (digits n c) white [] = wrong
double normal white (b ∷ bs) =
    elim (b == quote) [
      | true ↦ closed white bs
      | false ↦ elim (b == backslash) [
        | true ↦ double escape white bs
        | false ↦ elim (is_white b) [
          | true ↦ double normal (white ++ b ∷ []) bs
          | false ↦ prepend (white ++ b ∷ []) (double normal [] bs)
        ]
      ]
    ]
double escape white (b ∷ bs) =
    elim (escaped b) [
      | Some c ↦ prepend (white ++ encode_utf8 c) (double normal [] bs)
      | None ↦ elim (escape_digits b) [ Some n ↦ double (digits n 0) white bs | None ↦ wrong ]
    ]
double (digits zero c) white (b ∷ bs) = wrong
double (digits (suc zero) c) white (b ∷ bs) =
    elim (is_hex_digit b && is_scalar_value (c * 16 + digit_value b)) [
      | true ↦ prepend (white ++ encode_utf8 (c * 16 + digit_value b)) (double normal [] bs)
      | false ↦ wrong
    ]
double (digits (suc (suc n)) c) white (b ∷ bs) =
    elim (is_hex_digit b) [ true ↦ double (digits (suc n) (c * 16 + digit_value b)) white bs | false ↦ wrong ]

-- the line behind an opening quote, or a line below it
abbrev pub scan : Bool → List ℕ → Scan
scan is_double t = if is_double then double normal [] t else single [] t

-- the parts up to the closing quote, and the place behind it; `open_place` is that of the fault where none closes it
unfoldable pub parts : Place → Bool → Place → List ℕ → List Line → Outcome (List Part × Cursor)
parts open_place is_double here t [] =
    elim (scan is_double t) [
      | open_end p ↦ refused kind.YamlForm open_place
      | closed u rest ↦ Ok (record { text = u; joined = false } ∷ [], record { place = here; text = rest; below = [] })
      | wrong ↦ refused kind.YamlForm here
    ]
parts open_place is_double here t (l ∷ ls) =
    elim (scan is_double t) [
      | open_end p ↦ parts open_place is_double l.place (skip_white l.text) ls >>= (λ r. Ok (p ∷ r.0, r.1))
      | closed u rest ↦ Ok (record { text = u; joined = false } ∷ [], record { place = here; text = rest; below = l ∷ ls })
      | wrong ↦ refused kind.YamlForm here
    ]

-- the string in quotes at an opening quote, and the place behind it
unfoldable pub Quote : Place → Cursor → Outcome (List ℕ × Cursor)
Quote open_place c =
    parts open_place (first c.text == quote) c.place (drop 1 c.text) c.below >>= (λ r. Ok (fold_parts r.0, r.1))

-- the string in quotes that closes on its line, and the text behind it
abbrev pub quote_on_line : List ℕ → Option (List ℕ × List ℕ)
quote_on_line t = elim (scan (first t == quote) (drop 1 t)) [ closed u rest ↦ Some (u, rest) | _ ↦ None ]

-- a single or double quote begins the text
abbrev pub starts_quote : List ℕ → Bool
starts_quote t = first t == quote || first t == apostrophe
