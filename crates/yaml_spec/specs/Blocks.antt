-- Block scalars (YAML 1.2.2, 8.1): indicators, indentation, chomping, and the literal and folded styles.
use Rattle.std.specs.Prelude.{ℕ, zero, suc, ◌+◌, ◌-◌, Bool, true, false, ◌&&◌, ◌||◌, ◌==◌, nat_le, nat_lt, if◌then◌else◌, List, [], ◌∷◌, ◌++◌, map, length, drop, Option, Some, None, Ok}
use Rattle.yaml_spec.specs.Bytes.{line_feed, space, hash, plus, dash, bar, first, is_white, is_between, is_empty, is_blank, skip_white, indent}
use Rattle.ytt_base.specs.declared.fault.FaultKind.TheVariants as kind
use Rattle.ytt_base.specs.declared.fault.Place.{Place}
use Rattle.ytt_base.specs.Outcomes.{Outcome, ◌>>=◌}
use Rattle.yaml_spec.specs.Refusals.{refused, place_below}
use Rattle.yaml_spec.specs.Lines.{Line}
use Rattle.yaml_spec.specs.Folding.{breaks}
use Rattle.yaml_spec.specs.Quotes.{Cursor}

-- what becomes of the breaks at the end (8.1.1.2)
pub data Chomp : Type 0 where
  strip : Chomp
  clip : Chomp
  keep : Chomp

-- the indicators of a header, 0 for no digit, and the text behind them
pub record Header : Type 0 where
  pub digit : ℕ
  pub chomp : Chomp
  pub rest : List ℕ

-- a digit from 1 to 9
abbrev pub is_indent_digit : ℕ → Bool
is_indent_digit b = is_between 49 57 b

-- `-` or `+`
abbrev pub is_chomp : ℕ → Bool
is_chomp b = b == dash || b == plus

-- clip where the byte is no chomping indicator
abbrev pub chomp_of : ℕ → Chomp
chomp_of b = if b == dash then strip else if b == plus then keep else clip

-- 0 where the byte is no indentation indicator
abbrev pub digit_of : ℕ → ℕ
digit_of b = if is_indent_digit b then b - 48 else 0

-- without its first byte, if that passes the test
abbrev pub skip_if : (ℕ → Bool) → List ℕ → List ℕ
skip_if test t = if test (first t) then drop 1 t else t

-- behind `|` or `>`: a digit and a chomping indicator, both optional, in either order (8.1.1)
unfoldable pub header : List ℕ → Header
header t =
    if is_chomp (first t)
    then record { digit = digit_of (first (drop 1 t)); chomp = chomp_of (first t); rest = skip_if is_indent_digit (drop 1 t) }
    else record {
      digit = digit_of (first t);
      chomp = chomp_of (first (skip_if is_indent_digit t));
      rest = skip_if is_chomp (skip_if is_indent_digit t);
    }

-- nothing but spaces
abbrev pub is_spaces : List ℕ → Bool
is_spaces [] = true
is_spaces (b ∷ bs) = b == space && is_spaces bs

-- the indent of the first line that is more than spaces, if it is not below the least one
abbrev pub found_indent : ℕ → List Line → Option ℕ
found_indent least [] = None
found_indent least (l ∷ ls) =
    elim (is_spaces l.text) [
      | true ↦ found_indent least ls
      | false ↦ if nat_le least (indent l.text) then Some (indent l.text) else None
    ]

-- the place of the line of spaces alone that is longer than the indent, before the first that is more than spaces
abbrev pub too_long : ℕ → List Line → Option Place
too_long n [] = None
too_long n (l ∷ ls) =
    elim (is_spaces l.text) [
      | true ↦ elim (nat_lt n (length l.text)) [ true ↦ Some l.place | false ↦ too_long n ls ]
      | false ↦ None
    ]

-- the lines that belong to a scalar of this content indent
abbrev pub lines_within : ℕ → List Line → List Line
lines_within n [] = []
lines_within n (l ∷ ls) = elim (is_spaces l.text || nat_le n (indent l.text)) [ true ↦ l ∷ lines_within n ls | false ↦ [] ]

-- the leading lines of spaces alone
abbrev pub lines_of_spaces : List Line → List Line
lines_of_spaces [] = []
lines_of_spaces (l ∷ ls) = elim (is_spaces l.text) [ true ↦ l ∷ lines_of_spaces ls | false ↦ [] ]

-- the contents of the lines; an empty line has none
pub record Body : Type 0 where
  pub contents : List (List ℕ)
  pub size : ℕ

-- the body at a content indent
abbrev pub body_at : ℕ → List Line → Body
body_at n ls = record { contents = map (λ l. drop n l.text) (lines_within n ls); size = length (lines_within n ls) }

-- where no line has content (8.1.1.1)
abbrev pub empty_body : List Line → Body
empty_body ls = record { contents = map (λ l. []) (lines_of_spaces ls); size = length (lines_of_spaces ls) }

-- the body of a scalar whose lines have at least this indent; a digit counts from the parent's
unfoldable pub body : ℕ → ℕ → List Line → Outcome Body
body least (suc d) ls = Ok (body_at (least + d) ls)
body least zero ls =
    elim (found_indent least ls) [
      | None ↦ Ok (empty_body ls)
      | Some n ↦ elim (too_long n ls) [ Some p ↦ refused kind.YamlForm p | None ↦ Ok (body_at n ls) ]
    ]

-- the lines up to the last that is not empty
abbrev pub drop_empty_end : List (List ℕ) → List (List ℕ)
drop_empty_end [] = []
drop_empty_end (t ∷ ts) = let rest = drop_empty_end ts in if is_empty t && is_empty rest then [] else t ∷ rest

-- literal style: breaks stay (8.1.2)
abbrev pub literal : List (List ℕ) → List ℕ
literal [] = []
literal (t ∷ []) = t
literal (t ∷ u ∷ ts) = t ++ (line_feed ∷ literal (u ∷ ts))

-- white space begins the line
abbrev pub starts_white : List ℕ → Bool
starts_white t = is_white (first t)

-- what stands between two lines, where one of them begins with white space or none does, with so many empty lines between
abbrev pub between : Bool → ℕ → List ℕ
between true n = breaks (suc n)
between false zero = space ∷ []
between false (suc n) = breaks (suc n)

-- the lines after one that begins with white space or not
abbrev pub folded_rest : Bool → ℕ → List (List ℕ) → List ℕ
folded_rest white n [] = []
folded_rest white n (t ∷ ts) =
    elim (is_empty t) [
      | true ↦ folded_rest white (suc n) ts
      | false ↦ between (white || starts_white t) n ++ (t ++ folded_rest (starts_white t) 0 ts)
    ]

-- folded style: between two lines that begin with no white space a break is folded (8.1.3)
abbrev pub folded : List (List ℕ) → List ℕ
folded [] = []
folded (t ∷ ts) = elim (is_empty t) [ true ↦ line_feed ∷ folded ts | false ↦ t ++ folded_rest (starts_white t) 0 ts ]

-- the breaks at the end: after the last line with content, or where none has any (8.1.1.2)
abbrev pub end_breaks : Chomp → Bool → ℕ → List ℕ
end_breaks strip none_has_content n = []
end_breaks clip true n = []
end_breaks clip false n = line_feed ∷ []
end_breaks keep true n = breaks n
end_breaks keep false n = breaks (suc n)

-- the string of a block scalar's lines
unfoldable pub block_text : Bool → Chomp → List (List ℕ) → List ℕ
block_text is_literal chomp contents =
    let kept = drop_empty_end contents in
    (if is_literal then literal kept else folded kept) ++ end_breaks chomp (is_empty kept) (length contents - length kept)

-- behind the indicators stands nothing, or white space and a comment
abbrev pub ends_header : List ℕ → Bool
ends_header t = is_blank t || (is_white (first t) && first (skip_white t) == hash)

-- what stands behind the indicators of a header
abbrev pub header_rest : List ℕ → List ℕ
header_rest t = let h = header (drop 1 t) in h.rest

-- the string at `|` or `>`, the comment on its line, and the place behind it; its lines have at least this indent
unfoldable pub Block : ℕ → Cursor → Outcome (List ℕ × List ℕ × Cursor)
Block least c =
    let h = header (drop 1 c.text) in
    elim (ends_header h.rest) [
      | false ↦ refused kind.YamlForm c.place
      | true ↦ body least h.digit c.below >>= (λ b.
          Ok (
            block_text (first c.text == bar) h.chomp b.contents,
            skip_white h.rest,
            record { place = place_below c.place b.size; text = []; below = drop b.size c.below },
          ))
    ]
