-- The lines of a text, and the characters that may stand in them (YAML 1.2.2, 5.1, 5.2 and 5.4).
use Rattle.std.specs.Prelude.{ℕ, Bool, true, false, ◌&&◌, ◌||◌, ◌==◌, List, [], ◌∷◌, drop, slice_index, if◌then◌else◌, Option, Some, None, Ok, chars}
use Rattle.std.specs.List.{list_all}
use Rattle.std.specs.Str.{is_utf8}
use Rattle.yaml_spec.specs.Bytes.{tab, line_feed, carriage_return, first, is_between}
use Rattle.ytt_base.specs.declared.fault.FaultKind.TheVariants as kind
use Rattle.ytt_base.specs.declared.fault.Place.{Place}
use Rattle.ytt_base.specs.Outcomes.{Outcome, place_at}
use Rattle.yaml_spec.specs.Refusals.{refused, place_below}

-- a line without its end, with its place
pub record Line : Type 0 where
  pub place : Place
  pub text : List ℕ

-- without the byte order mark at the start (5.2)
abbrev pub skip_mark : List ℕ → List ℕ
skip_mark t = if (slice_index t 0 == 0xEF && slice_index t 1 == 0xBB) && slice_index t 2 == 0xBF then drop 3 t else t

-- the lines, where this byte stands before the first of them
abbrev pub start_line : ℕ → List (List ℕ) → List (List ℕ)
start_line b [] = (b ∷ []) ∷ []
start_line b (l ∷ ls) = (b ∷ l) ∷ ls

-- cut at LF and CRLF; the end of the text ends a line that has a byte (5.4)
unfoldable pub cut : List ℕ → List (List ℕ)
cut [] = []
cut (b ∷ bs) =
    elim (b == line_feed) [
      | true ↦ [] ∷ cut bs
      | false ↦ elim (b == carriage_return && first bs == line_feed) [ true ↦ cut bs | false ↦ start_line b (cut bs) ]
    ]

-- the lines from a place on
abbrev pub numbered : Place → List (List ℕ) → List Line
numbered p [] = []
numbered p (l ∷ ls) = record { place = p; text = l } ∷ numbered (place_below p 1) ls

-- the lines of the text of this file, numbered from 1
unfoldable pub lines_of : ℕ → List ℕ → List Line
lines_of file bytes = numbered (place_at file 1) (cut (skip_mark bytes))

-- the characters of 5.1, rule 1, but for the tab and the breaks
abbrev pub is_printable : ℕ → Bool
is_printable c = is_between 0x20 0x7E c || c == 0x85 || is_between 0xA0 0xD7FF c || is_between 0xE000 0xFFFD c || is_between 0x10000 0x10FFFF c

-- each character is printable or a tab
abbrev pub all_printable : List ℕ → Bool
all_printable cs = list_all (λ c. c == tab || is_printable c) cs

-- the same of the characters of a text
abbrev pub has_good_chars : List ℕ → Bool
has_good_chars t = all_printable (chars t)

-- the place of the first line whose text fails the test
abbrev pub first_failing : (List ℕ → Bool) → List Line → Option Place
first_failing test [] = None
first_failing test (l ∷ ls) = elim (test l.text) [ true ↦ first_failing test ls | false ↦ Some l.place ]

-- Every line is UTF-8, and then every character is printable or a tab: the fault is at the first line that isn't so.
unfoldable pub checked : List Line → Outcome (List Line)
checked ls =
    elim (first_failing is_utf8 ls) [
      | Some p ↦ refused kind.NotUtf8 p
      | None ↦ elim (first_failing has_good_chars ls) [ Some p ↦ refused kind.BadChar p | None ↦ Ok ls ]
    ]

-- the lines of the text of this file, or its first refused line
unfoldable pub Lines : ℕ → List ℕ → Outcome (List Line)
Lines file bytes = checked (lines_of file bytes)
