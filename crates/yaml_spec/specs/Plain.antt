-- Where plain scalars begin, end and go on (YAML 1.2.2, 7.3.3).
use Rattle.std.specs.Prelude.{ℕ, suc, Bool, true, false, not, ◌&&◌, ◌||◌, ◌==◌, nat_lt, if◌then◌else◌, List, [], ◌∷◌, ◌++◌, length, drop, replicate, codes, bytes_eq, Option, Some, None, Result, Ok, Err}
use Rattle.yaml_spec.specs.Bytes.{hash, percent, comma, dash, colon, bar, greater, question, at_sign, left_bracket, right_bracket, left_brace, right_brace, is_white, is_flow_indicator, is_one_of, first, is_blank, is_gap, skip_white, trim_end, indent}
use Rattle.ytt_base.specs.declared.fault.FaultKind.{FaultKind}
use Rattle.ytt_base.specs.declared.fault.FaultKind.TheVariants as kind
use Rattle.ytt_base.specs.declared.fault.Place.{Place}
use Rattle.ytt_base.specs.Outcomes.{Outcome, ◌>>=◌}
use Rattle.yaml_spec.specs.Refusals.{refused}
use Rattle.yaml_spec.specs.Lines.{Line}
use Rattle.ytt_base.specs.Trees.{Scalar, Tree, scalar}
use Rattle.yaml_spec.specs.Scalars.{plain}
use Rattle.yaml_spec.specs.Folding.{Fold}
use Rattle.yaml_spec.specs.Quotes.{Cursor}

-- `, [ ] { } # | > @ %` and the backtick
abbrev pub form_indicators : List ℕ
form_indicators = comma ∷ left_bracket ∷ right_bracket ∷ left_brace ∷ right_brace ∷ hash ∷ bar ∷ greater ∷ at_sign ∷ percent ∷ 96 ∷ []

-- `& * !`, which begin an anchor, an alias and a tag
abbrev pub out_indicators : List ℕ
out_indicators = 38 ∷ 42 ∷ 33 ∷ []

-- in brackets one of `, [ ] { }` ends a scalar
abbrev pub ends_in_flow : Bool → List ℕ → Bool
ends_in_flow in_flow t = in_flow && is_flow_indicator (first t)

-- nothing that a scalar could go on with
abbrev pub is_stop : Bool → List ℕ → Bool
is_stop in_flow t = is_gap t || ends_in_flow in_flow t

-- why no plain scalar begins here, if so (7.3.3, rule 126; in brackets `-` and `?` may stand before an indicator)
unfoldable pub start_fault : Bool → List ℕ → Option FaultKind
start_fault in_flow t =
    if is_one_of form_indicators (first t) then Some kind.YamlForm
    else if is_one_of out_indicators (first t) then Some kind.YamlOut
    else if first t == dash && is_gap (drop 1 t) then Some kind.YamlForm
    else if first t == colon && is_stop in_flow (drop 1 t) then Some kind.YamlForm
    else if first t == question && is_gap (drop 1 t) then Some kind.YamlOut
    else None

-- a plain scalar ends before this byte; `white` where white space or the line's start stands before it
abbrev pub ends_before : Bool → Bool → ℕ → List ℕ → Bool
ends_before in_flow white b bs =
    (b == hash && white) || (b == colon && is_stop in_flow bs) || (in_flow && is_flow_indicator b)

-- the bytes up to where a plain scalar ends on this line
unfoldable pub span : Bool → Bool → List ℕ → List ℕ
span in_flow white [] = []
span in_flow white (b ∷ bs) = elim (ends_before in_flow white b bs) [ true ↦ [] | false ↦ b ∷ span in_flow (is_white b) bs ]

-- a plain scalar's part of a line that begins with it
abbrev pub part : Bool → List ℕ → List ℕ
part in_flow t = trim_end (span in_flow true t)

-- what stands behind it
abbrev pub behind : Bool → List ℕ → List ℕ
behind in_flow t = drop (length (part in_flow t)) t

-- the last byte is `:`
abbrev pub ends_with_colon : List ℕ → Bool
ends_with_colon [] = false
ends_with_colon (b ∷ []) = b == colon
ends_with_colon (b ∷ c ∷ bs) = ends_with_colon (c ∷ bs)

-- the part ends in `:` before white space, which no scalar and no key does
abbrev pub hangs : Bool → List ℕ → Bool
hangs in_flow t = ends_with_colon (part in_flow t) && is_white (first (behind in_flow t))

-- the line cannot belong to a plain scalar that goes on: a key's colon, or `:` at its end
abbrev pub breaks_scalar : Bool → List ℕ → Bool
breaks_scalar in_flow t = first (skip_white (behind in_flow t)) == colon || hangs in_flow t

-- a line on which a plain scalar ends: a comment, less indent, or in brackets an indicator at its start
abbrev pub ends_scalar : Bool → ℕ → List ℕ → Bool
ends_scalar in_flow least t =
    first (skip_white t) == hash || (not in_flow && nat_lt (indent t) least) || ends_in_flow in_flow (skip_white t)

-- the further lines of a plain scalar, and the place behind it; `stop` is the place behind it if no line goes on with it
unfoldable pub further : Bool → ℕ → ℕ → Cursor → List Line → Outcome (List (List ℕ) × Cursor)
further in_flow least empties stop [] = Ok ([], stop)
further in_flow least empties stop (l ∷ ls) =
    elim (is_blank l.text) [
      | true ↦ further in_flow least (suc empties) stop ls
      | false ↦ elim (ends_scalar in_flow least l.text) [
        | true ↦ Ok ([], stop)
        | false ↦
            let t = skip_white l.text in
            let here : Cursor = record { place = l.place; text = behind in_flow t; below = ls } in
            let this = replicate empties [] ++ part in_flow t ∷ [] in
            elim (breaks_scalar in_flow t) [
              | true ↦ refused kind.YamlForm l.place
              | false ↦ elim (is_blank (behind in_flow t)) [
                | true ↦ further in_flow least 0 here ls >>= (λ r. Ok (this ++ r.0, r.1))
                | false ↦ Ok (this, here)
              ]
            ]
      ]
    ]

-- a scalar by its form, or its fault at this place
abbrev pub typed : Place → Result Scalar FaultKind → Outcome Scalar
typed p (Ok s) = Ok s
typed p (Err k) = refused k p

-- the tree of a plain scalar, or its fault at this place
abbrev pub plain_at : Place → List ℕ → Outcome Tree
plain_at p t = typed p (plain t) >>= (λ s. Ok (scalar s))

-- the value at the start of a plain scalar, and the place behind it; it goes on over lines of at least this indent
unfoldable pub plain_lines : Bool → ℕ → Cursor → Outcome (Scalar × Cursor)
plain_lines in_flow least c =
    elim (start_fault in_flow c.text) [
      | Some k ↦ refused k c.place
      | None ↦
          let here = record c { text = behind in_flow c.text } in
          elim (hangs in_flow c.text) [
            | true ↦ refused kind.YamlForm c.place
            | false ↦ elim (is_blank here.text) [
              | true ↦ further in_flow least 0 here c.below >>= (λ r.
                  typed c.place (plain (Fold (part in_flow c.text ∷ r.0))) >>= (λ s. Ok (s, r.1)))
              | false ↦ typed c.place (plain (part in_flow c.text)) >>= (λ s. Ok (s, here))
            ]
          ]
    ]

-- the plain key that begins here, by its form; the merge key is left out
abbrev pub plain_key : Bool → List ℕ → Result Scalar FaultKind
plain_key in_flow t =
    if hangs in_flow t then Err kind.YamlForm else if bytes_eq (part in_flow t) (codes "<<") then Err kind.YamlOut else plain (part in_flow t)
