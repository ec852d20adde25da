-- Logical lines: a line of a block with the lines that its quote, bracket, block scalar or plain scalar takes (YAML 1.2.2, 8.2).
use Rattle.std.specs.Prelude.{ℕ, zero, suc, ◌+◌, ◌-◌, Bool, true, false, not, ◌&&◌, ◌||◌, ◌==◌, nat_lt, if◌then◌else◌, List, [], ◌∷◌, ◌++◌, length, drop, Option, Some, None, Result, Ok, Err}
use Rattle.yaml_spec.specs.Bytes.{hash, dash, colon, first, is_empty, is_blank, is_gap, skip_white, indent, passed}
use Rattle.ytt_base.specs.declared.fault.FaultKind.{FaultKind}
use Rattle.ytt_base.specs.declared.fault.FaultKind.TheVariants as kind
use Rattle.ytt_base.specs.declared.fault.Place.{Place}
use Rattle.ytt_base.specs.Outcomes.{Outcome, ◌>>=◌, place_at}
use Rattle.yaml_spec.specs.Refusals.{nowhere}
use Rattle.yaml_spec.specs.Lines.{Line}
use Rattle.ytt_base.specs.Trees.{Scalar, string, max_depth}
use Rattle.yaml_spec.specs.Quotes.{quote_on_line, starts_quote}
use Rattle.yaml_spec.specs.Plain.{start_fault, behind, plain_key}
use Rattle.yaml_spec.specs.Noted.{Comment}
use Rattle.yaml_spec.specs.Flow.{flow, starts_collection}
use Rattle.yaml_spec.specs.Values.{Value, value}

-- what begins an entry: `-`, or a key and its colon
pub data Mark : Type 0 where
  dash_mark : Mark
  key_mark : Result Scalar FaultKind → Mark

-- the start of an entry: its column, and whether a tab stands directly before it
pub record Head : Type 0 where
  pub column : ℕ
  pub has_tab : Bool
  pub mark : Mark

-- A logical line. An item starts on its line if it has heads or is owned. Its value stands behind the heads, and may be nothing
-- or a comment alone. `least` is the least indent of a line that the value may take, and `open_place` the place of the fault
-- where the value is left open.
pub record Row : Type 0 where
  pub place : Place
  pub indent : ℕ
  pub heads : List Head
  pub before : List Comment
  pub is_owned : Bool
  pub least : ℕ
  pub open_place : Place
  pub text : List ℕ
  pub below : List Line

-- ---- heads

-- the text behind the colon of a key, where it has one
abbrev pub behind_colon : List ℕ → Option (List ℕ)
behind_colon text = let t = skip_white text in if first t == colon && is_gap (drop 1 t) then Some (drop 1 t) else None

-- a key, or why it is none, and the text behind its colon, if a key stands there
abbrev pub Key_text : Type 0
Key_text = Option (Result Scalar FaultKind × List ℕ)

-- a key with the text behind its colon, where it has one
abbrev pub key_with : Result Scalar FaultKind → Option (List ℕ) → Key_text
key_with k None = None
key_with k (Some t) = Some (k, t)

-- a key in quotes that close on its line
abbrev pub quoted_key : Option (List ℕ × List ℕ) → Key_text
quoted_key None = None
quoted_key (Some q) = key_with (Ok (string q.0)) (behind_colon q.1)

-- the key at the start of the text and the text behind its colon, if a key stands there (8.2.2)
unfoldable pub key_at : List ℕ → Key_text
key_at t =
    elim (starts_quote t) [
      | true ↦ quoted_key (quote_on_line t)
      | false ↦ elim (starts_collection t) [
        | true ↦ elim (flow max_depth nowhere [] (record { place = nowhere; text = t; below = [] })) [
          | Ok m ↦ key_with (Err kind.YamlOut) (behind_colon m.2.text)
          | Err e ↦ None
        ]
        | false ↦ elim (start_fault false t) [ Some k ↦ None | None ↦ key_with (plain_key false t) (behind_colon (behind false t)) ]
      ]
    ]

-- white space up to the next head has a tab
abbrev pub has_tab_before : List ℕ → Bool
has_tab_before t = nat_lt (indent t) (passed t (skip_white t))

-- `-` and a gap
abbrev pub is_dash : List ℕ → Bool
is_dash t = first t == dash && is_gap (drop 1 t)

-- the heads of a line from a column on, and the text behind them; there are at most n (8.2.1, 8.2.3)
unfoldable pub heads_of : ℕ → ℕ → Bool → List ℕ → List Head × List ℕ
heads_of zero column has_tab t = ([], t)
heads_of (suc n) column has_tab t =
    elim (is_dash t) [
      | true ↦
          let u = drop 1 t in
          let more = heads_of n (column + 1 + passed u (skip_white u)) (has_tab_before u) (skip_white u) in
          (record { column = column; has_tab = has_tab; mark = dash_mark } ∷ more.0, more.1)
      | false ↦ elim (key_at t) [
        | Some k ↦ (record { column = column; has_tab = has_tab; mark = key_mark k.0 } ∷ [], skip_white k.1)
        | None ↦ ([], t)
      ]
    ]

-- ---- rows

-- more than nothing or a comment stands behind the heads
abbrev pub has_value : Row → Bool
has_value r = not (is_empty r.text || first r.text == hash)

-- the line on which an item starts, if it is the row's
abbrev pub owner_of : Row → ℕ
owner_of r = if r.is_owned || not (is_empty r.heads) then r.place.line else 0

-- the comments that stand before its value and have no item yet
abbrev pub passing : Row → List Comment
passing r = if is_empty r.heads then r.before else []

-- the row's value, in which so many collections may nest
abbrev pub row_value : ℕ → Row → Outcome Value
row_value left r = value left r.open_place r.least (owner_of r) (passing r) (record { place = r.place; text = r.text; below = r.below })

-- the least indent of what an entry at the last head takes, or the one before
abbrev pub least_behind : ℕ → List Head → ℕ
least_behind least [] = least
least_behind least (h ∷ []) = suc h.column
least_behind least (h ∷ i ∷ hs) = least_behind least (i ∷ hs)

-- the place of what is left open: `stop` is the line of the marker that ends the document, or 0
abbrev pub open_place_of : ℕ → Place → Place
open_place_of stop p = if stop == 0 then p else place_at p.file stop

-- the row that begins with this line, where these comments stand before it; the words are those of `rows`
unfoldable pub row_at : ℕ → Bool → ℕ → List Comment → Line → List Line → Row
row_at stop is_owned least comments l ls =
    let t = skip_white l.text in
    let h = heads_of (length t) (passed l.text t) (has_tab_before l.text) t in
    record {
      place = l.place;
      indent = indent l.text;
      heads = h.0;
      before = comments;
      is_owned = is_owned;
      least = least_behind least h.0;
      open_place = open_place_of stop l.place;
      text = h.1;
      below = ls;
    }

-- how many further lines a row takes, and the comments that it leaves to the next item
unfoldable pub taken : Row → Outcome (ℕ × List Comment)
taken r =
    elim (has_value r) [
      | true ↦ row_value max_depth r >>= (λ v. Ok (v.last - r.place.line, v.loose))
      | false ↦ Ok (0, [])
    ]

-- The rows of a document's lines, up to the first whose value is refused, and the comments after the last. `stop` is the line
-- of the marker that ends the document, or 0, and an item starts on the first row's line if it is owned. The first `skip` lines
-- belong to the row before, whose last entry takes what has at least the indent `least`. `comments` wait for the next item.
unfoldable pub rows : ℕ → Bool → ℕ → ℕ → List Comment → List Line → List Row × List Comment
rows stop is_owned skip least comments [] = ([], comments)
rows stop is_owned (suc skip) least comments (l ∷ ls) = rows stop is_owned skip least comments ls
rows stop is_owned zero least comments (l ∷ ls) =
    elim (is_blank l.text) [
      | true ↦ rows stop is_owned zero least comments ls
      | false ↦ elim (first (skip_white l.text) == hash) [
        | true ↦ rows stop is_owned zero least (comments ++ record { line = l.place.line; own_line = true; text = skip_white l.text } ∷ []) ls
        | false ↦
            let r = row_at stop is_owned least comments l ls in
            elim (taken r) [
              | Ok e ↦ let more = rows stop false e.0 r.least e.1 ls in (r ∷ more.0, more.1)
              | Err e ↦ (r ∷ [], [])
            ]
      ]
    ]
