-- A document read line by line, with a stack of open blocks.
use Rattle.std.specs.Prelude.{ℕ, zero, suc, Bool, true, false, not, ◌&&◌, ◌||◌, ◌==◌, List, [], ◌∷◌, ◌++◌, Option, Some, None, Ok, if◌then◌else◌}
use Rattle.ytt_base.specs.declared.fault.FaultKind.TheVariants as kind
use Rattle.ytt_base.specs.Outcomes.{Outcome, ◌>>=◌}
use Rattle.ytt_base.specs.Trees.{null, scalar, max_depth}
use Rattle.yaml_spec.specs.Bytes.{hash, first, is_blank, skip_white}
use Rattle.yaml_spec.specs.Refusals.{refused}
use Rattle.yaml_spec.specs.Lines.{Line}
use Rattle.yaml_spec.specs.Plain.{typed}
use Rattle.yaml_spec.specs.Noted.{Comment, Note, Content, noted_scalar, noted_list, noted_map, Items, no_items, item}
use Rattle.yaml_spec.specs.Rows.{Mark, dash_mark, key_mark, Head, Row, has_value, row_value, row_at, taken}
use Rattle.yaml_spec.specs.Entries.{is_dash_mark, starts_with_dash, misplaced, begins_entry, row_comment, note_of, behind_head, stray, Found, content_of, Doc}

-- ---- open blocks

-- An open block: how many collections may nest in it, its indent, whether it is a list or a map, the items before its open
-- entry, and the note of that entry.
pub record Frame : Type 0 where
  pub left : ℕ
  pub indent : ℕ
  pub is_list : Bool
  pub done : List (Note × Content)
  pub note : Note

-- what the innermost open entry has: nothing yet, or its content
pub data Hole : Type 0 where
  wanting : Hole
  filled : Found → Hole

-- a block's content: a list or a map of its items
abbrev pub wrap : Bool → Items → Content
wrap is_list is = if is_list then noted_list is else noted_map is

-- these items before those
abbrev pub with_items : List (Note × Content) → Items → Items
with_items [] is = is
with_items (x ∷ xs) is = item x.0 x.1 (with_items xs is)

-- an entry that has begun: its note, the blocks opened behind its head, and what the innermost has
abbrev pub Begun : Type 0
Begun = Note × List Frame × Hole

-- a block that has begun
abbrev pub Opened : Type 0
Opened = Frame × List Frame × Hole

-- what stands behind an entry's last head: its value with the comment behind it, or nothing yet with the row's comment
abbrev pub begin_content : ℕ → Row → Outcome (Option Comment × Hole)
begin_content left r =
    elim (has_value r) [
      | true ↦ row_value left r >>= (λ v. Ok (v.trailing, filled (v.content, v.trailing)))
      | false ↦ Ok (row_comment r, wanting)
    ]

module _ (left : ℕ) (opens : ℕ → Row → Outcome Opened) where
  -- an entry that begins with this head, where further heads stand behind a dash
  abbrev pub begin_entry : Row → Mark → List Head → Outcome Begun
  begin_entry r (key_mark k) hs = typed r.place k >>= (λ s. begin_content left r >>= (λ b. Ok (note_of r (Some s) b.0, [], b.1)))
  begin_entry r dash_mark [] = begin_content left r >>= (λ b. Ok (note_of r None b.0, [], b.1))
  begin_entry r dash_mark (h ∷ hs) =
      opens h.column (behind_head h.column (h ∷ hs) r) >>= (λ o. Ok (note_of r None None, o.0 ∷ o.1, o.2))

  -- the entry that begins in this row, in a list or a map of this indent
  abbrev pub begin_at : Bool → ℕ → Row → Outcome Begun
  begin_at is_list n r =
      elim r.heads [
        | [] ↦ refused (if r.indent == n then stray r else kind.YamlForm) r.place
        | h ∷ hs ↦
            elim (not h.has_tab && r.indent == n && ((is_list && is_dash_mark h.mark) || (not is_list && not (is_dash_mark h.mark)))) [
              | true ↦ begin_entry r h.mark hs
              | false ↦ misplaced r kind.YamlForm
            ]
      ]

-- the block that begins with a row of this indent, in which so many collections may nest, itself counted
abbrev pub opens : ℕ → ℕ → Row → Outcome Opened
opens zero n r = misplaced r kind.YamlDepth
opens (suc left) n r =
    begin_at left (opens left) (starts_with_dash r) n r >>= (λ b.
    Ok (record { left = left; indent = n; is_list = starts_with_dash r; done = []; note = b.0 }, b.1, b.2))

-- the content if no further row comes
abbrev pub finish : List Frame → Hole → Found
finish [] wanting = (noted_scalar (scalar null), None)
finish [] (filled f) = f
finish (f ∷ fs) h = (wrap f.is_list (with_items f.done (item f.note (finish fs h).0 no_items)), None)

-- One row is taken by the outermost open block that it begins an entry of, whose inner blocks close; by the innermost entry, if
-- that has nothing yet; or is refused.
abbrev pub step : ℕ → List Frame → Hole → Row → Outcome (List Frame × Hole)
step left [] (filled f) r = misplaced r kind.YamlForm
step left [] wanting r =
    elim r.heads [
      | [] ↦ row_value left r >>= (λ v. Ok ([], filled (v.content, v.trailing)))
      | h ∷ hs ↦ opens left r.indent r >>= (λ o. Ok (o.0 ∷ o.1, o.2))
    ]
step left (f ∷ fs) h r =
    elim (begins_entry f.is_list f.indent r) [
      | true ↦ begin_at f.left (opens f.left) f.is_list f.indent r >>= (λ b.
          Ok (record f { done = f.done ++ (f.note, (finish fs h).0) ∷ []; note = b.0 } ∷ b.1, b.2))
      | false ↦ step f.left fs h r >>= (λ s. Ok (f ∷ s.0, s.1))
    ]

-- all rows, one after another
abbrev pub run : ℕ → List Frame → Hole → List Row → Outcome Found
run left fs h [] = Ok (finish fs h)
run left fs h (r ∷ rs) = step left fs h r >>= (λ s. run left s.0 s.1 rs)

-- ---- the lines

-- what the pass gives: the content, and the comments after the last item
abbrev pub Passed : Type 0
Passed = Found × List Comment

-- the comment that a line of its own is
abbrev pub own_comment : Line → Comment
own_comment l = record { line = l.place.line; own_line = true; text = skip_white l.text }

-- All lines, each looked at once, with the words of `rows` and the open blocks with what the innermost entry has.
abbrev pub pass : ℕ → Bool → ℕ → ℕ → List Comment → List Frame → Hole → List Line → Outcome Passed
pass stop is_owned skip least cs fs h [] = Ok (finish fs h, cs)
pass stop is_owned (suc skip) least cs fs h (l ∷ ls) = pass stop is_owned skip least cs fs h ls
pass stop is_owned zero least cs fs h (l ∷ ls) =
    elim (is_blank l.text) [
      | true ↦ pass stop is_owned zero least cs fs h ls
      | false ↦ elim (first (skip_white l.text) == hash) [
        | true ↦ pass stop is_owned zero least (cs ++ own_comment l ∷ []) fs h ls
        | false ↦
            step max_depth fs h (row_at stop is_owned least cs l ls) >>= (λ s.
            taken (row_at stop is_owned least cs l ls) >>= (λ e.
            pass stop false e.0 (row_at stop is_owned least cs l ls).least e.1 s.0 s.1 ls))
      ]
    ]

-- the same by cutting the rows top down, with the comments behind them
abbrev pub passed_by : List Row × List Comment → Outcome Passed
passed_by rs = content_of max_depth (Doc max_depth) rs.0 >>= (λ f. Ok (f, rs.1))
