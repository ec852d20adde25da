-- Blocks, top down: rows are cut at those of exactly one indent, and each entry is read by itself (YAML 1.2.2, 8.2).
use Rattle.std.specs.Prelude.{ℕ, zero, suc, Bool, true, false, not, ◌&&◌, ◌||◌, ◌==◌, nat_le, if◌then◌else◌, List, [], ◌∷◌, Option, Some, None, Ok}
use Rattle.yaml_spec.specs.Bytes.{is_empty}
use Rattle.ytt_base.specs.declared.fault.FaultKind.{FaultKind}
use Rattle.ytt_base.specs.declared.fault.FaultKind.TheVariants as kind
use Rattle.ytt_base.specs.Outcomes.{Outcome, ◌>>=◌}
use Rattle.yaml_spec.specs.Refusals.{refused}
use Rattle.ytt_base.specs.Trees.{Scalar, null, scalar}
use Rattle.yaml_spec.specs.Plain.{start_fault, typed}
use Rattle.yaml_spec.specs.Noted.{Comment, Note, Content, noted_scalar, noted_list, noted_map, Items, no_items, item}
use Rattle.yaml_spec.specs.Rows.{Mark, dash_mark, key_mark, Head, Row, has_value, row_value}

-- the entry is an element of a list
abbrev pub is_dash_mark : Mark → Bool
is_dash_mark dash_mark = true
is_dash_mark (key_mark k) = false

-- the row begins an element of a list
abbrev pub starts_with_dash : Row → Bool
starts_with_dash r = elim r.heads [ [] ↦ false | h ∷ hs ↦ is_dash_mark h.mark ]

-- a tab stands before the entry
abbrev pub has_tab : Row → Bool
has_tab r = elim r.heads [ [] ↦ false | h ∷ hs ↦ h.has_tab ]

-- the refusal of a row where it stands: a tab before its entry comes first
abbrev pub misplaced : {A : Type 0} → Row → FaultKind → Outcome A
misplaced r k = refused (if has_tab r then kind.YamlTab else k) r.place

-- ---- cutting

-- the row that begins an entry, and the rows below it up to the next
pub record Entry : Type 0 where
  pub row : Row
  pub body : List Row

-- A row begins an entry of a block of this indent. In a map an element of a list at the same indent belongs to the key above it.
abbrev pub begins_entry : Bool → ℕ → Row → Bool
begins_entry is_list n r = nat_le r.indent n && not (not is_list && r.indent == n && starts_with_dash r)

-- the rows up to the next entry, and the entries from there on
unfoldable pub cut_after : Bool → ℕ → List Row → List Row × List Entry
cut_after is_list n [] = ([], [])
cut_after is_list n (r ∷ rs) =
    let more = cut_after is_list n rs in
    if begins_entry is_list n r then ([], record { row = r; body = more.0 } ∷ more.1) else (r ∷ more.0, more.1)

-- the entries of a block whose first row begins one
abbrev pub cut_block : Bool → ℕ → Row → List Row → List Entry
cut_block is_list n r rs = let more = cut_after is_list n rs in record { row = r; body = more.0 } ∷ more.1

-- ---- reading

-- no row is left
abbrev pub over : {A : Type 0} → A → List Row → Outcome A
over x [] = Ok x
over x (r ∷ rs) = misplaced r kind.YamlForm

-- the comment on a row without a value
abbrev pub row_comment : Row → Option Comment
row_comment r = if is_empty r.text then None else Some (record { line = r.place.line; own_line = false; text = r.text })

-- the note of an item that begins in a row
abbrev pub note_of : Row → Option Scalar → Option Comment → Note
note_of r k trailing = record { place = r.place; key = k; before = r.before; trailing = trailing; flow = false }

-- the row of what stands behind its first head
abbrev pub behind_head : ℕ → List Head → Row → Row
behind_head column hs r = record r { indent = column; heads = hs; before = [] }

-- why a row without a head cannot stand where an entry has to
abbrev pub stray : Row → FaultKind
stray r = elim (start_fault false r.text) [ Some k ↦ k | None ↦ kind.YamlForm ]

-- a content, and the comment on the line of a document or entry that has it
abbrev pub Found : Type 0
Found = Content × Option Comment

-- `left` more collections may nest, and `block` reads one of these at an indent
module _ (left : ℕ) (block : ℕ → Row → List Row → Outcome Content) where
  -- what an empty value takes: nothing, a block, or one scalar or flow collection
  unfoldable pub content_of : List Row → Outcome Found
  content_of [] = Ok (noted_scalar (scalar null), None)
  content_of (r ∷ rs) =
      elim r.heads [
        | [] ↦ row_value left r >>= (λ v. over (v.content, v.trailing) rs)
        | h ∷ hs ↦ block r.indent r rs >>= (λ c. Ok (c, None))
      ]

  -- the content of an entry whose last head is passed: the value on its line, or what an empty value takes
  unfoldable pub entry_content : Row → List Row → Outcome Found
  entry_content r body =
      elim (has_value r) [
        | true ↦ row_value left r >>= (λ v. over (v.content, v.trailing) body)
        | false ↦ content_of body >>= (λ f. Ok (f.0, row_comment r))
      ]

  -- an entry that begins with this head; behind a dash may stand a block entry
  unfoldable pub entry : Row → Mark → List Head → List Row → Outcome (Note × Content)
  entry r (key_mark k) hs body =
      typed r.place k >>= (λ s. entry_content r body >>= (λ f. Ok (note_of r (Some s) f.1, f.0)))
  entry r dash_mark [] body = entry_content r body >>= (λ f. Ok (note_of r None f.1, f.0))
  entry r dash_mark (h ∷ hs) body =
      block h.column (behind_head h.column (h ∷ hs) r) body >>= (λ c. Ok (note_of r None None, c))

  -- an entry of a list or map of this indent
  unfoldable pub entry_at : Bool → ℕ → Entry → Outcome (Note × Content)
  entry_at is_list n e =
      elim e.row.heads [
        | [] ↦ refused (if e.row.indent == n then stray e.row else kind.YamlForm) e.row.place
        | h ∷ hs ↦
            elim (not h.has_tab && e.row.indent == n && ((is_list && is_dash_mark h.mark) || (not is_list && not (is_dash_mark h.mark)))) [
              | true ↦ entry e.row h.mark hs e.body
              | false ↦ misplaced e.row kind.YamlForm
            ]
      ]

  -- the entries in their order; the first refusal is the answer
  unfoldable pub entries : Bool → ℕ → List Entry → Outcome Items
  entries is_list n [] = Ok no_items
  entries is_list n (e ∷ es) = entry_at is_list n e >>= (λ i. entries is_list n es >>= (λ is. Ok (item i.0 i.1 is)))

-- the block of this indent that begins with a row, in which so many collections may nest, itself counted
unfoldable pub Doc : ℕ → ℕ → Row → List Row → Outcome Content
Doc zero n r rs = misplaced r kind.YamlDepth
Doc (suc left) n r rs =
    let is_list = starts_with_dash r in
    entries left (Doc left) is_list n (cut_block is_list n r rs) >>= (λ is. Ok (if is_list then noted_list is else noted_map is))
