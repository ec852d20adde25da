-- Documents and whole texts (YAML 1.2.2, 9.1 and 9.2).
use Rattle.std.specs.Prelude.{◌≡◌, ℕ, Bool, true, false, ◌&&◌, ◌||◌, ◌==◌, if◌then◌else◌, List, [], ◌∷◌, ◌++◌, take, drop, codes, bytes_eq, Option, Some, None, Ok, Err}
use Rattle.yaml_spec.specs.Bytes.{hash, percent, first, is_empty, is_blank, is_gap, skip_white}
use Rattle.ytt_base.specs.declared.fault.FaultKind.TheVariants as kind
use Rattle.ytt_base.specs.declared.fault.Place.{Place}
use Rattle.ytt_base.specs.Outcomes.{Outcome, ◌>>=◌}
use Rattle.yaml_spec.specs.Refusals.{refused}
use Rattle.yaml_spec.specs.Lines.{Line, Lines}
use Rattle.ytt_base.specs.Trees.{Trees, max_depth}
use Rattle.yaml_spec.specs.Noted.{Comment, Note, no_items, item, Documents, twice_below, bare_trees, drop_null, key_of, is_note}
use Rattle.yaml_spec.specs.Rows.{Row, has_value, taken, rows, open_place_of}
use Rattle.yaml_spec.specs.Entries.{content_of, Doc, Found, row_comment}
use Rattle.yaml_spec.specs.Text.{key_text}

-- ---- markers (9.1.2, 9.1.3)

-- a marker and a gap
abbrev pub begins_with : List ℕ → List ℕ → Bool
begins_with marker t = bytes_eq (take 3 t) marker && is_gap (drop 3 t)

-- the line is `---`, which begins a document
abbrev pub is_start : Line → Bool
is_start l = begins_with (codes "---") l.text

-- the line is `...`, which ends one
abbrev pub is_stop : Line → Bool
is_stop l = begins_with (codes "...") l.text

-- a marker with the lines up to the next one; `stop` is the next one's line, or 0
pub record Segment : Type 0 where
  pub marker : Line
  pub lines : List Line
  pub stop : ℕ

-- the line of the first marker, or 0
abbrev pub first_marker : List Segment → ℕ
first_marker [] = 0
first_marker (s ∷ ss) = s.marker.place.line

-- the lines before the first marker, and the segments
unfoldable pub segments : List Line → List Line × List Segment
segments [] = ([], [])
segments (l ∷ ls) =
    let more = segments ls in
    if is_start l || is_stop l then ([], record { marker = l; lines = more.0; stop = first_marker more.1 } ∷ more.1)
    else (l ∷ more.0, more.1)

-- the first line that is more than white space and a comment
abbrev pub first_content : List Line → Option Line
first_content [] = None
first_content (l ∷ ls) =
    elim (is_blank l.text || first (skip_white l.text) == hash) [ true ↦ first_content ls | false ↦ Some l ]

-- ---- documents

-- the content of a document's rows
abbrev pub document_content : List Row → Outcome Found
document_content rs = content_of max_depth (Doc max_depth) rs

-- the note of a document, which has no key
abbrev pub document_note : Place → List Comment → Option Comment → Note
document_note p before trailing = record { place = p; key = None; before = before; trailing = trailing; flow = false }

-- what stands behind `---`, as a row without a head
abbrev pub marker_row : Segment → Row
marker_row s = record {
  place = s.marker.place;
  indent = 0;
  heads = [];
  before = [];
  is_owned = true;
  least = 0;
  open_place = open_place_of s.stop s.marker.place;
  text = skip_white (drop 3 s.marker.text);
  below = s.lines;
}

-- the rows of a document that begins with a value on its marker's line
abbrev pub rows_behind : Segment → Row → List Row × List Comment
rows_behind s r =
    elim (taken r) [
      | Ok e ↦ let more = rows s.stop false e.0 0 e.1 s.lines in (r ∷ more.0, more.1)
      | Err e ↦ (r ∷ [], [])
    ]

-- what is read of a text: the documents and the comments after the last item
abbrev pub with_document : Note → Found → Documents → Documents
with_document n f ds = record ds { items = item n f.0 ds.items }

-- a document with its marker, where these comments stand before it
unfoldable pub explicit : List Comment → Segment → Outcome (Note × Found × List Comment)
explicit before s =
    let r = marker_row s in
    elim (has_value r) [
      | true ↦
          let rs = rows_behind s r in
          document_content rs.0 >>= (λ f. Ok (document_note r.place before f.1, f, rs.1))
      | false ↦
          let rs = rows s.stop false 0 0 [] s.lines in
          document_content rs.0 >>= (λ f. Ok (document_note r.place before (row_comment r), f, rs.1))
    ]

-- comments on their own lines
abbrev pub comments_of : List Line → List Comment
comments_of [] = []
comments_of (l ∷ ls) =
    elim (is_blank l.text) [
      | true ↦ comments_of ls
      | false ↦ record { line = l.place.line; own_line = true; text = skip_white l.text } ∷ comments_of ls
    ]

-- a line that cannot stand between documents: a directive (6.8) is left out of the profile
abbrev pub outside : {A : Type 0} → Line → Outcome A
outside l = refused (if first l.text == percent then kind.YamlOut else kind.YamlForm) l.place

-- the comments of what follows `...`, which is nothing else
unfoldable pub ended : Segment → Outcome (List Comment)
ended s =
    let t = skip_white (drop 3 s.marker.text) in
    elim (is_empty t) [
      | true ↦ elim (first_content s.lines) [ Some l ↦ outside l | None ↦ Ok (comments_of s.lines) ]
      | false ↦ elim (first t == hash) [
        | false ↦ refused kind.YamlForm s.marker.place
        | true ↦ elim (is_note t) [
          | true ↦ refused kind.YamlOut s.marker.place
          | false ↦ elim (first_content s.lines) [
            | Some l ↦ outside l
            | None ↦ Ok (record { line = s.marker.place.line; own_line = false; text = t } ∷ comments_of s.lines)
          ]
        ]
      ]
    ]

-- the documents of the segments, where these comments stand before them; `is_closed` behind `...`
unfoldable pub documents : Bool → List Comment → List Segment → Outcome Documents
documents is_closed before [] = Ok (record { items = no_items; after = before })
documents is_closed before (s ∷ ss) =
    elim (is_start s.marker) [
      | true ↦ explicit before s >>= (λ d. documents false d.2 ss >>= (λ ds. Ok (with_document d.0 d.1 ds)))
      | false ↦ elim is_closed [
        | true ↦ refused kind.YamlForm s.marker.place
        | false ↦ ended s >>= (λ cs. documents true (before ++ cs) ss)
      ]
    ]

-- the text before the first marker is a document if it has content, which begins before its first comment
unfoldable pub implicit : List Line → List Segment → Outcome Documents
implicit front ss =
    elim (first_content front) [
      | None ↦ documents false (comments_of front) ss
      | Some l ↦ elim (first l.text == percent) [
        | true ↦ refused kind.YamlOut l.place
        | false ↦
            let rs = rows (first_marker ss) true 0 0 [] front in
            document_content rs.0 >>= (λ f. documents false rs.1 ss >>= (λ ds. Ok (with_document (document_note l.place [] f.1) f ds)))
      ]
    ]

-- ---- texts

-- the noted documents of the text of this file, or its first refusal
unfoldable pub Read : ℕ → List ℕ → Outcome Documents
Read file bytes = Lines file bytes >>= (λ ls. let s = segments ls in implicit s.0 s.1)

-- the documents where no map has a key twice, or else the first later item
unfoldable pub distinct : Documents → Outcome Documents
distinct ds =
    elim (twice_below ds.items) [
      | Some n ↦ Err (record { kind = kind.KeyTwice; place = Some n.place; detail = key_text (key_of n) })
      | None ↦ Ok ds
    ]

-- the trees of documents where no map has a key twice, without the null ones
abbrev pub plain_trees : Documents → Outcome Trees
plain_trees ds = distinct ds >>= (λ es. Ok (drop_null (bare_trees es.items)))

-- the trees of the text of this file without the null ones, or its refusal
unfoldable pub read_trees : ℕ → List ℕ → Outcome Trees
read_trees file bytes = Read file bytes >>= (λ ds. plain_trees ds)

-- the text reads as these trees, whichever file it is
abbrev pub Reads : List ℕ → Trees → Type 0
Reads bytes ts = (file : ℕ) → read_trees file bytes ≡ Ok ts
