-- The documents of a text one after another.
use Rattle.std.specs.Prelude.{ℕ, Bool, true, false, ◌==◌, List, [], ◌++◌, Option, Some, None, Ok}
use Rattle.ytt_base.specs.declared.fault.FaultKind.TheVariants as kind
use Rattle.ytt_base.specs.Outcomes.{Outcome, ◌>>=◌}
use Rattle.yaml_spec.specs.Bytes.{first, percent}
use Rattle.yaml_spec.specs.Lines.{Line}
use Rattle.yaml_spec.specs.Noted.{Comment, Note, Content, Items, no_items, item, Documents}
use Rattle.yaml_spec.specs.Read.{Segment, comments_of, document_content, document_note, documents, ended, explicit, first_content, is_start, rows_behind}
use Rattle.yaml_spec.specs.Refusals.{refused}
use Rattle.yaml_spec.specs.Rows.{Row, rows}
use Rattle.yaml_pass.specs.Machine.{Passed}

-- items behind others
abbrev pub and_items : Items → Items → Items
and_items no_items js = js
and_items (item n c is) js = item n c (and_items is js)

-- documents behind these items
abbrev pub behind_items : Items → Documents → Documents
behind_items is ds = record ds { items = and_items is ds.items }

-- an item with its note
abbrev pub Noted : Type 0
Noted = Note × Content

-- a document that stands by itself, if there is one, and the comments behind it
abbrev pub Part : Type 0
Part = Option Noted × List Comment

abbrev pub items_in : Option Noted → Items
items_in None = no_items
items_in (Some x) = item x.0 x.1 no_items

-- the content of a document that begins behind its marker
abbrev pub passed_behind : Segment → Row → Outcome Passed
passed_behind s r = let rs = rows_behind s r in document_content rs.0 >>= (λ f. Ok (f, rs.1))

-- a document with its marker
unfoldable pub explicit_part : List Comment → Segment → Outcome Part
explicit_part before s = explicit before s >>= (λ d. Ok (Some (d.0, d.1.0), d.2))

-- what a marker and the lines below it give; `is_closed` behind `...`
unfoldable pub segment_part : Bool → List Comment → Segment → Outcome Part
segment_part is_closed before s =
    elim (is_start s.marker) [
      | true ↦ explicit_part before s
      | false ↦ elim is_closed [ true ↦ refused kind.YamlForm s.marker.place | false ↦ ended s >>= (λ cs. Ok (None, before ++ cs)) ]
    ]

-- what the lines before the first marker give, which stands on the line `stop`
unfoldable pub front_part : List Line → ℕ → Outcome Part
front_part front stop =
    elim (first_content front) [
      | None ↦ Ok (None, comments_of front)
      | Some l ↦ elim (first l.text == percent) [
        | true ↦ refused kind.YamlOut l.place
        | false ↦ let rs = rows stop true 0 0 [] front in document_content rs.0 >>= (λ f. Ok (Some (document_note l.place [] f.1, f.0), rs.1))
      ]
    ]

-- the documents behind these items
abbrev pub documents_behind : Items → Bool → List Comment → List Segment → Outcome Documents
documents_behind is is_closed before ss = documents is_closed before ss >>= (λ ds. Ok (behind_items is ds))
