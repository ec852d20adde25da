-- Documents part by part.
use Rattle.std.proofs.Common.{◌≡◌, Bool, true, false, ◌==◌, List, [], ◌∷◌, ◌++◌, Option, Some, None, Ok, Err, refl, sym, ap, ◌∙◌, option_map, not}
use Rattle.std.specs.Option.{is_some}
use Rattle.ytt_base.specs.declared.fault.FaultKind.TheVariants as kind
use Rattle.ytt_base.specs.Outcomes.{Outcome, ◌>>=◌}
use Rattle.yaml_noted.specs.declared.noted.NotedItem.{NotedItem}
use Rattle.yaml_noted.specs.View.{items_of, noted_of}
use Rattle.yaml_spec.specs.Bytes.{first, percent}
use Rattle.yaml_spec.specs.Lines.{Line}
use Rattle.yaml_spec.specs.Noted.{Comment, Note, Items, no_items, item, Documents}
use Rattle.yaml_spec.specs.Entries.{Found}
use Rattle.yaml_spec.specs.Read.{Segment, comments_of, document_content, document_note, documents, ended, explicit, first_content, first_marker, implicit, is_start, with_document}
use Rattle.yaml_spec.specs.Refusals.{refused}
use Rattle.yaml_spec.specs.Rows.{rows}
use Rattle.yaml_read.specs.Documents.{Noted, Part, and_items, behind_items, documents_behind, explicit_part, front_part, items_in, segment_part}

and_items-again : (is js ks : Items) → and_items is (and_items js ks) ≡ and_items (and_items is js) ks
and_items-again no_items js ks = refl
and_items-again (item n c is) js ks = ap (item n c) (and_items-again is js ks)

items-none : (is : Items) → and_items is no_items ≡ is
items-none no_items = refl
items-none (item n c is) = ap (item n c) (items-none is)

items-last : (is : List NotedItem) (i : NotedItem) → items_of (is ++ i ∷ []) ≡ and_items (items_of is) (items_in (Some (noted_of i)))
items-last [] i = refl
items-last (j ∷ is) i = ap (λ js. item (noted_of j).0 (noted_of j).1 js) (items-last is i)

pub items-put : (is now : List NotedItem) (i : NotedItem) → now ≡ is ++ i ∷ [] → items_of now ≡ and_items (items_of is) (items_in (Some (noted_of i)))
items-put is now i e = ap items_of e ∙ items-last is i

pub items-kept : (is : List NotedItem) → items_of is ≡ and_items (items_of is) (items_in None)
items-kept is = sym (items-none (items_of is))

-- no document stands there
abbrev pub is_none : Option Noted → Bool
is_none None = true
is_none (Some x) = false

-- what follows a part
abbrev pub part_behind : Items → List Segment → Part → Outcome Documents
part_behind is ss p = documents_behind (and_items is (items_in p.0)) (is_none p.0) p.1 ss

abbrev Explicit : Type 0
Explicit = Note × Found × List Comment

after_explicit : (is : Items) (ss : List Segment) (o : Outcome Explicit)
    → (o >>= (λ d. documents false d.2 ss >>= (λ ds. Ok (with_document d.0 d.1 ds))) >>= (λ ds. Ok (behind_items is ds))) ≡ (o >>= (λ d. Ok (Some (d.0, d.1.0), d.2)) >>= part_behind is ss)
after_explicit is ss (Ok d) = by (documents false d.2 ss) where
  by : (o : Outcome Documents) → (o >>= (λ ds. Ok (with_document d.0 d.1 ds)) >>= (λ ds. Ok (behind_items is ds))) ≡ (o >>= (λ ds. Ok (behind_items (and_items is (item d.0 d.1.0 no_items)) ds)))
  by (Ok ds) = ap (λ js. Ok (record ds { items = js })) (and_items-again is (item d.0 d.1.0 no_items) ds.items)
  by (Err e) = refl
after_explicit is ss (Err e) = refl

after_ended : (is : Items) (before : List Comment) (ss : List Segment) (o : Outcome (List Comment))
    → (o >>= (λ cs. documents true (before ++ cs) ss) >>= (λ ds. Ok (behind_items is ds))) ≡ (o >>= (λ cs. Ok (None, before ++ cs)) >>= part_behind is ss)
after_ended is before ss (Ok cs) = by (documents true (before ++ cs) ss) where
  by : (o : Outcome Documents) → (o >>= (λ ds. Ok (behind_items is ds))) ≡ (o >>= (λ ds. Ok (behind_items (and_items is no_items) ds)))
  by (Ok ds) = ap (λ js. Ok (record ds { items = js })) (and_items-again is no_items ds.items)
  by (Err e) = refl
after_ended is before ss (Err e) = refl

-- the documents of segments, by the first
pub by_segment : (is : Items) (is_closed : Bool) (before : List Comment) (s : Segment) (ss : List Segment) → documents_behind is is_closed before (s ∷ ss) ≡ (segment_part is_closed before s >>= part_behind is ss)
unfolding documents segment_part explicit_part
by_segment is is_closed before s ss = by (is_start s.marker) is_closed where
  by : (start closed : Bool) → (elim start as (λ _. Outcome Documents) [
    | true ↦ explicit before s >>= (λ d. documents false d.2 ss >>= (λ ds. Ok (with_document d.0 d.1 ds)))
    | false ↦ elim closed as (λ _. Outcome Documents) [ true ↦ refused kind.YamlForm s.marker.place | false ↦ ended s >>= (λ cs. documents true (before ++ cs) ss) ]
  ] >>= (λ ds. Ok (behind_items is ds)))
      ≡ (elim start as (λ _. Outcome Part) [
        | true ↦ explicit before s >>= (λ d. Ok (Some (d.0, d.1.0), d.2))
        | false ↦ elim closed as (λ _. Outcome Part) [ true ↦ refused kind.YamlForm s.marker.place | false ↦ ended s >>= (λ cs. Ok (None, before ++ cs)) ]
      ] >>= part_behind is ss)
  by true closed = after_explicit is ss (explicit before s)
  by false true = refl
  by false false = after_ended is before ss (ended s)

pub none_left : (is : Items) (is_closed : Bool) (before : List Comment) → documents_behind is is_closed before [] ≡ Ok (record { items = is; after = before })
unfolding documents
none_left is is_closed before = ap (λ js. Ok (record { items = js; after = before })) (items-none is)

-- what follows the lines before the first marker
abbrev pub front_behind : List Segment → Part → Outcome Documents
front_behind ss p = documents_behind (items_in p.0) false p.1 ss

abbrev as_part : Line → List Comment → Found → Outcome Part
as_part l cs f = Ok (Some (document_note l.place [] f.1, f.0), cs)

pub by_front : (front : List Line) (ss : List Segment) → implicit front ss ≡ (front_part front (first_marker ss) >>= front_behind ss)
unfolding implicit front_part
by_front front ss = by (first_content front) where
  kept : (o : Outcome Documents) → o ≡ (o >>= (λ ds. Ok (behind_items no_items ds)))
  kept (Ok ds) = refl
  kept (Err e) = refl

  content : (l : Line) (cs : List Comment) (o : Outcome Found) → (o >>= (λ f. documents false cs ss >>= (λ ds. Ok (with_document (document_note l.place [] f.1) f ds)))) ≡ (o >>= as_part l cs >>= front_behind ss)
  content l cs (Ok f) = refl
  content l cs (Err e) = refl

  by : (o : Option Line) → elim o as (λ _. Outcome Documents) [
    | None ↦ documents false (comments_of front) ss
    | Some l ↦ elim (first l.text == percent) as (λ _. Outcome Documents) [
      | true ↦ refused kind.YamlOut l.place
      | false ↦ let rs = rows (first_marker ss) true 0 0 [] front in document_content rs.0 >>= (λ f. documents false rs.1 ss >>= (λ ds. Ok (with_document (document_note l.place [] f.1) f ds)))
    ]
  ] ≡ (elim o as (λ _. Outcome Part) [
    | None ↦ Ok (None, comments_of front)
    | Some l ↦ elim (first l.text == percent) as (λ _. Outcome Part) [
      | true ↦ refused kind.YamlOut l.place
      | false ↦ let rs = rows (first_marker ss) true 0 0 [] front in document_content rs.0 >>= (λ f. Ok (Some (document_note l.place [] f.1, f.0), rs.1))
    ]
  ] >>= front_behind ss)
  by None = kept (documents false (comments_of front) ss)
  by (Some l) = tested (first l.text == percent) where
    tested : (b : Bool) → elim b as (λ _. Outcome Documents) [
      | true ↦ refused kind.YamlOut l.place
      | false ↦ let rs = rows (first_marker ss) true 0 0 [] front in document_content rs.0 >>= (λ f. documents false rs.1 ss >>= (λ ds. Ok (with_document (document_note l.place [] f.1) f ds)))
    ] ≡ (elim b as (λ _. Outcome Part) [
      | true ↦ refused kind.YamlOut l.place
      | false ↦ let rs = rows (first_marker ss) true 0 0 [] front in document_content rs.0 >>= (λ f. Ok (Some (document_note l.place [] f.1, f.0), rs.1))
    ] >>= front_behind ss)
    tested true = refl
    tested false = let rs = rows (first_marker ss) true 0 0 [] front in content l rs.1 (document_content rs.0)

-- where a part was put behind the items
pub next_state : (is now : Items) (i : Option NotedItem) (closed : Bool) (cs : List Comment) (ss : List Segment) → now ≡ and_items is (items_in (option_map noted_of i)) → closed ≡ is_none (option_map noted_of i)
    → documents_behind now closed cs ss ≡ part_behind is ss (option_map noted_of i, cs)
next_state is now i closed cs ss e f = rw (e, f) refl

pub none_told : (i : Option NotedItem) (b : Bool) → is_some i ≡ not b → b ≡ is_none (option_map noted_of i)
none_told None true e = refl
none_told None false e = cc
none_told (Some i) true e = cc
none_told (Some i) false e = refl
