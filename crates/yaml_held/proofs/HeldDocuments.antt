-- What is read of a text holds only scalars that the program holds, and no key twice.
use Rattle.std.proofs.Common.{◌≡◌, ℕ, Bool, true, false, ◌||◌, ◌==◌, List, [], ◌∷◌, ◌++◌, drop, Option, Some, None, Ok, Err, refl, ◌∙◌, if◌then◌else◌}
use Rattle.std.specs.Prelude.{IsUtf8}
use Rattle.std.specs.Str.{is_utf8}
use Rattle.std.proofs.lemmas.Bool.{or_parts, or_from}
use Rattle.std.proofs.lemmas.Str.{IsUtf8-from_is_utf8}
use Rattle.ytt_base.specs.declared.fault.FaultKind.TheVariants as kind
use Rattle.ytt_base.specs.declared.fault.Place.{Place}
use Rattle.ytt_base.specs.Outcomes.{Outcome}
use Rattle.ytt_base.specs.Trees.{Scalar, IsScalar, same_key, has_key, keys, Trees, no_trees, tree, IsTree, AreTrees, ArePairs, is_null, max_depth}
use Rattle.yaml_spec.specs.Refusals.{refused}
use Rattle.yaml_spec.specs.Bytes.{percent, first}
use Rattle.yaml_spec.specs.Lines.{Line, first_failing, has_good_chars, checked, lines_of, Lines}
use Rattle.yaml_spec.specs.Noted.{Comment, Note, Content, noted_scalar, noted_list, noted_map, Items, no_items, item, Documents, key_of, bare_tree, bare_trees, bare_pairs, drop_null, or_else, twice, twice_below, twice_among}
use Rattle.yaml_spec.specs.Rows.{Row, has_value, taken, rows}
use Rattle.yaml_spec.specs.Entries.{Found, Doc}
use Rattle.yaml_spec.specs.Read.{Segment, is_start, is_stop, segments, first_marker, first_content, document_content, marker_row, rows_behind, comments_of, explicit, ended, documents, implicit, Read, distinct, read_trees}
use Rattle.yaml_spec.specs.Text.{key_text}
use Rattle.std.specs.Result.{IfOk}
use Rattle.std.proofs.lemmas.Result.{IfOk-at_ok}
use Rattle.ytt_laws.proofs.Yielded.{yielded_behind, yielded_either, yielded_option, yielded_then}
use Rattle.yaml_held.proofs.TextParts.{skip_utf8, utf8_marker}
use Rattle.yaml_held.proofs.GoodParts.{AreGoodLines}
use Rattle.yaml_held.proofs.Held.{Held, AreHeld}
use Rattle.yaml_held.proofs.HeldRows.{IsGoodRow, AreGoodHeads, AreGoodRows, good_rows, GoodFound, good_content, good_doc}
use Rattle.yaml_back.proofs.DistinctBack.{AllNew}
use Rattle.ytt_laws.proofs.Keys.{same_key-sym}

-- ---- lines

good_checked : (ls : List Line) → first_failing is_utf8 ls ≡ None → AreGoodLines ls
unfolding AreGoodLines
good_checked [] e = tt
good_checked (l ∷ ls) e = go (good_checked ls) (is_utf8 l.text) refl e
  where
    go : (first_failing is_utf8 ls ≡ None → AreGoodLines ls) → (b : Bool) → is_utf8 l.text ≡ b → elim b as (λ _. Option Place) [ true ↦ first_failing is_utf8 ls | false ↦ Some l.place ] ≡ None →
        IsUtf8 l.text × AreGoodLines ls
    go m true p e = (IsUtf8-from_is_utf8 l.text p, m e)
    go m false p e = cc

good_lines : (file : ℕ) (bytes : List ℕ) → IfOk (Lines file bytes) AreGoodLines
unfolding Lines checked
good_lines file bytes = go (first_failing is_utf8 (lines_of file bytes)) refl
  where
    go : (o : Option Place) → first_failing is_utf8 (lines_of file bytes) ≡ o →
        IfOk (elim o as (λ _. Outcome (List Line)) [
          | Some p ↦ refused kind.NotUtf8 p
          | None ↦ elim (first_failing has_good_chars (lines_of file bytes)) [ Some p ↦ refused kind.BadChar p | None ↦ Ok (lines_of file bytes) ]
        ]) AreGoodLines
    go (Some p) e = tt
    go None e = yielded_option _ (first_failing has_good_chars (lines_of file bytes)) _ _ ((good_checked (lines_of file bytes) e)) (λ p. tt)

-- ---- documents

record IsGoodSegment (s : Segment) : Type 0 where
  text : IsUtf8 (drop 3 s.marker.text)
  lines : AreGoodLines s.lines

AreGoodSegments : List Segment → Type 0
AreGoodSegments [] = Unit {0}
AreGoodSegments (s ∷ ss) = IsGoodSegment s × AreGoodSegments ss

good_segments : (ls : List Line) → AreGoodLines ls → AreGoodLines (segments ls).0 × AreGoodSegments (segments ls).1
unfolding segments AreGoodLines AreGoodSegments
good_segments [] h = (tt, tt)
good_segments (l ∷ ls) h = go (is_start l || is_stop l) refl (good_segments ls h.1)
  where
    go : (b : Bool) → (is_start l || is_stop l) ≡ b → AreGoodLines (segments ls).0 × AreGoodSegments (segments ls).1 →
        let p : List Line × List Segment = if b then ([], record { marker = l; lines = (segments ls).0; stop = first_marker (segments ls).1 } ∷ (segments ls).1) else (l ∷ (segments ls).0, (segments ls).1) in
        AreGoodLines p.0 × AreGoodSegments p.1
    go true e g = (tt, (record { text = utf8_marker l e h.0; lines = g.0 }, g.1))
    go false e g = ((h.0, g.0), g.1)

abbrev pub DocumentsHeld : Documents → Type 0
DocumentsHeld ds = AreHeld ds.items

abbrev Explicit : Type 0
Explicit = Note × Found × List Comment

abbrev GoodExplicit : Explicit → Type 0
GoodExplicit d = IsScalar (key_of d.0) × GoodFound d.1

good_document : (rs : List Row) → AreGoodRows rs → IfOk (document_content rs) GoodFound
good_document rs h = good_content max_depth (Doc max_depth) (good_doc max_depth) rs h

good_marker : (s : Segment) → IsGoodSegment s → IsGoodRow (marker_row s)
unfolding AreGoodHeads
good_marker s g = record { heads = tt; text = skip_utf8 (drop 3 s.marker.text) g.text; below = g.lines }

good_behind : (s : Segment) (r : Row) → IsGoodSegment s → IsGoodRow r → AreGoodRows (rows_behind s r).0
unfolding AreGoodRows
good_behind s r g h = go (taken r)
  where
    go : (o : Outcome (ℕ × List Comment)) → AreGoodRows (elim o as (λ _. List Row × List Comment) [
      | Ok e ↦ (r ∷ (rows s.stop false e.0 0 e.1 s.lines).0, (rows s.stop false e.0 0 e.1 s.lines).1)
      | Err e ↦ (r ∷ [], [])
    ]).0
    go (Ok e) = (h, good_rows s.stop false e.0 0 e.1 s.lines g.lines)
    go (Err e) = (h, tt)

good_explicit : (before : List Comment) (s : Segment) → IsGoodSegment s → IfOk (explicit before s) GoodExplicit
unfolding explicit
good_explicit before s g =
    yielded_either _ (has_value (marker_row s)) _ _
    (yielded_then GoodFound _ (document_content _) _ (good_document _ (good_behind s (marker_row s) g (good_marker s g))) (λ f p. (tt, p)))
    (yielded_then GoodFound _ (document_content _) _ (good_document _ (good_rows s.stop false 0 0 [] s.lines g.lines)) (λ f p. (tt, p)))

good_documents : (is_closed : Bool) (before : List Comment) (ss : List Segment) → AreGoodSegments ss → IfOk (documents is_closed before ss) DocumentsHeld
unfolding documents AreGoodSegments
good_documents is_closed before [] h = tt
good_documents is_closed before (s ∷ ss) h =
    yielded_either _ (is_start s.marker) _ _
    (yielded_then GoodExplicit _ (explicit before s) _ (good_explicit before s h.0) (λ d p.
    yielded_then DocumentsHeld _ (documents false d.2 ss) _ (good_documents false d.2 ss h.1) (λ ds q. (p.0, p.1, q))))
    (yielded_either _ is_closed _ _ tt (yielded_behind _ (ended s) _ (λ cs. good_documents true (before ++ cs) ss h.1)))

good_implicit : (front : List Line) (ss : List Segment) → AreGoodLines front → AreGoodSegments ss → IfOk (implicit front ss) DocumentsHeld
unfolding implicit
good_implicit front ss g h =
    yielded_option _ (first_content front) _ _ (good_documents false (comments_of front) ss h) (λ l.
    yielded_either _ (first l.text == percent) _ _ tt
    (yielded_then GoodFound _ (document_content _) _ (good_document _ (good_rows (first_marker ss) true 0 0 [] front g)) (λ f p.
    yielded_then DocumentsHeld _ (documents false _ ss) _ (good_documents false _ ss h) (λ ds q. (tt, p, q)))))

pub good_read : (file : ℕ) (bytes : List ℕ) → IfOk (Read file bytes) DocumentsHeld
unfolding Read
good_read file bytes =
    yielded_then AreGoodLines _ (Lines file bytes) _ (good_lines file bytes) (λ ls h. let s = good_segments ls h in good_implicit (segments ls).0 (segments ls).1 s.0 s.1)

-- ---- keys

either_none : (a b : Option Note) → or_else a b ≡ None → (a ≡ None) × (b ≡ None)
either_none None b e = (refl, e)
either_none (Some n) b e = cc

among_parts : (b : Bool) (n : Note) (x : Option Note) → elim b as (λ _. Option Note) [ true ↦ Some n | false ↦ x ] ≡ None → (b ≡ false) × (x ≡ None)
among_parts true n x e = cc
among_parts false n x e = (refl, e)

-- keys that are new among these with one more are new among these, and that one is not among them
new_parts : (k : Scalar) (ks ls : List Scalar) → AllNew (k ∷ ks) ls → (has_key k ls ≡ false) × AllNew ks ls
unfolding AllNew
new_parts k ks [] h = (refl, tt)
new_parts k ks (l ∷ ls) h =
    let p = or_parts (same_key l k) (has_key l ks) h.0 in
    let q = new_parts k ks ls h.1 in
    (or_from (same_key k l) (has_key k ls) (same_key-sym k l ∙ p.0) q.0, (p.1, q.1))

mutual
  unfolding AllNew

  tree_held : (c : Content) → Held c → twice c ≡ None → IsTree (bare_tree c)
  tree_held (noted_scalar t) h e = h
  tree_held (noted_list is) h e = trees_held is h e
  tree_held (noted_map is) h e = (pairs_held [] is h e).0

  trees_held : (is : Items) → AreHeld is → twice_below is ≡ None → AreTrees (bare_trees is)
  trees_held no_items h e = tt
  trees_held (item n c is) h e = let p = either_none (twice c) (twice_below is) e in (tree_held c h.1 p.0, trees_held is h.2 p.1)

  pairs_held : (ks : List Scalar) (is : Items) → AreHeld is → twice_among ks is ≡ None → ArePairs (bare_pairs is) × AllNew ks (keys (bare_pairs is))
  pairs_held ks no_items h e = (tt, tt)
  pairs_held ks (item n c is) h e =
      let p = among_parts (has_key (key_of n) ks) n (or_else (twice c) (twice_among (key_of n ∷ ks) is)) e in
      let q = either_none (twice c) (twice_among (key_of n ∷ ks) is) p.1 in
      let r = pairs_held (key_of n ∷ ks) is h.2 q.1 in
      let s = new_parts (key_of n) ks (keys (bare_pairs is)) r.1 in
      ((h.0, tree_held c h.1 q.0, s.0, r.0), (p.0, s.1))

-- ---- trees

abbrev AreRead : Documents → Type 0
AreRead ds = AreTrees (bare_trees ds.items)

distinct_held : (ds : Documents) → DocumentsHeld ds → IfOk (distinct ds) AreRead
unfolding distinct
distinct_held ds h = go (twice_below ds.items) refl
  where
    go : (o : Option Note) → twice_below ds.items ≡ o → IfOk (elim o as (λ _. Outcome Documents) [
      | Some n ↦ Err (record { kind = kind.KeyTwice; place = Some n.place; detail = key_text (key_of n) })
      | None ↦ Ok ds
    ]) AreRead
    go None e = trees_held ds.items h e
    go (Some n) e = tt

drop_trees : (ts : Trees) → AreTrees ts → AreTrees (drop_null ts)
drop_trees no_trees h = tt
drop_trees (tree t ts) h = go (is_null t) (drop_trees ts h.1)
  where
    go : (b : Bool) → AreTrees (drop_null ts) → AreTrees (elim b as (λ _. Trees) [ true ↦ drop_null ts | false ↦ tree t (drop_null ts) ])
    go true m = m
    go false m = (h.0, m)

-- what is read is what the program holds
pub reads_trees : (file : ℕ) (bytes : List ℕ) (ts : Trees) → read_trees file bytes ≡ Ok ts → AreTrees ts
unfolding read_trees
reads_trees file bytes ts e =
    IfOk-at_ok AreTrees e (yielded_then DocumentsHeld AreTrees (Read file bytes) _ (good_read file bytes) (λ ds p.
    yielded_then AreRead AreTrees (distinct ds) _ (distinct_held ds p) (λ es q. drop_trees (bare_trees es.items) q)))
