-- What is read nests at most 100 collections, and no document of it is null.
use Rattle.ytt_base.specs.declared.fault.Place.{Place}
use Rattle.std.proofs.Common.{◌≡◌, ℕ, zero, suc, ◌≤◌, Bool, true, false, not, ◌&&◌, ◌||◌, ◌==◌, List, [], ◌∷◌, ◌++◌, Option, Some, None, Ok, Err, refl, arith, if◌then◌else◌}
use Rattle.std.specs.Prelude.{nat_lt, length}
use Rattle.yaml_spec.specs.Bytes.{percent, hash, bar, greater, comma, left_bracket, right_bracket, left_brace, right_brace, first, is_empty, skip_white}
use Rattle.ytt_base.specs.Outcomes.{Outcome}
use Rattle.ytt_base.specs.Trees.{Trees, no_trees, tree, depth, trees_depth, pairs_depth, max_depth, is_null, Writable}
use Rattle.yaml_spec.specs.Quotes.{Cursor, after, Quote, starts_quote}
use Rattle.yaml_spec.specs.Noted.{Comment, Note, Content, noted_list, noted_map, Items, Documents, bare_tree, bare_trees, bare_pairs, drop_null, is_note}
use Rattle.yaml_spec.specs.Flow.{Node, Members, elements, pairs, pair_value, value_behind, Flow_key, flow, flow_scalar, starts_collection, size, flow_key, next_token, is_single_pair, is_key_end}
use Rattle.yaml_spec.specs.Values.{Value, value, ended, noted, has_stray_note}
use Rattle.yaml_spec.specs.Rows.{Mark, dash_mark, key_mark, Head, Row, has_value, row_value, owner_of, passing}
use Rattle.yaml_spec.specs.Blocks.{header_rest, Block}
use Rattle.yaml_spec.specs.Plain.{plain_lines, typed}
use Rattle.yaml_spec.specs.Lines.{Line, Lines}
use Rattle.ytt_base.specs.declared.fault.FaultKind.TheVariants as kind
use Rattle.yaml_spec.specs.Noted.{twice_below, key_of}
use Rattle.yaml_spec.specs.Text.{key_text}
use Rattle.yaml_spec.specs.Read.{Segment, first_content, document_content, marker_row, is_start, segments, comments_of, explicit, ended as read_ended, documents, implicit, Read, distinct, read_trees}
use Rattle.yaml_spec.specs.Entries.{Entry, is_dash_mark, starts_with_dash, cut_block, over, behind_head, Found, content_of, entry_content, entry, entry_at, entries, Doc}
use Rattle.std.specs.Result.{IfOk}
use Rattle.std.proofs.lemmas.Result.{IfOk-at_ok}
use Rattle.ytt_laws.proofs.Yielded.{yielded_behind, yielded_either, yielded_if, yielded_option, yielded_then}

-- ---- in brackets

abbrev NodeIn : ℕ → Node → Type 0
NodeIn left m = depth (bare_tree m.0) ≤ left

abbrev ListIn : ℕ → Members → Type 0
ListIn left m = trees_depth (bare_trees m.0) ≤ left

abbrev MapIn : ℕ → Members → Type 0
MapIn left m = pairs_depth (bare_pairs m.0) ≤ left

module _ (left : ℕ) (open_place : Place) (read : List Comment → Cursor → Outcome Node) (h : (cs : List Comment) (c : Cursor) → IfOk (read cs c) (NodeIn left)) where
  shallow_elements : (n : ℕ) (cs : List Comment) (c : Cursor) → IfOk (elements open_place read n cs c) (ListIn left)
  unfolding elements
  shallow_elements zero cs c = tt
  shallow_elements (suc n) cs c =
      yielded_behind _ (next_token open_place c) _ (λ g.
      yielded_either _ (first g.1.text == right_bracket) _ _ (omega arith)
      (yielded_then (NodeIn left) _ (read [] g.1) _ (h [] g.1) (λ m p.
      yielded_either _ (is_single_pair g.1 m.2) _ _ tt
      (yielded_behind _ (next_token open_place m.2) _ (λ e.
      yielded_either _ (first e.1.text == comma) _ _
      (yielded_then (ListIn left) _ (elements open_place read n (m.1 ++ e.0) (after 1 e.1)) _ (shallow_elements n (m.1 ++ e.0) (after 1 e.1)) (λ x q. omega arith))
      (yielded_either _ (first e.1.text == right_bracket) _ _ (omega arith) tt))))))

  shallow_pair_value : (cs : List Comment) (c : Cursor) → IfOk (pair_value open_place read cs c) (NodeIn left)
  unfolding pair_value
  shallow_pair_value cs c =
      yielded_behind _ (next_token open_place c) _ (λ g.
      yielded_either _ (first g.1.text == comma || first g.1.text == right_brace) _ _ (omega arith) (h (cs ++ g.0) g.1))

  shallow_value_behind : (k : Flow_key) (c : Cursor) → IfOk (value_behind open_place read k c) (NodeIn left)
  shallow_value_behind k c =
      yielded_behind _ (next_token open_place (record c { text = k.1 })) _ (λ g.
      yielded_either _ (is_key_end k.2 g.1.text) _ _ (shallow_pair_value g.0 (after 1 g.1)) (omega arith))

  shallow_pairs : (n : ℕ) (cs : List Comment) (c : Cursor) → IfOk (pairs open_place read n cs c) (MapIn left)
  unfolding pairs
  shallow_pairs zero cs c = tt
  shallow_pairs (suc n) cs c =
      yielded_behind _ (next_token open_place c) _ (λ g.
      yielded_either _ (first g.1.text == right_brace) _ _ (omega arith)
      (yielded_behind _ (flow_key g.1) _ (λ k.
      yielded_then (NodeIn left) _ (value_behind open_place read k g.1) _ (shallow_value_behind k g.1) (λ m p.
      yielded_behind _ (next_token open_place m.2) _ (λ e.
      yielded_either _ (first e.1.text == comma) _ _
      (yielded_then (MapIn left) _ (pairs open_place read n (m.1 ++ e.0) (after 1 e.1)) _ (shallow_pairs n (m.1 ++ e.0) (after 1 e.1)) (λ x q. omega arith))
      (yielded_either _ (first e.1.text == right_brace) _ _ (omega arith) tt))))))

shallow_scalar : (left : ℕ) (open_place : Place) (cs : List Comment) (c : Cursor) → IfOk (flow_scalar open_place cs c) (NodeIn left)
unfolding flow_scalar
shallow_scalar left open_place cs c =
    yielded_either _ (starts_quote c.text) _ _ (yielded_behind _ (Quote open_place c) _ (λ q. omega arith)) (yielded_behind _ (plain_lines true 0 c) _ (λ s. omega arith))

shallow_flow : (left : ℕ) (open_place : Place) (cs : List Comment) (c : Cursor) → IfOk (flow left open_place cs c) (NodeIn left)
unfolding flow
shallow_flow zero open_place cs c = yielded_either _ (starts_collection c.text) _ _ tt (shallow_scalar zero open_place cs c)
shallow_flow (suc left) open_place cs c =
    yielded_either _ (first c.text == left_bracket) _ _
    (yielded_then (ListIn left) _ _ _ (shallow_elements left open_place (flow left open_place) (shallow_flow left open_place) (size c) cs (after 1 c)) (λ m p. omega arith))
    (yielded_either _ (first c.text == left_brace) _ _
    (yielded_then (MapIn left) _ _ _ (shallow_pairs left open_place (flow left open_place) (shallow_flow left open_place) (size c) cs (after 1 c)) (λ m p. omega arith))
    (shallow_scalar (suc left) open_place cs c))

-- ---- values

abbrev ValueIn : ℕ → Value → Type 0
ValueIn left v = depth (bare_tree v.content) ≤ left

shallow_noted : (left : ℕ) (is_owned : Bool) (c : Content) (loose : List Comment) (p : Place) (last : ℕ) (text : List ℕ) → depth (bare_tree c) ≤ left → IfOk (noted is_owned c loose p last text) (ValueIn left)
unfolding noted
shallow_noted left is_owned c loose p last text h =
    yielded_if _ (is_empty text) _ _ (λ _. h) (λ _. yielded_if _ is_owned _ _ (λ _. h) (λ _. yielded_if _ (is_note text) _ _ (λ _. tt) (λ _. h)))

shallow_ended : (left owner : ℕ) (c : Content) (loose : List Comment) (end : Cursor) → depth (bare_tree c) ≤ left → IfOk (ended owner c loose end) (ValueIn left)
unfolding ended
shallow_ended left owner c loose end h =
    yielded_if _ (is_empty (skip_white end.text) || (first (skip_white end.text) == hash && nat_lt (length (skip_white end.text)) (length end.text))) _ _
    (λ _. shallow_noted left (end.place.line == owner) c loose end.place end.place.line (skip_white end.text) h) (λ _. tt)

shallow_value : (left : ℕ) (open_place : Place) (least owner : ℕ) (cs : List Comment) (c : Cursor) → IfOk (value left open_place least owner cs c) (ValueIn left)
unfolding value
shallow_value left open_place least owner cs c =
    yielded_either _ (starts_collection c.text) _ _
    (yielded_then (NodeIn left) _ (flow left open_place cs c) _ (shallow_flow left open_place cs c) (λ m p. shallow_ended left owner m.0 m.1 m.2 p))
    (yielded_either _ (starts_quote c.text) _ _
    (yielded_behind _ (Quote open_place c) _ (λ q. shallow_ended left owner _ cs q.1 (omega arith)))
    (yielded_either _ (first c.text == bar || first c.text == greater) _ _
    (yielded_either _ (has_stray_note (c.place.line == owner) (header_rest c.text)) _ _ tt
    (yielded_behind _ (Block least c) _ (λ b. shallow_noted left (c.place.line == owner) _ cs c.place b.2.place.line b.1 (omega arith))))
    (yielded_behind _ (plain_lines false least c) _ (λ s. shallow_ended left owner _ cs s.1 (omega arith)))))

shallow_row : (left : ℕ) (r : Row) → IfOk (row_value left r) (ValueIn left)
shallow_row left r = shallow_value left r.open_place r.least (owner_of r) (passing r) (record { place = r.place; text = r.text; below = r.below })

-- ---- blocks

abbrev pub ContentIn : ℕ → Content → Type 0
ContentIn left c = depth (bare_tree c) ≤ left

abbrev FoundIn : ℕ → Found → Type 0
FoundIn left f = depth (bare_tree f.0) ≤ left

abbrev EntryIn : ℕ → Note × Content → Type 0
EntryIn left x = depth (bare_tree x.1) ≤ left

record ItemsIn (left : ℕ) (is : Items) : Type 0 where
  as_list : trees_depth (bare_trees is) ≤ left
  as_map : pairs_depth (bare_pairs is) ≤ left

yielded_over : {A : Type 0} (P : A → Type 0) (x : A) (rs : List Row) → P x → IfOk (over x rs) P
yielded_over P x [] p = p
yielded_over P x (r ∷ rs) p = tt

yielded_heads : {A : Type 0} (P : A → Type 0) (hs : List Head) (o : Outcome A) (f : Head → List Head → Outcome A) → IfOk o P → ((h : Head) (hs : List Head) → IfOk (f h hs) P) →
    IfOk (elim hs as (λ _. Outcome A) [ [] ↦ o | h ∷ hs ↦ f h hs ]) P
yielded_heads P [] o f p q = p
yielded_heads P (h ∷ hs) o f p q = q h hs

module _ (left : ℕ) (block : ℕ → Row → List Row → Outcome Content) (b : (n : ℕ) (r : Row) (rs : List Row) → IfOk (block n r rs) (ContentIn left)) where
  shallow_content : (rs : List Row) → IfOk (content_of left block rs) (FoundIn left)
  unfolding content_of
  shallow_content [] = (omega arith)
  shallow_content (r ∷ rs) =
      yielded_heads _ r.heads _ _
      (yielded_then (ValueIn left) _ (row_value left r) _ (shallow_row left r) (λ v p. yielded_over _ (v.content, v.trailing) rs p))
      (λ h hs. yielded_then (ContentIn left) _ (block r.indent r rs) _ (b r.indent r rs) (λ c p. p))

  shallow_entry_content : (r : Row) (body : List Row) → IfOk (entry_content left block r body) (FoundIn left)
  unfolding entry_content
  shallow_entry_content r body =
      yielded_either _ (has_value r) _ _
      (yielded_then (ValueIn left) _ (row_value left r) _ (shallow_row left r) (λ v p. yielded_over _ (v.content, v.trailing) body p))
      (yielded_then (FoundIn left) _ (content_of left block body) _ (shallow_content body) (λ f p. p))

  shallow_entry : (r : Row) (m : Mark) (hs : List Head) (body : List Row) → IfOk (entry left block r m hs body) (EntryIn left)
  unfolding entry
  shallow_entry r (key_mark k) hs body =
      yielded_behind _ (typed r.place k) _ (λ s. yielded_then (FoundIn left) _ (entry_content left block r body) _ (shallow_entry_content r body) (λ f p. p))
  shallow_entry r dash_mark [] body = yielded_then (FoundIn left) _ (entry_content left block r body) _ (shallow_entry_content r body) (λ f p. p)
  shallow_entry r dash_mark (h ∷ hs) body =
      yielded_then (ContentIn left) _ (block h.column (behind_head h.column (h ∷ hs) r) body) _ (b h.column (behind_head h.column (h ∷ hs) r) body) (λ c p. p)

  shallow_at : (is_list : Bool) (n : ℕ) (e : Entry) → IfOk (entry_at left block is_list n e) (EntryIn left)
  unfolding entry_at
  shallow_at is_list n e =
      yielded_heads _ e.row.heads _ _ tt (λ h hs.
      yielded_either _ (not h.has_tab && e.row.indent == n && ((is_list && is_dash_mark h.mark) || (not is_list && not (is_dash_mark h.mark)))) _ _
      (shallow_entry e.row h.mark hs e.body) tt)

  shallow_entries : (is_list : Bool) (n : ℕ) (es : List Entry) → IfOk (entries left block is_list n es) (ItemsIn left)
  unfolding entries
  shallow_entries is_list n [] = (record { as_list = omega arith; as_map = omega arith })
  shallow_entries is_list n (e ∷ es) =
      yielded_then (EntryIn left) _ (entry_at left block is_list n e) _ (shallow_at is_list n e) (λ i p.
      yielded_then (ItemsIn left) _ (entries left block is_list n es) _ (shallow_entries is_list n es) (λ is q.
      (record { as_list = (let a = q.as_list in omega arith); as_map = (let a = q.as_map in omega arith) })))

either_depth : (left : ℕ) (b : Bool) (is : Items) → ItemsIn left is → depth (bare_tree (if b then noted_list is else noted_map is)) ≤ suc left
either_depth left true is h = let a = h.as_list in omega arith
either_depth left false is h = let a = h.as_map in omega arith

pub shallow_doc : (left n : ℕ) (r : Row) (rs : List Row) → IfOk (Doc left n r rs) (ContentIn left)
unfolding Doc
shallow_doc zero n r rs = tt
shallow_doc (suc left) n r rs =
    yielded_then (ItemsIn left) (ContentIn (suc left)) (entries left (Doc left) (starts_with_dash r) n (cut_block (starts_with_dash r) n r rs)) _
    (shallow_entries left (Doc left) (shallow_doc left) (starts_with_dash r) n (cut_block (starts_with_dash r) n r rs))
    (either_depth left (starts_with_dash r))

-- ---- documents

-- no document nests deeper than it may
abbrev pub DocumentsShallow : Documents → Type 0
DocumentsShallow ds = trees_depth (bare_trees ds.items) ≤ max_depth

abbrev Explicit : Type 0
Explicit = Note × Found × List Comment

shallow_document : (rs : List Row) → IfOk (document_content rs) (FoundIn max_depth)
shallow_document rs = shallow_content max_depth (Doc max_depth) (shallow_doc max_depth) rs

shallow_explicit : (before : List Comment) (s : Segment) → IfOk (explicit before s) (λ (d : Explicit). FoundIn max_depth d.1)
unfolding explicit
shallow_explicit before s =
    yielded_either _ (has_value (marker_row s)) _ _
    (yielded_then (FoundIn max_depth) _ (document_content _) _ (shallow_document _) (λ f p. p))
    (yielded_then (FoundIn max_depth) _ (document_content _) _ (shallow_document _) (λ f p. p))

shallow_documents : (is_closed : Bool) (before : List Comment) (ss : List Segment) → IfOk (documents is_closed before ss) DocumentsShallow
unfolding documents
shallow_documents is_closed before [] = (omega arith)
shallow_documents is_closed before (s ∷ ss) =
    yielded_either _ (is_start s.marker) _ _
    (yielded_then (λ (d : Explicit). FoundIn max_depth d.1) _ (explicit before s) _ (shallow_explicit before s) (λ d p.
    yielded_then DocumentsShallow _ (documents false d.2 ss) _ (shallow_documents false d.2 ss) (λ ds q. omega arith)))
    (yielded_either _ is_closed _ _ tt (yielded_behind _ (read_ended s) _ (λ cs. shallow_documents true (before ++ cs) ss)))

shallow_implicit : (front : List Line) (ss : List Segment) → IfOk (implicit front ss) DocumentsShallow
unfolding implicit
shallow_implicit front ss =
    yielded_option _ (first_content front) _ _ (shallow_documents false (comments_of front) ss) (λ l.
    yielded_either _ (first l.text == percent) _ _ tt
    (yielded_then (FoundIn max_depth) _ (document_content _) _ (shallow_document _) (λ f p.
    yielded_then DocumentsShallow _ (documents false _ ss) _ (shallow_documents false _ ss) (λ ds q. omega arith))))

pub shallow_read : (file : ℕ) (bytes : List ℕ) → IfOk (Read file bytes) DocumentsShallow
unfolding Read
shallow_read file bytes = yielded_behind _ (Lines file bytes) _ (λ ls. shallow_implicit (segments ls).0 (segments ls).1)

drop_writable : (ts : Trees) → trees_depth ts ≤ max_depth → Writable (drop_null ts)
drop_writable no_trees h = tt
drop_writable (tree t ts) h = go (omega arith) (drop_writable ts (omega arith)) (is_null t) refl
  where
    go : depth t ≤ max_depth → Writable (drop_null ts) → (b : Bool) → is_null t ≡ b → Writable (elim b as (λ _. Trees) [ true ↦ drop_null ts | false ↦ tree t (drop_null ts) ])
    go l h true e = h
    go l h false e = (e, l, h)

shallow_distinct : (ds : Documents) → DocumentsShallow ds → IfOk (distinct ds) DocumentsShallow
unfolding distinct
shallow_distinct ds h = go (twice_below ds.items)
  where
    go : (o : Option Note) → IfOk (elim o as (λ _. Outcome Documents) [
      | Some n ↦ Err (record { kind = kind.KeyTwice; place = Some n.place; detail = key_text (key_of n) })
      | None ↦ Ok ds
    ]) DocumentsShallow
    go None = h
    go (Some n) = tt

-- what is read has a text
pub reads_writable : (file : ℕ) (bytes : List ℕ) (ts : Trees) → read_trees file bytes ≡ Ok ts → Writable ts
unfolding read_trees
reads_writable file bytes ts e =
    IfOk-at_ok Writable e (yielded_then DocumentsShallow Writable (Read file bytes) _ (shallow_read file bytes) (λ ds p.
    yielded_then DocumentsShallow Writable (distinct ds) _ (shallow_distinct ds p) (λ ds q. drop_writable (bare_trees ds.items) q)))
