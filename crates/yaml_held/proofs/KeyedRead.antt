-- What is read of a text has keys in maps, and nowhere else.
use Rattle.std.proofs.Common.{ℕ, zero, suc, Bool, true, false, not, ◌&&◌, ◌||◌, ◌==◌, List, [], ◌∷◌, ◌++◌, length, refl, if◌then◌else◌}
use Rattle.std.specs.Prelude.{◌≡◌, is_some, nat_lt}
use Rattle.std.specs.Result.{IfOk}
use Rattle.ytt_base.specs.declared.fault.Place.{Place}
use Rattle.ytt_base.specs.Outcomes.{Outcome}
use Rattle.ytt_base.specs.Trees.{max_depth}
use Rattle.ytt_laws.proofs.Yielded.{yielded_behind, yielded_either, yielded_if, yielded_option, yielded_test, yielded_then}
use Rattle.yaml_spec.specs.Bytes.{percent, hash, bar, greater, comma, left_bracket, left_brace, right_bracket, right_brace, first, is_empty, skip_white}
use Rattle.yaml_spec.specs.Lines.{Line, Lines}
use Rattle.yaml_spec.specs.Noted.{Comment, Note, Content, noted_list, noted_map, Items, is_note}
use Rattle.yaml_spec.specs.Quotes.{Cursor, after, Quote, starts_quote}
use Rattle.yaml_spec.specs.Blocks.{header_rest, Block}
use Rattle.yaml_spec.specs.Plain.{plain_lines, typed}
use Rattle.yaml_spec.specs.Flow.{next_token, Node, Members, starts_collection, is_key_end, is_single_pair, Flow_key, flow_key, elements, pair_value, value_behind, pairs, size, flow_scalar, flow}
use Rattle.yaml_spec.specs.Values.{Value, noted, ended, has_stray_note, value}
use Rattle.yaml_spec.specs.Rows.{Mark, dash_mark, key_mark, Head, Row, has_value, owner_of, passing, row_value, rows}
use Rattle.yaml_spec.specs.Entries.{Entry, Found, is_dash_mark, starts_with_dash, cut_block, over, behind_head, content_of, entry_content, entry, entry_at, entries, Doc}
use Rattle.yaml_spec.specs.Read.{Segment, is_start, segments, first_marker, first_content, document_content, marker_row, rows_behind, comments_of, explicit, ended as read_ended, documents, implicit, Read}
use Rattle.yaml_held.specs.Keyed.{KeyedItems, KeyedContent, KeyedDocuments}

-- ---- in brackets

abbrev KeyedNode : Node → Type 0
KeyedNode m = KeyedContent m.0

abbrev KeyedMembers : (in_a_map : Bool) → Members → Type 0
KeyedMembers b m = KeyedItems b m.0

module _ (opening : Place) (read : List Comment → Cursor → Outcome Node) (h : (cs : List Comment) (c : Cursor) → IfOk (read cs c) KeyedNode) where
  keyed_elements : (n : ℕ) (cs : List Comment) (c : Cursor) → IfOk (elements opening read n cs c) (KeyedMembers false)
  unfolding elements
  keyed_elements zero cs c = tt
  keyed_elements (suc n) cs c =
      yielded_behind _ (next_token opening c) _ (λ a.
      yielded_either _ (first a.1.text == right_bracket) _ _ tt
      (yielded_then KeyedNode _ (read [] a.1) _ (h [] a.1) (λ m q.
      yielded_either _ (is_single_pair a.1 m.2) _ _ tt
      (yielded_behind _ (next_token opening m.2) _ (λ e.
      yielded_either _ (first e.1.text == comma) _ _
      (yielded_then (KeyedMembers false) _ (elements opening read n (m.1 ++ e.0) (after 1 e.1)) _ (keyed_elements n (m.1 ++ e.0) (after 1 e.1)) (λ x s. (refl, q, s)))
      (yielded_either _ (first e.1.text == right_bracket) _ _ (refl, q, tt) tt))))))

  keyed_pair_value : (cs : List Comment) (c : Cursor) → IfOk (pair_value opening read cs c) KeyedNode
  unfolding pair_value
  keyed_pair_value cs c =
      yielded_behind _ (next_token opening c) _ (λ a. yielded_either _ (first a.1.text == comma || first a.1.text == right_brace) _ _ tt (h (cs ++ a.0) a.1))

  keyed_value_behind : (k : Flow_key) (c : Cursor) → IfOk (value_behind opening read k c) KeyedNode
  keyed_value_behind k c =
      yielded_behind _ (next_token opening (record c { text = k.1 })) _ (λ a. yielded_either _ (is_key_end k.2 a.1.text) _ _ (keyed_pair_value a.0 (after 1 a.1)) tt)

  keyed_pairs : (n : ℕ) (cs : List Comment) (c : Cursor) → IfOk (pairs opening read n cs c) (KeyedMembers true)
  unfolding pairs
  keyed_pairs zero cs c = tt
  keyed_pairs (suc n) cs c =
      yielded_behind _ (next_token opening c) _ (λ a.
      yielded_either _ (first a.1.text == right_brace) _ _ tt
      (yielded_behind _ (flow_key a.1) _ (λ k.
      yielded_then KeyedNode _ (value_behind opening read k a.1) _ (keyed_value_behind k a.1) (λ m r.
      yielded_behind _ (next_token opening m.2) _ (λ e.
      yielded_either _ (first e.1.text == comma) _ _
      (yielded_then (KeyedMembers true) _ (pairs opening read n (m.1 ++ e.0) (after 1 e.1)) _ (keyed_pairs n (m.1 ++ e.0) (after 1 e.1)) (λ x t. (refl, r, t)))
      (yielded_either _ (first e.1.text == right_brace) _ _ (refl, r, tt) tt))))))

keyed_flow_scalar : (opening : Place) (cs : List Comment) (c : Cursor) → IfOk (flow_scalar opening cs c) KeyedNode
unfolding flow_scalar
keyed_flow_scalar opening cs c =
    yielded_either _ (starts_quote c.text) _ _ (yielded_behind _ (Quote opening c) _ (λ q. tt)) (yielded_behind _ (plain_lines true 0 c) _ (λ s. tt))

keyed_flow : (left : ℕ) (opening : Place) (cs : List Comment) (c : Cursor) → IfOk (flow left opening cs c) KeyedNode
unfolding flow
keyed_flow zero opening cs c = yielded_either _ (starts_collection c.text) _ _ tt (keyed_flow_scalar opening cs c)
keyed_flow (suc left) opening cs c =
    yielded_either _ (first c.text == left_bracket) _ _
    (yielded_then (KeyedMembers false) _ _ _ (keyed_elements opening (flow left opening) (keyed_flow left opening) (size c) cs (after 1 c)) (λ m p. p))
    (yielded_either _ (first c.text == left_brace) _ _
    (yielded_then (KeyedMembers true) _ _ _ (keyed_pairs opening (flow left opening) (keyed_flow left opening) (size c) cs (after 1 c)) (λ m p. p))
    (keyed_flow_scalar opening cs c))

-- ---- values

abbrev KeyedValue : Value → Type 0
KeyedValue v = KeyedContent v.content

keyed_noted : (is_owned : Bool) (c : Content) (loose : List Comment) (p : Place) (last : ℕ) (text : List ℕ) → KeyedContent c → IfOk (noted is_owned c loose p last text) KeyedValue
unfolding noted
keyed_noted is_owned c loose p last text h =
    yielded_if _ (is_empty text) _ _ (λ _. h) (λ _. yielded_if _ is_owned _ _ (λ _. h) (λ _. yielded_if _ (is_note text) _ _ (λ _. tt) (λ _. h)))

keyed_ended : (owner : ℕ) (c : Content) (loose : List Comment) (end : Cursor) → KeyedContent c → IfOk (ended owner c loose end) KeyedValue
unfolding ended
keyed_ended owner c loose end h =
    yielded_if _ (is_empty (skip_white end.text) || (first (skip_white end.text) == hash && nat_lt (length (skip_white end.text)) (length end.text))) _ _
    (λ _. keyed_noted (end.place.line == owner) c loose end.place end.place.line (skip_white end.text) h) (λ _. tt)

keyed_value : (left : ℕ) (opening : Place) (least owner : ℕ) (cs : List Comment) (c : Cursor) → IfOk (value left opening least owner cs c) KeyedValue
unfolding value
keyed_value left opening least owner cs c =
    yielded_either _ (starts_collection c.text) _ _
    (yielded_then KeyedNode _ (flow left opening cs c) _ (keyed_flow left opening cs c) (λ m p. keyed_ended owner m.0 m.1 m.2 p))
    (yielded_either _ (starts_quote c.text) _ _
    (yielded_behind _ (Quote opening c) _ (λ q. keyed_ended owner _ cs q.1 tt))
    (yielded_either _ (first c.text == bar || first c.text == greater) _ _
    (yielded_either _ (has_stray_note (c.place.line == owner) (header_rest c.text)) _ _ tt
    (yielded_behind _ (Block least c) _ (λ b. keyed_noted (c.place.line == owner) _ cs c.place b.2.place.line b.1 tt)))
    (yielded_behind _ (plain_lines false least c) _ (λ s. keyed_ended owner _ cs s.1 tt))))

keyed_row_value : (left : ℕ) (r : Row) → IfOk (row_value left r) KeyedValue
keyed_row_value left r = keyed_value left r.open_place r.least (owner_of r) (passing r) (record { place = r.place; text = r.text; below = r.below })

-- ---- entries

abbrev KeyedFound : Found → Type 0
KeyedFound f = KeyedContent f.0

abbrev KeyedEntry : (in_a_map : Bool) → Note × Content → Type 0
KeyedEntry b x = (is_some x.0.key ≡ b) × KeyedContent x.1

keyed_over : (f : Found) (rs : List Row) → KeyedFound f → IfOk (over f rs) KeyedFound
keyed_over f [] h = h
keyed_over f (r ∷ rs) h = tt

keyed_by_heads : {A : Type 0} (P : A → Type 0) (hs : List Head) (o : Outcome A) (f : Head → List Head → Outcome A) → IfOk o P → ((h : Head) (hs : List Head) → IfOk (f h hs) P) →
    IfOk (elim hs as (λ _. Outcome A) [ [] ↦ o | h ∷ hs ↦ f h hs ]) P
keyed_by_heads P [] o f p q = p
keyed_by_heads P (h ∷ hs) o f p q = q h hs

-- an entry of a list begins with a dash, and one of a map doesn't
fitting : (is_list d t u : Bool) → (t && u && ((is_list && d) || (not is_list && not d))) ≡ true → not d ≡ not is_list
fitting true true t u e = refl
fitting true false true true e = cc e
fitting true false true false e = cc e
fitting true false false u e = cc e
fitting false true true true e = cc e
fitting false true true false e = cc e
fitting false true false u e = cc e
fitting false false t u e = refl

-- what reads a block
abbrev ReadsKeyed : (ℕ → Row → List Row → Outcome Content) → Type 0
ReadsKeyed block = (n : ℕ) (r : Row) (rs : List Row) → IfOk (block n r rs) KeyedContent

module _ (left : ℕ) (block : ℕ → Row → List Row → Outcome Content) (b : ReadsKeyed block) where
  keyed_content : (rs : List Row) → IfOk (content_of left block rs) KeyedFound
  unfolding content_of
  keyed_content [] = tt
  keyed_content (r ∷ rs) =
      keyed_by_heads _ r.heads _ _
      (yielded_then KeyedValue _ (row_value left r) _ (keyed_row_value left r) (λ v p. keyed_over (v.content, v.trailing) rs p))
      (λ i is. yielded_then KeyedContent _ (block r.indent r rs) _ (b r.indent r rs) (λ c p. p))

  keyed_entry_content : (r : Row) (body : List Row) → IfOk (entry_content left block r body) KeyedFound
  unfolding entry_content
  keyed_entry_content r body =
      yielded_either _ (has_value r) _ _
      (yielded_then KeyedValue _ (row_value left r) _ (keyed_row_value left r) (λ v p. keyed_over (v.content, v.trailing) body p))
      (yielded_then KeyedFound _ (content_of left block body) _ (keyed_content body) (λ f p. p))

  keyed_entry : (r : Row) (m : Mark) (hs : List Head) (body : List Row) → IfOk (entry left block r m hs body) (KeyedEntry (not (is_dash_mark m)))
  unfolding entry
  keyed_entry r (key_mark k) hs body =
      yielded_behind _ (typed r.place k) _ (λ s. yielded_then KeyedFound _ (entry_content left block r body) _ (keyed_entry_content r body) (λ f p. (refl, p)))
  keyed_entry r dash_mark [] body = yielded_then KeyedFound _ (entry_content left block r body) _ (keyed_entry_content r body) (λ f p. (refl, p))
  keyed_entry r dash_mark (x ∷ xs) body =
      yielded_then KeyedContent _ (block x.column (behind_head x.column (x ∷ xs) r) body) _ (b x.column (behind_head x.column (x ∷ xs) r) body) (λ c p. (refl, p))

  keyed_fitting : (is_list : Bool) (r : Row) (m : Mark) (hs : List Head) (body : List Row) → not (is_dash_mark m) ≡ not is_list → IfOk (entry left block r m hs body) (KeyedEntry (not is_list))
  keyed_fitting is_list r m hs body e = rw (← e) (keyed_entry r m hs body)

  keyed_entry_at : (is_list : Bool) (n : ℕ) (e : Entry) → IfOk (entry_at left block is_list n e) (KeyedEntry (not is_list))
  unfolding entry_at
  keyed_entry_at is_list n e =
      keyed_by_heads _ e.row.heads _ _ tt (λ x xs.
      yielded_test _ (not x.has_tab && e.row.indent == n && ((is_list && is_dash_mark x.mark) || (not is_list && not (is_dash_mark x.mark)))) _ _
      (λ t. keyed_fitting is_list e.row x.mark xs e.body (fitting is_list (is_dash_mark x.mark) (not x.has_tab) (e.row.indent == n) t)) (λ t. tt))

  keyed_entries : (is_list : Bool) (n : ℕ) (es : List Entry) → IfOk (entries left block is_list n es) (KeyedItems (not is_list))
  unfolding entries
  keyed_entries is_list n [] = tt
  keyed_entries is_list n (e ∷ es) =
      yielded_then (KeyedEntry (not is_list)) _ (entry_at left block is_list n e) _ (keyed_entry_at is_list n e) (λ i p.
      yielded_then (KeyedItems (not is_list)) _ (entries left block is_list n es) _ (keyed_entries is_list n es) (λ is q. (p.0, p.1, q)))

either_keyed : (b : Bool) (is : Items) → KeyedItems (not b) is → KeyedContent (if b then noted_list is else noted_map is)
either_keyed true is h = h
either_keyed false is h = h

keyed_doc : (left : ℕ) → ReadsKeyed (Doc left)
unfolding Doc
keyed_doc zero n r rs = tt
keyed_doc (suc left) n r rs =
    yielded_then (KeyedItems (not (starts_with_dash r))) KeyedContent (entries left (Doc left) (starts_with_dash r) n (cut_block (starts_with_dash r) n r rs)) _
    (keyed_entries left (Doc left) (keyed_doc left) (starts_with_dash r) n (cut_block (starts_with_dash r) n r rs))
    (either_keyed (starts_with_dash r))

-- ---- documents

abbrev Explicit : Type 0
Explicit = Note × Found × List Comment

abbrev KeyedExplicit : Explicit → Type 0
KeyedExplicit d = (is_some d.0.key ≡ false) × KeyedFound d.1

keyed_document : (rs : List Row) → IfOk (document_content rs) KeyedFound
keyed_document rs = keyed_content max_depth (Doc max_depth) (keyed_doc max_depth) rs

keyed_explicit : (before : List Comment) (s : Segment) → IfOk (explicit before s) KeyedExplicit
unfolding explicit
keyed_explicit before s =
    yielded_either _ (has_value (marker_row s)) _ _
    (yielded_then KeyedFound _ (document_content (rows_behind s (marker_row s)).0) _ (keyed_document (rows_behind s (marker_row s)).0) (λ f p. (refl, p)))
    (yielded_then KeyedFound _ (document_content (rows s.stop false 0 0 [] s.lines).0) _ (keyed_document (rows s.stop false 0 0 [] s.lines).0) (λ f p. (refl, p)))

keyed_documents : (is_closed : Bool) (before : List Comment) (ss : List Segment) → IfOk (documents is_closed before ss) KeyedDocuments
unfolding documents
keyed_documents is_closed before [] = tt
keyed_documents is_closed before (s ∷ ss) =
    yielded_either _ (is_start s.marker) _ _
    (yielded_then KeyedExplicit _ (explicit before s) _ (keyed_explicit before s) (λ d p.
    yielded_then KeyedDocuments _ (documents false d.2 ss) _ (keyed_documents false d.2 ss) (λ ds q. (p.0, p.1, q))))
    (yielded_either _ is_closed _ _ tt (yielded_behind _ (read_ended s) _ (λ cs. keyed_documents true (before ++ cs) ss)))

keyed_implicit : (front : List Line) (ss : List Segment) → IfOk (implicit front ss) KeyedDocuments
unfolding implicit
keyed_implicit front ss =
    yielded_option _ (first_content front) _ _ (keyed_documents false (comments_of front) ss) (λ l.
    yielded_either _ (first l.text == percent) _ _ tt
    (yielded_then KeyedFound _ (document_content (rows (first_marker ss) true 0 0 [] front).0) _ (keyed_document (rows (first_marker ss) true 0 0 [] front).0) (λ f p.
    yielded_then KeyedDocuments _ (documents false _ ss) _ (keyed_documents false _ ss) (λ ds q. (refl, p, q)))))

pub keyed_read : (file : ℕ) (bytes : List ℕ) → IfOk (Read file bytes) KeyedDocuments
unfolding Read
keyed_read file bytes = yielded_behind _ (Lines file bytes) _ (λ ls. keyed_implicit (segments ls).0 (segments ls).1)
