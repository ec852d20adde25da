-- Every writable list of documents reads back from its printed text as those documents alone.
use Rattle.yaml_spec.specs.Refusals.{place_below}
use Rattle.ytt_base.specs.declared.fault.Place.{Place}
use Rattle.std.proofs.Common.{◌≡◌, ℕ, ◌≤◌, Bool, true, false, ◌==◌, List, [], ◌∷◌, ◌++◌, length, Some, None, Ok, Err, refl, sym, ◌∙◌, ap, subst, arith}
use Rattle.std.proofs.lemmas.Bool.{or_from, or_parts}
use Rattle.std.proofs.lemmas.List.{append-nil}
use Rattle.std.specs.Prelude.{codes}
use Rattle.yaml_spec.specs.Bytes.{hash, percent, first, is_blank, skip_white}
use Rattle.ytt_base.specs.Outcomes.{Outcome, place_at}
use Rattle.yaml_spec.specs.Lines.{Line, numbered}
use Rattle.ytt_base.specs.Trees.{Tree, scalar, list, map, Trees, no_trees, tree, no_pairs, pair, IsTree, AreTrees, depth, max_depth, Writable}
use Rattle.yaml_spec.specs.Noted.{Note, Content, noted_scalar, noted_list, noted_map, no_items, item, Documents, bare_tree, bare_trees, code_among, code_in_some, code_within, has_code}
use Rattle.yaml_spec.specs.Rows.{Row, Head, heads_of, owner_of, passing, rows}
use Rattle.yaml_spec.specs.Entries.{content_of, Doc, row_comment}
use Rattle.yaml_spec.specs.Read.{Segment, first_marker, segments, first_content, document_content, document_note, marker_row, with_document, explicit, documents, implicit, Read, plain_trees, read_trees, Reads}
use Rattle.yaml_spec.specs.ReadsBack.{ReadsAlone}
use Rattle.yaml_spec.specs.Text.{Text}
use Rattle.yaml_back.proofs.TextLines.{scalar_first, scalar_more, node_first, node_more, node_heads, document_lines}
use Rattle.ytt_laws.proofs.Yielded.{ok_same}
use Rattle.yaml_back.proofs.ItemsBack.{HasNoCode, no_code-item, no_code-more, LeafReads, leaf-taken}
use Rattle.yaml_back.proofs.HeadsBack.{Starts, starts-node, line_row, line-blank, line-mark, row_at-line, node-heads, Ends}
use Rattle.yaml_back.proofs.RowsBack.{Follows, rows-line, rows-first, rows-skip, numbered-append, scalar-leaf, list-leaf, map-leaf, node-back, first_of, first-at, block-of, content-block}
use Rattle.yaml_back.proofs.MarkersBack.{fine-document}
use Rattle.yaml_back.proofs.TextBack.{rest_lines, Lines-text, segments-quiet}
use Rattle.yaml_back.proofs.DistinctBack.{distinct-back, drop-back}

-- ---- one document

pub record DocumentBack (stop : ℕ) (is_owned : Bool) (k : Place) (t : Tree) : Type 0 where
  pub rows_of : List Row
  pub content : Content
  pub are : rows stop is_owned 0 0 [] (numbered k (document_lines t)) ≡ (rows_of, [])
  pub reads : document_content rows_of ≡ Ok (content, None)
  pub tree : bare_tree content ≡ t
  pub without_code : code_within content ≡ false

leaf-content_of : (left d : ℕ) (c : Content) (skip : ℕ) (r : Row) → LeafReads d c skip r → d ≤ left → r.heads ≡ [] → content_of left (Doc left) (r ∷ []) ≡ Ok (c, None)
unfolding content_of
leaf-content_of left d c skip r f l e = rw (e, content_of, f.reads left (owner_of r) (passing r) l) refl

leaf-document : (stop : ℕ) (is_owned : Bool) (k : Place) (d : ℕ) (t : Tree) (c : Content) (x : List ℕ) (more : List (List ℕ)) → document_lines t ≡ x ∷ more → Starts x → heads_of (length x) 0 false x ≡ ([], x) →
    LeafReads d c (length (numbered (place_below k 1) more)) (line_row stop is_owned 0 k 0 [] x (numbered (place_below k 1) more)) → d ≤ max_depth → bare_tree c ≡ t → DocumentBack stop is_owned k t
unfolding rows
leaf-document stop is_owned k d t c x more i s h f l e =
    let r = line_row stop is_owned 0 k 0 [] x (numbered (place_below k 1) more) in
    record {
      rows_of = r ∷ [];
      content = c;
      tree = e;
      without_code = f.without_code;
      reads = leaf-content_of max_depth d c _ r f l refl;
      are = rw i (rows-line stop is_owned 0 (length (numbered (place_below k 1) more)) (record { place = k; text = x }) (numbered (place_below k 1) more) r [] (line-blank 0 x s) (line-mark 0 x s)
          (row_at-line stop is_owned 0 k 0 x x [] (numbered (place_below k 1) more) s h) (leaf-taken d c _ r f l refl)
          (ap (rows stop false (length (numbered (place_below k 1) more)) 0 []) (sym (append-nil (numbered (place_below k 1) more))) ∙ rows-skip stop false 0 (numbered (place_below k 1) more) []));
    }

block-document : (stop : ℕ) (is_owned : Bool) (k : Place) (t : Tree) → IsTree t → depth t ≤ max_depth → document_lines t ≡ node_first t ∷ node_more 0 t → (i : Head) (is : List Head) → node_heads 0 t ≡ i ∷ is → i.column ≡ 0 → DocumentBack stop is_owned k t
unfolding Follows rows Ends
block-document stop is_owned k t h l j i is e m =
    let ls = numbered (place_below k 1) (node_more 0 t) ++ [] in
    let r = first_of stop is_owned k 0 t ls in
    let b = node-back stop t h 0 0 r (place_below k 1) [] [] (first-at stop is_owned k 0 0 t i is e [] [] (omega arith) tt (λ least. refl)) in
    let d = block-of stop max_depth 0 t r [] i is e m b l in
    record {
      rows_of = r ∷ b.body;
      content = d.0;
      tree = d.2;
      without_code = d.3;
      reads = content-block max_depth r b.body i is d.0 e d.1;
      are = rw j (ap (λ (x : List Line). rows stop is_owned 0 0 [] (record { place = k; text = node_first t } ∷ x)) (sym (append-nil (numbered (place_below k 1) (node_more 0 t))))
          ∙ (rows-first stop is_owned 0 k 0 b.skip t h i is e ls (b.body ++ []) b.taken b.goes ∙ ap (λ (x : List Row). (r ∷ x, [])) (append-nil b.body)));
    }

pub document-back : (stop : ℕ) (is_owned : Bool) (k : Place) (t : Tree) → IsTree t → depth t ≤ max_depth → DocumentBack stop is_owned k t
unfolding Ends
document-back stop is_owned k (scalar s) h l =
    leaf-document stop is_owned k 0 (scalar s) (noted_scalar (scalar s)) (scalar_first s) (scalar_more 2 s) refl (starts-node (scalar s) h) (node-heads (scalar s) h _ 0 (omega arith))
    (scalar-leaf s h 2 (place_below k 1) _ [] refl (sym (append-nil (numbered (place_below k 1) (scalar_more 2 s)))) (omega arith) tt) (omega arith) refl
document-back stop is_owned k (list no_trees) h l =
    leaf-document stop is_owned k 1 (list no_trees) (noted_list no_items) (codes "[]") [] refl (starts-node (list no_trees) h) (node-heads (list no_trees) h _ 0 (omega arith)) (list-leaf _ refl) (omega arith) refl
document-back stop is_owned k (list (tree t ts)) h l = block-document stop is_owned k (list (tree t ts)) h l refl _ _ refl refl
document-back stop is_owned k (map no_pairs) h l =
    leaf-document stop is_owned k 1 (map no_pairs) (noted_map no_items) (codes "{}") [] refl (starts-node (map no_pairs) h) (node-heads (map no_pairs) h _ 0 (omega arith)) (map-leaf _ refl) (omega arith) refl
document-back stop is_owned k (map (pair key t ps)) h l = block-document stop is_owned k (map (pair key t ps)) h l refl _ _ refl refl

-- no comment is code where a document without such stands before documents without such
no_code-document : (n : Note) (c : Content) (ds : Documents) → HasNoCode n c → has_code ds ≡ false → has_code (with_document n (c, None) ds) ≡ false
no_code-document n c ds q h =
    let p = or_parts (code_among ds.items) (code_in_some ds.after) h in
    or_from (code_among (item n c ds.items)) (code_in_some ds.after) (no_code-more n c ds.items q p.0) p.1

-- ---- the further documents

abbrev segment_of : Place → ℕ → Tree → Segment
segment_of k stop t = record { marker = record { place = k; text = codes "---" }; lines = numbered (place_below k 1) (document_lines t); stop = stop }

explicit-back : (k : Place) (stop : ℕ) (t : Tree) (b : DocumentBack stop false (place_below k 1) t) →
    explicit [] (segment_of k stop t) ≡ Ok (document_note k [] (row_comment (marker_row (segment_of k stop t))), (b.content, None), [])
unfolding explicit
explicit-back k stop t b = rw (b.are, b.reads) refl

record RestBack (k : Place) (ts : Trees) : Type 0 where
  parts : List Segment
  documents_of : Documents
  are : segments (numbered k (rest_lines ts)) ≡ ([], parts)
  reads : documents false [] parts ≡ Ok documents_of
  trees : bare_trees documents_of.items ≡ ts
  without_code : has_code documents_of ≡ false

rest-cons : (t : Tree) (ts : Trees) (k : Place) → IsTree t → depth t ≤ max_depth → RestBack (place_below (place_below k 1) (length (document_lines t))) ts → RestBack k (tree t ts)
unfolding segments documents
rest-cons t ts k h l b =
    let stop = first_marker b.parts in
    let d = document-back stop false (place_below k 1) t h l in
    let more : segments (numbered (place_below k 1) (document_lines t ++ rest_lines ts)) ≡ (numbered (place_below k 1) (document_lines t) ++ [], b.parts) =
    rw (numbered-append (place_below k 1) (document_lines t) (rest_lines ts), segments-quiet (place_below k 1) (document_lines t) (numbered (place_below (place_below k 1) (length (document_lines t))) (rest_lines ts)) (fine-document t h), b.are) refl in
    let note = document_note k [] (row_comment (marker_row (segment_of k stop t))) in
    record {
      parts = segment_of k stop t ∷ b.parts;
      documents_of = with_document note (d.content, None) b.documents_of;
      are = rw (more, append-nil (numbered (place_below k 1) (document_lines t))) refl;
      reads = rw (explicit-back k stop t d, documents, b.reads) refl;
      trees = rw (d.tree, b.trees) refl;
      without_code = no_code-document note d.content b.documents_of (no_code-item note d.content refl refl d.without_code) b.without_code;
    }

rest-back : (ts : Trees) → AreTrees ts → Writable ts → (k : Place) → RestBack k ts
unfolding segments documents
rest-back no_trees h w k = record { parts = []; documents_of = record { items = no_items; after = [] }; are = refl; reads = refl; trees = refl; without_code = refl }
rest-back (tree t ts) h w k = rest-cons t ts k h.0 w.1 (rest-back ts h.1 w.2 (place_below (place_below k 1) (length (document_lines t))))

-- ---- whole texts

document-first : (t : Tree) → (more : List (List ℕ)) × (document_lines t ≡ node_first t ∷ more)
document-first (scalar s) = (scalar_more 2 s, refl)
document-first (list no_trees) = ([], refl)
document-first (list (tree t ts)) = (node_more 0 (list (tree t ts)), refl)
document-first (map no_pairs) = ([], refl)
document-first (map (pair k t ps)) = (node_more 0 (map (pair k t ps)), refl)

first-content : (k : Place) (x : List ℕ) (more : List (List ℕ)) → is_blank x ≡ false → (first (skip_white x) == hash) ≡ false → first_content (numbered k (x ∷ more)) ≡ Some (record { place = k; text = x })
first-content k x more b m = rw (b, m, first_content) refl

implicit-back : (front : List Line) (parts : List Segment) (l : Line) (rs : List Row) (c : Content) (ds : Documents) → first_content front ≡ Some l → (first l.text == percent) ≡ false →
    rows (first_marker parts) true 0 0 [] front ≡ (rs, []) → document_content rs ≡ Ok (c, None) → documents false [] parts ≡ Ok ds →
    implicit front parts ≡ Ok (with_document (document_note l.place [] None) (c, None) ds)
unfolding implicit
implicit-back front parts l rs c ds f p r e d = rw (f, implicit, p, r, e, d) refl

content-first_line : (k : Place) (t : Tree) → IsTree t → (l : Line) × (first_content (numbered k (document_lines t)) ≡ Some l) × ((first l.text == percent) ≡ false)
content-first_line k t h =
    let s = starts-node t h in
    let f = document-first t in
    let b : is_blank (node_first t) ≡ false = line-blank 0 (node_first t) s in
    let m : (first (skip_white (node_first t)) == hash) ≡ false = line-mark 0 (node_first t) s in
    (record { place = k; text = node_first t }, ap (λ (ls : List (List ℕ)). first_content (numbered k ls)) f.1 ∙ first-content k (node_first t) f.0 b m, ap (λ (x : List ℕ). first x == percent) s.is ∙ s.percent)

record TextBack (file : ℕ) (ts : Trees) : Type 0 where
  documents_of : Documents
  reads : Read file (Text ts) ≡ Ok documents_of
  trees : bare_trees documents_of.items ≡ ts
  without_code : has_code documents_of ≡ false

text-cons : (file : ℕ) (t : Tree) (ts : Trees) → AreTrees (tree t ts) → Writable (tree t ts) → TextBack file (tree t ts)
unfolding Read
text-cons file t ts h w =
    let k = place_at file 1 in
    let b = rest-back ts h.1 w.2 (place_below k (length (document_lines t))) in
    let stop = first_marker b.parts in
    let d = document-back stop true k t h.0 w.1 in
    let more : segments (numbered k (document_lines t ++ rest_lines ts)) ≡ (numbered k (document_lines t) ++ [], b.parts) =
    rw (numbered-append k (document_lines t) (rest_lines ts), segments-quiet k (document_lines t) (numbered (place_below k (length (document_lines t))) (rest_lines ts)) (fine-document t h.0), b.are) refl in
    let f = content-first_line k t h.0 in
    let note = document_note f.0.place [] None in
    record {
      documents_of = with_document note (d.content, None) b.documents_of;
      reads = rw (Lines-text file (tree t ts) h) (ap (λ (s : List Line × List Segment). implicit s.0 s.1) (more ∙ ap (λ (x : List Line). (x, b.parts)) (append-nil (numbered k (document_lines t))))
          ∙ implicit-back (numbered k (document_lines t)) b.parts f.0 d.rows_of d.content b.documents_of f.1 f.2 d.are d.reads b.reads);
      trees = rw (d.tree, b.trees) refl;
      without_code = no_code-document note d.content b.documents_of (no_code-item note d.content refl refl d.without_code) b.without_code;
    }

text-back : (file : ℕ) (ts : Trees) → AreTrees ts → Writable ts → TextBack file ts
unfolding Read segments implicit documents
text-back file no_trees h w = record { documents_of = record { items = no_items; after = [] }; reads = rw (Lines-text file no_trees h) refl; trees = refl; without_code = refl }
text-back file (tree t ts) h w = text-cons file t ts h w

-- the printed text of writable documents reads as these documents
pub reads_back : (ts : Trees) → AreTrees ts → Writable ts → Reads (Text ts) ts
unfolding read_trees
reads_back ts h w file =
    let b = text-back file ts h w in
    rw (b.reads, distinct-back b.documents_of ts b.trees h, b.trees) (ap (λ us. Ok us) (drop-back ts w))

-- the noted documents of the printed text have no comment of code
pub no_code : (ts : Trees) → AreTrees ts → Writable ts → (file : ℕ) (noted : Documents) → Read file (Text ts) ≡ Ok noted → has_code noted ≡ false
no_code ts h w file noted e =
    let b = text-back file ts h w in
    subst (λ ds. has_code ds ≡ false) (ok_same _ b.documents_of noted (sym b.reads ∙ e)) b.without_code

-- and give the documents
pub noted_same : (ts : Trees) → AreTrees ts → Writable ts → (file : ℕ) (noted : Documents) → Read file (Text ts) ≡ Ok noted → plain_trees noted ≡ Ok ts
unfolding read_trees
noted_same ts h w file noted e = rw e at (reads_back ts h w file)

given : Outcome Trees → Trees
given (Ok ts) = ts
given (Err e) = no_trees

-- a text reads as at most one list of documents
pub reads_one : (bytes : List ℕ) (ts us : Trees) → Reads bytes ts → Reads bytes us → ts ≡ us
unfolding given
reads_one bytes ts us p q = ap given (sym (p 1) ∙ q 1)

-- two writable lists of documents have different texts
pub text_one : (ts us : Trees) → AreTrees ts → Writable ts → AreTrees us → Writable us → Text ts ≡ Text us → ts ≡ us
text_one ts us h w i v e = reads_one (Text ts) ts us (reads_back ts h w) (subst (λ (b : List ℕ). Reads b us) (sym e) (reads_back us i v))

-- and as no others
pub reads_alone : (ts : Trees) → AreTrees ts → Writable ts → ReadsAlone (Text ts) ts
reads_alone ts h w = record { reads = reads_back ts h w; alone = λ us r. reads_one (Text ts) us ts r (reads_back ts h w) }
