-- The printed text is cut into its lines again, and only `---` lines are markers.
use Rattle.ytt_base.specs.Outcomes.{place_at}
use Rattle.yaml_spec.specs.Refusals.{place_below}
use Rattle.ytt_base.specs.declared.fault.Place.{Place}
use Rattle.std.proofs.Common.{◌≡◌, ℕ, ◌+◌, Bool, true, false, List, [], ◌∷◌, ◌++◌, None, Ok, refl, sym, ◌∙◌, ap, append_assoc, if◌then◌else◌}
use Rattle.std.proofs.lemmas.List.{append-nil}
use Rattle.std.specs.Prelude.{codes}
use Rattle.std.specs.Str.{is_utf8}
use Rattle.yaml_spec.specs.Bytes.{line_feed, space, colon, is_empty}
use Rattle.yaml_spec.specs.Lines.{Line, skip_mark, cut, numbered, lines_of, has_good_chars, first_failing, checked, Lines}
use Rattle.ytt_base.specs.Trees.{Scalar, null, boolean, integer, string, Tree, scalar, list, map, Trees, no_trees, tree, Pairs, no_pairs, pair, AreTrees}
use Rattle.yaml_spec.specs.Read.{segments}
use Rattle.yaml_spec.specs.Text.{spaces, line_end, pieces, literal_header, final_breaks, literal_line, literal_lines, literal_text, key_text, scalar_text, pair_text, node_text, list_text, map_text, document_text, Text}
use Rattle.yaml_back.proofs.GoodBack.{AllGood, good-utf8, good-chars, good-ascii, NoBreak, good-break}
use Rattle.yaml_back.proofs.MarkersBack.{AllFine, fine-document, has_mark, mark-node}
use Rattle.yaml_back.proofs.TextLines.{content_line, content_lines, is_block, block_first, block_more, scalar_first, scalar_more, node_first, pair_first, node_more, pair_more, list_lines, map_lines, document_lines}

-- ---- the text as lines

abbrev pub unlines : List (List ℕ) → List ℕ
unlines [] = []
unlines (l ∷ ls) = l ++ (line_feed ∷ unlines ls)

unlines-append : (xs ys : List (List ℕ)) → unlines (xs ++ ys) ≡ unlines xs ++ unlines ys
unlines-append [] ys = refl
unlines-append (x ∷ xs) ys = ap (λ t. x ++ (line_feed ∷ t)) (unlines-append xs ys) ∙ sym (append_assoc x (line_feed ∷ unlines xs) (unlines ys))

content-text : (n : ℕ) (ps : List (List ℕ)) → literal_lines n ps ≡ unlines (content_lines n ps)
content-text n [] = refl
content-text n (l ∷ []) = by_empty (is_empty l)
  where
    by_empty : (b : Bool) → (if b then [] else literal_line n l) ≡ unlines (elim b as (λ _. List (List ℕ)) [ true ↦ [] | false ↦ content_line n l ∷ [] ])
    by_empty true = refl
    by_empty false = refl
content-text n (l ∷ m ∷ ls) = ap (λ t. literal_line n l ++ t) (content-text n (m ∷ ls)) ∙ append_assoc (content_line n l) line_end (unlines (content_lines n (m ∷ ls)))

scalar-text : (n : ℕ) (s : Scalar) → scalar_text n s ≡ unlines (scalar_first s ∷ scalar_more n s)
scalar-text n null = refl
scalar-text n (boolean b) = refl
scalar-text n (integer z) = refl
scalar-text n (string s) = by_block (is_block (string s))
  where
    by_block : (b : Bool) → (if b then literal_text n s else key_text (string s) ++ line_end)
        ≡ unlines (elim b as (λ _. List ℕ) [ true ↦ block_first (string s) | false ↦ key_text (string s) ] ∷ elim b as (λ _. List (List ℕ)) [ true ↦ block_more n (string s) | false ↦ [] ])
    by_block true = ap (λ t. literal_header (final_breaks (pieces s)) ++ (line_feed ∷ t)) (content-text n (pieces s))
    by_block false = refl

-- what stands before, the text of a node, and what follows
joined : (lead t u x : List ℕ) (more xs : List (List ℕ)) → t ≡ unlines (x ∷ more) → u ≡ unlines xs → lead ++ (t ++ u) ≡ unlines ((lead ++ x) ∷ (more ++ xs))
joined lead t u x more xs p q = rw (p, q, unlines-append more xs) (simp append_assoc)

joined_key : (key t u x : List ℕ) (more xs : List (List ℕ)) → t ≡ unlines (x ∷ more) → u ≡ unlines xs → key ++ (colon ∷ (t ++ u)) ≡ unlines ((key ++ (colon ∷ x)) ∷ (more ++ xs))
joined_key key t u x more xs p q = rw (p, q, unlines-append more xs) (simp append_assoc)

mutual
  pub node-text : (t : Tree) (n : ℕ) → node_text n t ≡ unlines (node_first t ∷ node_more n t)
  node-text (scalar s) n = scalar-text n s
  node-text (list no_trees) n = refl
  node-text (list (tree t ts)) n = joined (codes "- ") (node_text (n + 2) t) (list_text (spaces n) n ts) (node_first t) (node_more (n + 2) t) (list_lines n ts) (node-text t (n + 2)) (list-text ts n)
  node-text (map no_pairs) n = refl
  node-text (map (pair k t ps)) n = joined_key (key_text k) (pair_text n t) (map_text (spaces n) n ps) (pair_first t) (pair_more n t) (map_lines n ps) (pair-text t n) (map-text ps n)

  pub pair-text : (t : Tree) (n : ℕ) → pair_text n t ≡ unlines (pair_first t ∷ pair_more n t)
  pair-text (scalar s) n = ap (λ t. space ∷ t) (scalar-text (n + 2) s)
  pair-text (list no_trees) n = refl
  pair-text (list (tree t ts)) n = ap (λ t. line_feed ∷ t) (list-text (tree t ts) n)
  pair-text (map no_pairs) n = refl
  pair-text (map (pair k t ps)) n = ap (λ t. line_feed ∷ t) (map-text (pair k t ps) (n + 2))

  pub list-text : (ts : Trees) (n : ℕ) → list_text (spaces n) n ts ≡ unlines (list_lines n ts)
  list-text no_trees n = refl
  list-text (tree t ts) n =
      ap (λ x. spaces n ++ x) (joined (codes "- ") (node_text (n + 2) t) (list_text (spaces n) n ts) (node_first t) (node_more (n + 2) t) (list_lines n ts) (node-text t (n + 2)) (list-text ts n))
      ∙ sym (append_assoc (spaces n) (node_first (list (tree t ts))) (line_feed ∷ unlines (node_more (n + 2) t ++ list_lines n ts)))

  pub map-text : (ps : Pairs) (n : ℕ) → map_text (spaces n) n ps ≡ unlines (map_lines n ps)
  map-text no_pairs n = refl
  map-text (pair k t ps) n =
      ap (λ x. spaces n ++ x) (joined_key (key_text k) (pair_text n t) (map_text (spaces n) n ps) (pair_first t) (pair_more n t) (map_lines n ps) (pair-text t n) (map-text ps n))
      ∙ sym (append_assoc (spaces n) (node_first (map (pair k t ps))) (line_feed ∷ unlines (pair_more n t ++ map_lines n ps)))

pub document-text : (t : Tree) → document_text t ≡ unlines (document_lines t)
document-text (scalar s) = scalar-text 2 s
document-text (list no_trees) = refl
document-text (list (tree t ts)) = node-text (list (tree t ts)) 0
document-text (map no_pairs) = refl
document-text (map (pair k t ps)) = node-text (map (pair k t ps)) 0

-- the further documents, each behind its marker
abbrev pub rest_lines : Trees → List (List ℕ)
rest_lines no_trees = []
rest_lines (tree t ts) = codes "---" ∷ (document_lines t ++ rest_lines ts)

abbrev pub text_lines : Trees → List (List ℕ)
text_lines no_trees = []
text_lines (tree t ts) = document_lines t ++ rest_lines ts

pub text-lines : (ts : Trees) → Text ts ≡ unlines (text_lines ts)
text-lines no_trees = refl
text-lines (tree t no_trees) = document-text t ∙ ap unlines (sym (append-nil (document_lines t)))
text-lines (tree t (tree u ts)) =
    let e : codes "---\n" ++ Text (tree u ts) ≡ unlines (rest_lines (tree u ts)) = ap (λ x. codes "---\n" ++ x) (text-lines (tree u ts)) in
    rw (document-text t, e) (sym (unlines-append (document_lines t) (rest_lines (tree u ts))))

-- ---- cutting

cut-line : (l t : List ℕ) → NoBreak l → cut (l ++ (line_feed ∷ t)) ≡ l ∷ cut t
unfolding cut NoBreak
cut-line [] t h = refl
cut-line (b ∷ bs) t h = rw (h.0, cut, h.1, cut-line bs t h.2) refl

pub cut-unlines : (ls : List (List ℕ)) → AllGood ls → cut (unlines ls) ≡ ls
unfolding cut AllGood
cut-unlines [] h = refl
cut-unlines (l ∷ ls) h = cut-line l (unlines ls) (good-break l h.0) ∙ ap (λ ls. l ∷ ls) (cut-unlines ls h.1)

utf8-lines : (k : Place) (ls : List (List ℕ)) → AllGood ls → first_failing is_utf8 (numbered k ls) ≡ None
unfolding AllGood
utf8-lines k [] h = refl
utf8-lines k (l ∷ ls) h = rw (good-utf8 l h.0, first_failing) (utf8-lines (place_below k 1) ls h.1)

char-lines : (k : Place) (ls : List (List ℕ)) → AllGood ls → first_failing has_good_chars (numbered k ls) ≡ None
unfolding AllGood
char-lines k [] h = refl
char-lines k (l ∷ ls) h = rw (good-chars l h.0, first_failing) (char-lines (place_below k 1) ls h.1)

checked-lines : (k : Place) (ls : List (List ℕ)) → AllGood ls → checked (numbered k ls) ≡ Ok (numbered k ls)
unfolding checked
checked-lines k ls h = rw (utf8-lines k ls h, checked, char-lines k ls h) refl

fine-good : (ls : List (List ℕ)) → AllFine ls → AllGood ls
unfolding AllFine AllGood
fine-good [] h = tt
fine-good (l ∷ ls) h = (let f = h.0 in f.good, fine-good ls h.1)

append-good : (xs ys : List (List ℕ)) → AllGood xs → AllGood ys → AllGood (xs ++ ys)
unfolding AllGood
append-good [] ys p q = q
append-good (x ∷ xs) ys p q = (p.0, append-good xs ys p.1 q)

good-rest : (ts : Trees) → AreTrees ts → AllGood (rest_lines ts)
unfolding AllGood
good-rest no_trees h = tt
good-rest (tree t ts) h = (good-ascii (codes "---") refl, append-good _ _ (fine-good _ (fine-document t h.0)) (good-rest ts h.1))

good-text : (ts : Trees) → AreTrees ts → AllGood (text_lines ts)
unfolding AllGood
good-text no_trees h = tt
good-text (tree t ts) h = append-good _ _ (fine-good _ (fine-document t h.0)) (good-rest ts h.1)

no_mark : (ts : Trees) → AreTrees ts → has_mark (unlines (text_lines ts)) ≡ false
no_mark no_trees h = refl
no_mark (tree (scalar s) ts) h = mark-node (scalar s) _ h.0
no_mark (tree (list no_trees) ts) h = refl
no_mark (tree (list (tree t us)) ts) h = refl
no_mark (tree (map no_pairs) ts) h = refl
no_mark (tree (map (pair k t ps)) ts) h = mark-node (map (pair k t ps)) _ h.0

-- the lines of a printed text
pub Lines-text : (file : ℕ) (ts : Trees) → AreTrees ts → Lines file (Text ts) ≡ Ok (numbered (place_at file 1) (text_lines ts))
unfolding Lines lines_of
Lines-text file ts h =
    let m : skip_mark (unlines (text_lines ts)) ≡ unlines (text_lines ts) = rw (no_mark ts h) refl in
    rw (text-lines ts, m, cut-unlines (text_lines ts) (good-text ts h)) (checked-lines (place_at file 1) (text_lines ts) (good-text ts h))

pub segments-quiet : (k : Place) (ls : List (List ℕ)) (rest : List Line) → AllFine ls → segments (numbered k ls ++ rest) ≡ (numbered k ls ++ (segments rest).0, (segments rest).1)
unfolding segments AllFine
segments-quiet k [] rest h = refl
segments-quiet k (l ∷ ls) rest h = let f = h.0 in let q = f.quiet in rw (q.start, q.stop, segments-quiet (place_below k 1) ls rest h.1) refl
