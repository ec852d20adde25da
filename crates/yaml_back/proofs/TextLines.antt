-- The printed text as lines: a node is what stands on the line where it begins, and its further lines.
use Rattle.std.proofs.Common.{ℕ, ◌+◌, Bool, true, false, not, ◌&&◌, List, [], ◌∷◌, ◌++◌, if◌then◌else◌}
use Rattle.std.specs.Prelude.{codes}
use Rattle.yaml_spec.specs.Bytes.{space, dash, colon, is_empty}
use Rattle.ytt_base.specs.Trees.{Scalar, string, Tree, scalar, list, map, Trees, no_trees, tree, Pairs, no_pairs, pair}
use Rattle.yaml_spec.specs.Rows.{Head, dash_mark, key_mark}
use Rattle.yaml_spec.specs.Text.{spaces, fits_plain, fits_literal, pieces, final_breaks, literal_header, key_text}
use Rattle.std.specs.Prelude.{Ok}

-- ---- a literal's lines

abbrev pub content_line : ℕ → List ℕ → List ℕ
content_line n l = if is_empty l then [] else spaces n ++ l

abbrev pub content_lines : ℕ → List (List ℕ) → List (List ℕ)
content_lines n [] = []
content_lines n (l ∷ []) = elim (is_empty l) [ true ↦ [] | false ↦ content_line n l ∷ [] ]
content_lines n (l ∷ m ∷ ls) = content_line n l ∷ content_lines n (m ∷ ls)

abbrev pub is_block : Scalar → Bool
is_block (string s) = not (fits_plain s) && fits_literal s
is_block _ = false

abbrev pub block_first : Scalar → List ℕ
block_first (string s) = literal_header (final_breaks (pieces s))
block_first _ = []

abbrev pub block_more : ℕ → Scalar → List (List ℕ)
block_more n (string s) = content_lines n (pieces s)
block_more n _ = []

abbrev pub scalar_first : Scalar → List ℕ
scalar_first s = elim (is_block s) [ true ↦ block_first s | false ↦ key_text s ]

abbrev pub scalar_more : ℕ → Scalar → List (List ℕ)
scalar_more n s = elim (is_block s) [ true ↦ block_more n s | false ↦ [] ]

-- ---- nodes

abbrev pub dash_head : ℕ → Head
dash_head n = record { column = n; has_tab = false; mark = dash_mark }

abbrev pub key_head : ℕ → Scalar → Head
key_head n k = record { column = n; has_tab = false; mark = key_mark (Ok k) }

-- what stands on the first line
abbrev mutual
  pub node_first : Tree → List ℕ
  node_first (scalar s) = scalar_first s
  node_first (list no_trees) = codes "[]"
  node_first (list (tree t ts)) = dash ∷ space ∷ node_first t
  node_first (map no_pairs) = codes "{}"
  node_first (map (pair k t ps)) = key_text k ++ (colon ∷ pair_first t)

  pub pair_first : Tree → List ℕ
  pair_first (scalar s) = space ∷ scalar_first s
  pair_first (list no_trees) = codes " []"
  pair_first (list (tree t ts)) = []
  pair_first (map no_pairs) = codes " {}"
  pair_first (map (pair k t ps)) = []

-- the further lines of a node at a column
abbrev mutual
  pub node_more : ℕ → Tree → List (List ℕ)
  node_more n (scalar s) = scalar_more n s
  node_more n (list no_trees) = []
  node_more n (list (tree t ts)) = node_more (n + 2) t ++ list_lines n ts
  node_more n (map no_pairs) = []
  node_more n (map (pair k t ps)) = pair_more n t ++ map_lines n ps

  pub pair_more : ℕ → Tree → List (List ℕ)
  pair_more n (scalar s) = scalar_more (n + 2) s
  pair_more n (list no_trees) = []
  pair_more n (list (tree t ts)) = list_lines n (tree t ts)
  pair_more n (map no_pairs) = []
  pair_more n (map (pair k t ps)) = map_lines (n + 2) (pair k t ps)

  pub list_lines : ℕ → Trees → List (List ℕ)
  list_lines n no_trees = []
  list_lines n (tree t ts) = (spaces n ++ (dash ∷ space ∷ node_first t)) ∷ (node_more (n + 2) t ++ list_lines n ts)

  pub map_lines : ℕ → Pairs → List (List ℕ)
  map_lines n no_pairs = []
  map_lines n (pair k t ps) = (spaces n ++ (key_text k ++ (colon ∷ pair_first t))) ∷ (pair_more n t ++ map_lines n ps)

-- the heads on the first line of a node at a column, and the text behind them
abbrev pub pair_text_left : Tree → List ℕ
pair_text_left (scalar s) = scalar_first s
pair_text_left (list no_trees) = codes "[]"
pair_text_left (list (tree t ts)) = []
pair_text_left (map no_pairs) = codes "{}"
pair_text_left (map (pair k t ps)) = []

abbrev pub node_heads : ℕ → Tree → List Head
node_heads n (scalar s) = []
node_heads n (list no_trees) = []
node_heads n (list (tree t ts)) = dash_head n ∷ node_heads (n + 2) t
node_heads n (map no_pairs) = []
node_heads n (map (pair k t ps)) = key_head n k ∷ []

abbrev pub node_left : Tree → List ℕ
node_left (scalar s) = scalar_first s
node_left (list no_trees) = codes "[]"
node_left (list (tree t ts)) = node_left t
node_left (map no_pairs) = codes "{}"
node_left (map (pair k t ps)) = pair_text_left t

abbrev pub document_lines : Tree → List (List ℕ)
document_lines (scalar s) = scalar_first s ∷ scalar_more 2 s
document_lines t = node_first t ∷ node_more 0 t
