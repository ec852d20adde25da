-- Paths in trees, and their text in faults; what a tree is called there.
use Rattle.std.specs.Prelude.{ℕ, Bool, true, false, ◌&&◌, ◌==◌, List, [], ◌∷◌, ◌++◌, codes, decimal}
use Rattle.ytt_base.specs.Trees.{Scalar, null, boolean, integer, string, Tree, scalar, list, map, Step, key, index, same_key}
use Rattle.yaml_spec.specs.Text.{key_text}

-- the text of a step, `lead` before a key
abbrev pub step_text : (lead : List ℕ) → Step → List ℕ
step_text lead (key k) = lead ++ key_text k
step_text lead (index n) = codes "[" ++ decimal n ++ codes "]"

-- further steps
abbrev pub steps_text : List Step → List ℕ
steps_text [] = []
steps_text (s ∷ path) = step_text (codes ".") s ++ steps_text path

-- keys joined by `.`, indexes in brackets
abbrev pub path_text : List Step → List ℕ
path_text [] = []
path_text (s ∷ path) = step_text [] s ++ steps_text path

-- the steps are equal
abbrev pub same_step : Step → Step → Bool
same_step (key k) (key l) = same_key k l
same_step (index m) (index n) = m == n
same_step _ _ = false

-- the first path leads to the second one's node, or to a node around it
abbrev pub is_prefix : (front path : List Step) → Bool
is_prefix [] path = true
is_prefix (s ∷ front) [] = false
is_prefix (s ∷ front) (t ∷ path) = same_step s t && is_prefix front path

-- what a tree is called in faults
abbrev pub scalar_name : Scalar → List ℕ
scalar_name null = codes "null"
scalar_name (boolean b) = codes "bool"
scalar_name (integer z) = codes "int"
scalar_name (string t) = codes "string"

abbrev pub tree_name : Tree → List ℕ
tree_name (scalar x) = scalar_name x
tree_name (list ts) = codes "list"
tree_name (map ps) = codes "map"
