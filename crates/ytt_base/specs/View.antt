-- The tree, as plain data, that a `Tree` of the program stands for; so of keys, steps, lists and pairs.
use Rattle.std.specs.Prelude.{List, [], ◌∷◌, map as each}
use Rattle.ytt_base.specs.Trees as plain
use Rattle.ytt_base.specs.Trees.{Scalar, null, boolean, integer, string, scalar, list, Trees, no_trees, tree, Pairs, no_pairs, pair}
use Rattle.ytt_base.specs.declared.tree.Key.{Key}
use Rattle.ytt_base.specs.declared.tree.Key.TheVariants as key
use Rattle.ytt_base.specs.declared.tree.Step.{Step}
use Rattle.ytt_base.specs.declared.tree.Step.TheVariants as step
use Rattle.ytt_base.specs.declared.tree.Tree.{Tree, fold-Tree}
use Rattle.ytt_base.specs.declared.tree.Tree.TheOpen.{Tree-F}

abbrev pub key_of : Key → Scalar
key_of key.Null = null
key_of (key.Bool b) = boolean b
key_of (key.Int z) = integer z
key_of (key.Str s) = string s

abbrev pub step_of : Step → plain.Step
step_of (step.Key k) = plain.key (key_of k)
step_of (step.Index n) = plain.index n

abbrev pub path_of : List Step → List plain.Step
path_of steps = each step_of steps

abbrev pub in_trees : List plain.Tree → Trees
in_trees [] = no_trees
in_trees (t ∷ ts) = tree t (in_trees ts)

abbrev pub in_pairs : List (Key × plain.Tree) → Pairs
in_pairs [] = no_pairs
in_pairs (p ∷ ps) = pair (key_of p.0) p.1 (in_pairs ps)

-- one level, where each tree inside is seen already
abbrev pub tree_step : Tree-F plain.Tree → plain.Tree
tree_step Tree-F.Null = scalar null
tree_step (Tree-F.Bool b) = scalar (boolean b)
tree_step (Tree-F.Int z) = scalar (integer z)
tree_step (Tree-F.Str s) = scalar (string s)
tree_step (Tree-F.List ts) = list (in_trees ts)
tree_step (Tree-F.Map ps) = plain.map (in_pairs ps)

abbrev pub tree_of : Tree → plain.Tree
tree_of = fold-Tree plain.Tree tree_step

-- the trees of a list, and the pairs of a map
abbrev pub trees_of : List Tree → Trees
trees_of ts = in_trees (each tree_of ts)

abbrev pub pairs_of : List (Key × Tree) → Pairs
pairs_of ps = in_pairs (each (λ p. (p.0, tree_of p.1)) ps)

-- an entry of a map, as a pair of plain data
abbrev pub entry_of : Key × Tree → Scalar × plain.Tree
entry_of p = (key_of p.0, tree_of p.1)
