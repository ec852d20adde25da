-- A fresh value of a tree is what the program holds, where each scalar of the tree is such; a key may stand twice in it.
use Rattle.std.proofs.Common.{ℕ, List, [], ◌∷◌}
use Rattle.ytt_base.specs.declared.fault.Place.{Place}
use Rattle.ytt_base.specs.Trees.{Scalar, null, boolean, integer, string, Tree, scalar, list, map, Trees, no_trees, tree, Pairs, no_pairs, pair, IsScalar, IsTree, AreTrees, ArePairs}
use Rattle.index_spec.specs.FreshValues.{fresh_pairs, fresh_value, fresh_values, value_of_scalar}
use Rattle.star_spec.proofs.FillingKeeps.{paid_keeps}
use Rattle.star_spec.proofs.Keeping.{Keeps, keeps_give, keeps_then}
use Rattle.star_spec.proofs.MembersHeld.{BothHeld, new_dict_keeps, new_list_keeps, put_pairs_held}
use Rattle.star_spec.specs.Held.{HeldList, HeldValue}
use Rattle.value_spec.specs.Store.{put_pairs}
use Rattle.value_spec.specs.Values.{text_value}
use Rattle.module_spec.specs.YamlCodec.{given_tree, tree_bytes, tree_members}

abbrev mutual
  pub HeldTree : Tree → Type 0
  HeldTree (scalar x) = IsScalar x
  HeldTree (list ts) = HeldTrees ts
  HeldTree (map ps) = HeldTreePairs ps

  pub HeldTrees : Trees → Type 0
  HeldTrees no_trees = Unit {0}
  HeldTrees (tree t ts) = HeldTree t × HeldTrees ts

  pub HeldTreePairs : Pairs → Type 0
  HeldTreePairs no_pairs = Unit {0}
  HeldTreePairs (pair x t ps) = IsScalar x × HeldTree t × HeldTreePairs ps

mutual
  pub tree_held : (t : Tree) → IsTree t → HeldTree t
  tree_held (scalar x) h = h
  tree_held (list ts) h = trees_held ts h
  tree_held (map ps) h = tree_pairs_held ps h

  trees_held : (ts : Trees) → AreTrees ts → HeldTrees ts
  trees_held no_trees h = tt
  trees_held (tree t ts) h = (tree_held t h.0, trees_held ts h.1)

  tree_pairs_held : (ps : Pairs) → ArePairs ps → HeldTreePairs ps
  tree_pairs_held no_pairs h = tt
  tree_pairs_held (pair x t ps) h = (h.0, tree_held t h.1, tree_pairs_held ps h.3)

scalar_held : (x : Scalar) → IsScalar x → HeldValue (value_of_scalar x)
scalar_held null h = tt
scalar_held (boolean b) h = tt
scalar_held (integer z) h = h
scalar_held (string t) h = h

mutual
  fresh_keeps : {H : Type 0} (t : Tree) → HeldTree t → Keeps {H = H} HeldValue (fresh_value t)
  fresh_keeps (scalar x) h = keeps_give (value_of_scalar x) (scalar_held x h)
  fresh_keeps (list ts) h = keeps_then (fresh_members_keep ts h) new_list_keeps
  fresh_keeps (map ps) h = keeps_then (fresh_pairs_keep ps h) (λ ms k. new_dict_keeps (put_pairs [] ms) (put_pairs_held [] ms tt k))

  fresh_members_keep : {H : Type 0} (ts : Trees) → HeldTrees ts → Keeps {H = H} HeldList (fresh_values ts)
  fresh_members_keep no_trees h = keeps_give [] tt
  fresh_members_keep (tree t ts) h = keeps_then (fresh_keeps t h.0) (λ v k. keeps_then (fresh_members_keep ts h.1) (λ vs g. keeps_give (v ∷ vs) (k, g)))

  fresh_pairs_keep : {H : Type 0} (ps : Pairs) → HeldTreePairs ps → Keeps {H = H} BothHeld (fresh_pairs ps)
  fresh_pairs_keep no_pairs h = keeps_give [] tt
  fresh_pairs_keep (pair x t ps) h =
      keeps_then (fresh_keeps t h.1) (λ v k. keeps_then (fresh_pairs_keep ps h.2) (λ ms g. keeps_give ((value_of_scalar x, v) ∷ ms) (scalar_held x h.0, k, g)))

-- as the answer of a native
pub given_keeps : {H : Type 0} (p : Place) (text : List ℕ) (t : Tree) → HeldTree t → Keeps {H = H} HeldValue (given_tree p text t)
given_keeps p text t h = paid_keeps p (text_value text ∷ []) (tree_bytes t) (tree_members t) (fresh_keeps t h)
