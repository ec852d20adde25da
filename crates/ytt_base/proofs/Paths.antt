-- The tree at an index of a list.
use Rattle.std.proofs.Common.{◌≡◌, ℕ, zero, suc, List, [], ◌∷◌, refl, slice_get, Option, Some, None, Bor}
use Rattle.std.specs.Option.{option_map, option_copied}
use Rattle.ytt_base.specs.declared.tree.Tree.{Tree}
use Rattle.ytt_base.specs.Trees.{get_tree}
use Rattle.ytt_base.specs.View.{tree_of, trees_of}

pub get_tree-trees_of : (i : ℕ) (ts : List Tree) → option_map tree_of (slice_get ts i) ≡ get_tree i (trees_of ts)
get_tree-trees_of i [] = refl
get_tree-trees_of zero (t ∷ ts) = refl
get_tree-trees_of (suc i) (t ∷ ts) = get_tree-trees_of i ts

pub map-option_copied : (o : Option (Bor Tree)) → option_map (λ (t : Bor Tree). tree_of t.now) o ≡ option_map tree_of (option_copied o)
map-option_copied None = refl
map-option_copied (Some t) = refl
