-- Items that are turned into trees and pairs one after another.
use Rattle.std.proofs.Common.{◌≡◌, ℕ, ◌+◌, ◌<◌, Bool, true, false, List, [], ◌∷◌, ◌++◌, length, drop, get_or, refl, sym, ap, ◌∙◌, if◌then◌else◌}
use Rattle.ytt_base.specs.declared.tree.Key.{Key}
use Rattle.ytt_base.specs.declared.tree.Tree.{Tree}
use Rattle.ytt_base.specs.Trees as trees
use Rattle.ytt_base.specs.Trees.{Trees, tree, Pairs, pair, is_null}
use Rattle.ytt_base.specs.View.{key_of as key_told, pairs_of, tree_of, trees_of}
use Rattle.ytt_laws.proofs.InTurn as turned
use Rattle.ytt_laws.proofs.InTurn.{and_pairs, and_trees}
use Rattle.yaml_noted.specs.declared.noted.NotedItem.{NotedItem}
use Rattle.yaml_noted.specs.View.{content_of, items_of, note_of}
use Rattle.yaml_noted.proofs.Views.{noted_of-item}
use Rattle.yaml_spec.specs.Noted.{Items, item, bare_pairs, bare_tree, bare_trees, drop_null, key_of}

unless : (b : Bool) (t : trees.Tree) (ts : Trees) → elim b as (λ _. Trees) [ true ↦ ts | false ↦ tree t ts ] ≡ (if b then ts else tree t ts)
unless true t ts = refl
unless false t ts = refl

-- one more is turned
module _ (items : List NotedItem) (j : ℕ) (i : NotedItem) (lt : j < length items) (is : i ≡ get_or items j i) where
  abbrev left : Items
  left = items_of (drop (j + 1) items)

  one : items_of (i ∷ drop (j + 1) items) ≡ item (note_of i) (content_of i.content) left
  one = ap (λ x. item x.0 x.1 left) (noted_of-item i)

  pub trees_next : (ts : List Tree) (t : Tree) (all : Trees) → tree_of t ≡ bare_tree (content_of i.content) → and_trees (trees_of ts) (bare_trees (items_of (drop j items))) ≡ all → and_trees (trees_of (ts ++ t ∷ [])) (bare_trees left) ≡ all
  trees_next ts t all e h = turned.trees_next items j i lt is (λ xs. bare_trees (items_of xs)) ts t all (ap bare_trees one ∙ ap (λ u. tree u (bare_trees left)) (sym e)) h

  pub pairs_next : (ps : List (Key × Tree)) (k : Key) (t : Tree) (all : Pairs) → key_told k ≡ key_of (note_of i) → tree_of t ≡ bare_tree (content_of i.content)
      → and_pairs (pairs_of ps) (bare_pairs (items_of (drop j items))) ≡ all → and_pairs (pairs_of (ps ++ (k, t) ∷ [])) (bare_pairs left) ≡ all
  pairs_next ps k t all f e h = turned.pairs_next items j i lt is (λ xs. bare_pairs (items_of xs)) ps k t all (ap bare_pairs one ∙ (λ x. pair (sym f x) (sym e x) (bare_pairs left))) h

  -- a document, unless it is null
  pub documents_next : (ts : List Tree) (t : Tree) (all : Trees) → tree_of t ≡ bare_tree (content_of i.content) → and_trees (trees_of ts) (drop_null (bare_trees (items_of (drop j items)))) ≡ all
      → and_trees (trees_of (if is_null (tree_of t) then ts else ts ++ t ∷ [])) (drop_null (bare_trees left)) ≡ all
  documents_next ts t all e h =
      turned.trees_unless items j i lt is (λ xs. drop_null (bare_trees (items_of xs))) (is_null (tree_of t)) ts t all
      (ap (λ js. drop_null (bare_trees js)) one ∙ ap (λ u. drop_null (tree u (bare_trees left))) (sym e) ∙ unless (is_null (tree_of t)) (tree_of t) (drop_null (bare_trees left))) h
