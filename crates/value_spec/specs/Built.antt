-- Annotated children as trees, and the steps of their sizes: one for each member, and a sixteenth of the bytes of each text.
use Rattle.std.specs.Prelude.{ℕ, zero, suc, length, Option, Some, None}
use Rattle.ytt_base.specs.declared.fault.FaultKind.TheVariants as kind
use Rattle.ytt_base.specs.declared.fault.Place.{Place}
use Rattle.ytt_base.specs.Trees.{Scalar, string, Tree, scalar, list, map, Trees, no_trees, tree, Pairs, no_pairs, pair}
use Rattle.code_spec.specs.Program.{ItemKind, document_item, pair_item, element_item}
use Rattle.value_spec.specs.Values.{child, Children, no_children, a_child, Body, one, map_of, list_of}
use Rattle.value_spec.specs.Outcomes.{Computation, paid, paid_by, give, fail, ◌>>=◌}
use Rattle.value_spec.specs.Keys.{text_cost}

-- ---- the tree of annotated children, without their notes

abbrev mutual
  pub body_tree : Body → Tree
  body_tree (one t) = t
  body_tree (map_of cs) = map (children_pairs cs)
  body_tree (list_of cs) = list (children_trees cs)

  pub children_trees : Children → Trees
  children_trees no_children = no_trees
  children_trees (a_child (child p ns x b) cs) = tree (body_tree b) (children_trees cs)

  pub children_pairs : Children → Pairs
  children_pairs no_children = no_pairs
  children_pairs (a_child (child p ns (Some x) b) cs) = pair x (body_tree b) (children_pairs cs)
  children_pairs (a_child (child p ns None b) cs) = children_pairs cs

-- what a fragment of these items is
abbrev pub fragment_body : ItemKind → Children → Body
fragment_body document_item cs = list_of cs
fragment_body pair_item cs = map_of cs
fragment_body element_item cs = list_of cs

-- ---- steps and depth of trees and children, where so many levels are left

abbrev pub scalar_paid : {H : Type 0} → Place → Scalar → Computation H (Unit {0})
scalar_paid p (string t) = paid_by (text_cost (length t)) p (give tt)
scalar_paid p x = give tt

abbrev pub key_paid : {H : Type 0} → Place → Option Scalar → Computation H (Unit {0})
key_paid p None = give tt
key_paid p (Some x) = scalar_paid p x

-- a collection, one level down
abbrev pub below : {H A : Type 0} → Place → ℕ → (ℕ → Computation H A) → Computation H A
below p zero f = fail kind.TooDeep p
below p (suc n) f = f n

abbrev mutual
  pub tree_paid : {H : Type 0} → Place → ℕ → Tree → Computation H (Unit {0})
  tree_paid p n (scalar x) = scalar_paid p x
  tree_paid p n (list ts) = below p n (λ m. trees_paid p m ts)
  tree_paid p n (map ps) = below p n (λ m. pairs_paid p m ps)

  pub trees_paid : {H : Type 0} → Place → ℕ → Trees → Computation H (Unit {0})
  trees_paid p n no_trees = give tt
  trees_paid p n (tree t ts) = paid p (tree_paid p n t) >>= λ u. trees_paid p n ts

  pub pairs_paid : {H : Type 0} → Place → ℕ → Pairs → Computation H (Unit {0})
  pairs_paid p n no_pairs = give tt
  pairs_paid p n (pair x t ps) = paid p (scalar_paid p x) >>= λ u. tree_paid p n t >>= λ v. pairs_paid p n ps

abbrev mutual
  pub children_paid : {H : Type 0} → Place → ℕ → Children → Computation H (Unit {0})
  children_paid p n no_children = give tt
  children_paid p n (a_child (child q ns x b) cs) = paid p (key_paid p x) >>= λ u. body_paid p n b >>= λ v. children_paid p n cs

  pub body_paid : {H : Type 0} → Place → ℕ → Body → Computation H (Unit {0})
  body_paid p n (one t) = tree_paid p n t
  body_paid p n (map_of cs) = below p n (λ m. children_paid p m cs)
  body_paid p n (list_of cs) = below p n (λ m. children_paid p m cs)
