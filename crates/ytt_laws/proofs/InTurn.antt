-- Members of a list that are turned into trees and pairs one after another: what was turned, before what is left.
use Rattle.std.proofs.Common.{◌≡◌, ℕ, ◌+◌, ◌<◌, ◌≤◌, Bool, true, false, List, [], ◌∷◌, ◌++◌, length, drop, get_or, refl, sym, ap, ◌∙◌, if◌then◌else◌}
use Rattle.std.proofs.Math.ListN.{drop_of_length-le}
use Rattle.ytt_base.specs.declared.tree.Key.{Key}
use Rattle.ytt_base.specs.declared.tree.Tree.{Tree}
use Rattle.ytt_base.specs.Trees.{Trees, no_trees, tree, Pairs, no_pairs, pair}
use Rattle.ytt_base.specs.View.{key_of, pairs_of, tree_of, trees_of}
use Rattle.ytt_laws.proofs.Lists.{dropped}

-- trees, and others behind them
abbrev pub and_trees : Trees → Trees → Trees
and_trees no_trees us = us
and_trees (tree t ts) us = tree t (and_trees ts us)

-- pairs, and others behind them
abbrev pub and_pairs : Pairs → Pairs → Pairs
and_pairs no_pairs qs = qs
and_pairs (pair k t ps) qs = pair k t (and_pairs ps qs)

pub trees-last : (ts : List Tree) (t : Tree) (us : Trees) → and_trees (trees_of (ts ++ t ∷ [])) us ≡ and_trees (trees_of ts) (tree (tree_of t) us)
trees-last [] t us = refl
trees-last (u ∷ ts) t us = ap (tree (tree_of u)) (trees-last ts t us)

pub trees-none : (ts : List Tree) → and_trees (trees_of ts) no_trees ≡ trees_of ts
trees-none [] = refl
trees-none (u ∷ ts) = ap (tree (tree_of u)) (trees-none ts)

pub pairs-last : (ps : List (Key × Tree)) (p : Key × Tree) (qs : Pairs) → and_pairs (pairs_of (ps ++ p ∷ [])) qs ≡ and_pairs (pairs_of ps) (pair (key_of p.0) (tree_of p.1) qs)
pairs-last [] p qs = refl
pairs-last (q ∷ ps) p qs = ap (pair (key_of q.0) (tree_of q.1)) (pairs-last ps p qs)

pub pairs-none : (ps : List (Key × Tree)) → and_pairs (pairs_of ps) no_pairs ≡ pairs_of ps
pairs-none [] = refl
pairs-none (q ∷ ps) = ap (pair (key_of q.0) (tree_of q.1)) (pairs-none ps)

-- over members xs, where `turned` is what becomes of the members that are left
module _ {X : Type 0} (xs : List X) (j : ℕ) where
  -- all are turned
  pub trees_all : (turned : List X → Trees) (ts : List Tree) (all : Trees) → turned [] ≡ no_trees → length xs ≤ j → and_trees (trees_of ts) (turned (drop j xs)) ≡ all → trees_of ts ≡ all
  trees_all turned ts all n past h =
      sym (trees-none ts) ∙ ap (and_trees (trees_of ts)) (sym n ∙ ap turned (sym (drop_of_length-le xs past))) ∙ h

  pub pairs_all : (turned : List X → Pairs) (ps : List (Key × Tree)) (all : Pairs) → turned [] ≡ no_pairs → length xs ≤ j → and_pairs (pairs_of ps) (turned (drop j xs)) ≡ all → pairs_of ps ≡ all
  pairs_all turned ps all n past h =
      sym (pairs-none ps) ∙ ap (and_pairs (pairs_of ps)) (sym n ∙ ap turned (sym (drop_of_length-le xs past))) ∙ h

  -- one more is turned
  module _ (x : X) (lt : j < length xs) (is : x ≡ get_or xs j x) where
    pub trees_next : (turned : List X → Trees) (ts : List Tree) (t : Tree) (all : Trees) → turned (x ∷ drop (j + 1) xs) ≡ tree (tree_of t) (turned (drop (j + 1) xs)) →
        and_trees (trees_of ts) (turned (drop j xs)) ≡ all → and_trees (trees_of (ts ++ t ∷ [])) (turned (drop (j + 1) xs)) ≡ all
    trees_next turned ts t all e h =
        trees-last ts t (turned (drop (j + 1) xs)) ∙ ap (and_trees (trees_of ts)) (sym e ∙ ap turned (sym (dropped xs j x lt is))) ∙ h

    pub pairs_next : (turned : List X → Pairs) (ps : List (Key × Tree)) (k : Key) (t : Tree) (all : Pairs) → turned (x ∷ drop (j + 1) xs) ≡ pair (key_of k) (tree_of t) (turned (drop (j + 1) xs)) →
        and_pairs (pairs_of ps) (turned (drop j xs)) ≡ all → and_pairs (pairs_of (ps ++ (k, t) ∷ [])) (turned (drop (j + 1) xs)) ≡ all
    pairs_next turned ps k t all e h =
        pairs-last ps (k, t) (turned (drop (j + 1) xs)) ∙ ap (and_pairs (pairs_of ps)) (sym e ∙ ap turned (sym (dropped xs j x lt is))) ∙ h

    -- one more is passed over
    pub trees_skip : (turned : List X → Trees) (ts : List Tree) (all : Trees) → turned (x ∷ drop (j + 1) xs) ≡ turned (drop (j + 1) xs) →
        and_trees (trees_of ts) (turned (drop j xs)) ≡ all → and_trees (trees_of ts) (turned (drop (j + 1) xs)) ≡ all
    trees_skip turned ts all e h = ap (and_trees (trees_of ts)) (sym e ∙ ap turned (sym (dropped xs j x lt is))) ∙ h

    pub pairs_skip : (turned : List X → Pairs) (ps : List (Key × Tree)) (all : Pairs) → turned (x ∷ drop (j + 1) xs) ≡ turned (drop (j + 1) xs) →
        and_pairs (pairs_of ps) (turned (drop j xs)) ≡ all → and_pairs (pairs_of ps) (turned (drop (j + 1) xs)) ≡ all
    pairs_skip turned ps all e h = ap (and_pairs (pairs_of ps)) (sym e ∙ ap turned (sym (dropped xs j x lt is))) ∙ h

    -- one more is turned, unless a test says that it is passed over
    pub trees_unless : (turned : List X → Trees) (b : Bool) (ts : List Tree) (t : Tree) (all : Trees) →
        turned (x ∷ drop (j + 1) xs) ≡ (if b then turned (drop (j + 1) xs) else tree (tree_of t) (turned (drop (j + 1) xs))) →
        and_trees (trees_of ts) (turned (drop j xs)) ≡ all → and_trees (trees_of (if b then ts else ts ++ t ∷ [])) (turned (drop (j + 1) xs)) ≡ all
    trees_unless turned true ts t all e h = trees_skip turned ts all e h
    trees_unless turned false ts t all e h = trees_next turned ts t all e h
