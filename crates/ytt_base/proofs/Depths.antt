-- The depth of the first trees of a list, as a loop over it meets them.
use Rattle.std.proofs.Common.{◌≡◌, ℕ, ◌+◌, ◌<◌, List, [], ◌∷◌, ◌++◌, length, get_or, take, max, min, nat_cmp, ap, ◌∙◌, sym, arith}
use Rattle.std.specs.Ordering.{ord_max}
use Rattle.std.proofs.lemmas.List.{take_more}
use Rattle.ytt_base.specs.declared.tree.Key.{Key}
use Rattle.ytt_base.specs.declared.tree.Tree.{Tree}
use Rattle.ytt_base.specs.Trees.{depth, trees_depth, pairs_depth}
use Rattle.ytt_base.specs.View.{tree_of, trees_of, pairs_of}

trees_depth-snoc : (ts : List Tree) (t : Tree) → trees_depth (trees_of (ts ++ t ∷ [])) ≡ max (trees_depth (trees_of ts)) (depth (tree_of t))
trees_depth-snoc [] t = omega arith
trees_depth-snoc (u ∷ us) t = omega (arith, trees_depth-snoc us t)

pairs_depth-snoc : (ps : List (Key × Tree)) (p : Key × Tree) → pairs_depth (pairs_of (ps ++ p ∷ [])) ≡ max (pairs_depth (pairs_of ps)) (depth (tree_of p.1))
pairs_depth-snoc [] p = omega arith
pairs_depth-snoc (q ∷ qs) p = omega (arith, pairs_depth-snoc qs p)

pub trees_depth-take : (ts : List Tree) (i : ℕ) (t : Tree) → i < length ts → t ≡ get_or ts i t → trees_depth (trees_of (take (i + 1) ts)) ≡ max (trees_depth (trees_of (take i ts))) (depth (tree_of t))
trees_depth-take ts i t h e = ap (λ us. trees_depth (trees_of us)) (take_more ts i t h ∙ ap (λ u. take i ts ++ u ∷ []) (sym e)) ∙ trees_depth-snoc (take i ts) t

pub pairs_depth-take : (ps : List (Key × Tree)) (i : ℕ) (p : Key × Tree) → i < length ps → p ≡ get_or ps i p → pairs_depth (pairs_of (take (i + 1) ps)) ≡ max (pairs_depth (pairs_of (take i ps))) (depth (tree_of p.1))
pairs_depth-take ps i p h e =
    ap (λ (qs : List (Key × Tree)). pairs_depth (pairs_of qs)) (take_more ps i p h ∙ ap (λ q. take i ps ++ q ∷ []) (sym e)) ∙ pairs_depth-snoc (take i ps) p

-- the greater of two capped numbers is the capped greater one
pub capped_max : (deepest found greater before here after cap : ℕ) → deepest ≡ min before cap → found ≡ min here cap
    → greater ≡ ord_max nat_cmp deepest found → after ≡ max before here → greater ≡ min after cap
capped_max deepest found greater before here after cap e f g h = grind arith
