-- The pairs of a map, and the elements of a list as such pairs.
use Rattle.star_steps.proofs.Names.{◌≡◌, ℕ, suc, ◌==◌, Bool, true, false, Option, None, if◌then◌else◌, refl, sym, ap, ◌∙◌, Place, Scalar, list, Trees, no_trees, tree, State, give, paid, Children, Body, and_then, equal_elements, equal_entries, equal_trees, pair_count, tree_count}
use Rattle.ytt_base.specs.Trees.{map}
use Rattle.value_spec.specs.Built.{below}
use Rattle.star_fragments.specs.Nodes.{a_part, as_pairs, pairs_among}

-- a part without a key is no pair
pub keyless_first : (cs rest : Children) (k : Option Scalar) (b : Body) (keyed : Bool) → cs ≡ a_part k b rest → keyed ≡ true → k ≡ None → pairs_among keyed cs ≡ pairs_among keyed rest
keyless_first cs rest k b keyed e t f = (λ i. pairs_among (t i) (e i)) ∙ ap (λ k. pairs_among true (a_part k b rest)) f ∙ (λ i. pairs_among (sym t i) rest)

-- ---- two lists are compared as two maps

as_many : (ts : Trees) → tree_count ts ≡ pair_count (as_pairs ts)
as_many no_trees = refl
as_many (tree t ts) = ap suc (as_many ts)

elements_as_pairs : (p : Place) (n : ℕ) (ts us : Trees) → equal_elements {H = Unit {0}} p n ts us ≡ equal_entries p n (as_pairs ts) (as_pairs us)
elements_as_pairs p n no_trees us = refl
elements_as_pairs p n (tree t ts) no_trees = refl
elements_as_pairs p n (tree t ts) (tree u us) = ap (and_then (paid p (equal_trees p n t u))) (elements_as_pairs p n ts us)

pub lists_as_maps : (p : Place) (n : ℕ) (ts us : Trees) (s : State (Unit {0})) → equal_trees p n (list ts) (list us) s ≡ equal_trees p n (map (as_pairs ts)) (map (as_pairs us)) s
lists_as_maps p n ts us s = λ i. below p n (λ m. if as_many ts i == as_many us i then elements_as_pairs p m ts us i else give false) s
