-- The documents of printed trees have no key twice, and none is null.
use Rattle.std.proofs.Common.{◌≡◌, false, List, [], ◌∷◌, None, Ok, refl, sym, ◌∙◌, ap, subst}
use Rattle.std.proofs.lemmas.Bool.{or_parts, or_from}
use Rattle.ytt_laws.proofs.Keys.{same_key-sym}
use Rattle.ytt_base.specs.Trees.{Scalar, same_key, has_key, keys, Trees, no_trees, tree, IsTree, AreTrees, ArePairs, Writable}
use Rattle.yaml_spec.specs.Noted.{Content, noted_scalar, noted_list, noted_map, Items, no_items, item, Documents, key_of, bare_tree, bare_trees, bare_pairs, drop_null, twice, twice_below, twice_among}
use Rattle.yaml_spec.specs.Read.{distinct}

-- none of these keys is among those
unfoldable pub AllNew : List Scalar → List Scalar → Type 0
AllNew ks [] = Unit {0}
AllNew ks (l ∷ ls) = (has_key l ks ≡ false) × AllNew ks ls

all_new-nil : (ls : List Scalar) → AllNew [] ls
unfolding AllNew
all_new-nil [] = tt
all_new-nil (l ∷ ls) = (refl, all_new-nil ls)

all_new-cons : (k : Scalar) (ks ls : List Scalar) → has_key k ls ≡ false → AllNew ks ls → AllNew (k ∷ ks) ls
unfolding AllNew
all_new-cons k ks [] e h = tt
all_new-cons k ks (l ∷ ls) e h =
    let p = or_parts (same_key k l) (has_key k ls) e in
    (or_from (same_key l k) (has_key l ks) (same_key-sym l k ∙ p.0) h.0, all_new-cons k ks ls p.1 h.1)

mutual
  unfolding AllNew

  pub twice-none : (c : Content) → IsTree (bare_tree c) → twice c ≡ None
  twice-none (noted_scalar t) h = refl
  twice-none (noted_list is) h = below-none is h
  twice-none (noted_map is) h = among-none is [] h (all_new-nil (keys (bare_pairs is)))

  pub below-none : (is : Items) → AreTrees (bare_trees is) → twice_below is ≡ None
  below-none no_items h = refl
  below-none (item n c is) h = rw (twice-none c h.0) (below-none is h.1)

  among-none : (is : Items) (ks : List Scalar) → ArePairs (bare_pairs is) → AllNew ks (keys (bare_pairs is)) → twice_among ks is ≡ None
  among-none no_items ks h n = refl
  among-none (item m c is) ks h n = rw (n.0, twice_among, twice-none c h.1) (among-none is (key_of m ∷ ks) h.3 (all_new-cons (key_of m) ks (keys (bare_pairs is)) h.2 n.1))

pub distinct-back : (ds : Documents) (ts : Trees) → bare_trees ds.items ≡ ts → AreTrees ts → distinct ds ≡ Ok ds
unfolding distinct
distinct-back ds ts e h = rw (below-none ds.items (subst AreTrees (sym e) h), distinct) refl

pub drop-back : (ts : Trees) → Writable ts → drop_null ts ≡ ts
drop-back no_trees w = refl
drop-back (tree t ts) w = rw (w.0, drop_null) (ap (λ us. tree t us) (drop-back ts w.2))
