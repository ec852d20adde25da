-- What is spread is the same tree, and takes the same steps.
use Rattle.star_steps.proofs.Names.{◌≡◌, ℕ, zero, suc, Some, None, refl, sym, ap, ◌∙◌, Place, scalar, list, Trees, no_trees, tree, Pairs, no_pairs, pair, ItemKind, equal_by, equal_trees, inside_at, fragment_body, body_tree, children_trees, children_pairs, body_paid, children_paid, key_paid, pairs_paid, scalar_paid, tree_paid, trees_paid, Computation, State, Ending, done, bad, asks, give, paid, take_steps, then_do, ◌>>=◌, child, Children, no_children, a_child, Body, one, map_of, list_of, fragment_value}
use Rattle.ytt_base.specs.Trees.{Tree, map}
use Rattle.value_spec.specs.Built.{below}
use Rattle.star_fragments.specs.Nodes.{spread, spread_trees, spread_pairs, spread_body, spread_children}

-- ---- the tree

mutual
  pub spread_tree : (t : Tree) → body_tree (spread t) ≡ t
  spread_tree (scalar x) = refl
  spread_tree (list ts) = ap list (spread_all ts)
  spread_tree (map ps) = ap map (spread_each ps)

  pub spread_all : (ts : Trees) → children_trees (spread_trees ts) ≡ ts
  spread_all no_trees = refl
  spread_all (tree t ts) = λ i. tree (spread_tree t i) (spread_all ts i)

  pub spread_each : (ps : Pairs) → children_pairs (spread_pairs ps) ≡ ps
  spread_each no_pairs = refl
  spread_each (pair x t ps) = λ i. pair x (spread_tree t i) (spread_each ps i)

mutual
  pub body_spread : (b : Body) → body_tree (spread_body b) ≡ body_tree b
  body_spread (one t) = spread_tree t
  body_spread (map_of cs) = ap map (pairs_spread cs)
  body_spread (list_of cs) = ap list (trees_spread cs)

  pub trees_spread : (cs : Children) → children_trees (spread_children cs) ≡ children_trees cs
  trees_spread no_children = refl
  trees_spread (a_child (child p ns x b) cs) = λ i. tree (body_spread b i) (trees_spread cs i)

  pub pairs_spread : (cs : Children) → children_pairs (spread_children cs) ≡ children_pairs cs
  pairs_spread no_children = refl
  pairs_spread (a_child (child p ns (Some x) b) cs) = λ i. pair x (body_spread b i) (pairs_spread cs i)
  pairs_spread (a_child (child p ns None b) cs) = pairs_spread cs

-- ---- the steps

abbrev Acts : Type 0
Acts = Computation (Unit {0}) (Unit {0})

abbrev nothing : Acts
nothing = give tt

-- a step and nothing, and then an act
after_nothing : (o : Ending (Unit {0}) (Unit {0})) (m k : Acts) → then_do (then_do o (λ u. nothing)) (λ u. m >>= λ v. k) ≡ then_do (then_do o (λ u. m)) (λ u. k)
after_nothing (done u s) m k = refl
after_nothing (bad f s) m k = refl
after_nothing (asks q s n) m k = λ i. asks q s (λ got t. after_nothing (n got t) m k i)

no_key : (p : Place) (m k : Acts) → (paid p (key_paid p None) >>= λ u. m >>= λ v. k) ≡ (paid p m >>= λ u. k)
no_key p m k = λ i s. after_nothing (take_steps 1 p s) m k i

mutual
  pub spread_paid : (p : Place) (n : ℕ) (t : Tree) → body_paid {H = Unit {0}} p n (spread t) ≡ tree_paid p n t
  spread_paid p n (scalar x) = refl
  spread_paid p n (list ts) = ap (below p n) (λ i m. trees_paid_spread p m ts i)
  spread_paid p n (map ps) = ap (below p n) (λ i m. pairs_paid_spread p m ps i)

  trees_paid_spread : (p : Place) (n : ℕ) (ts : Trees) → children_paid {H = Unit {0}} p n (spread_trees ts) ≡ trees_paid p n ts
  trees_paid_spread p n no_trees = refl
  trees_paid_spread p n (tree t ts) = no_key p (body_paid p n (spread t)) (children_paid p n (spread_trees ts)) ∙ (λ i. paid p (spread_paid p n t i) >>= λ u. trees_paid_spread p n ts i)

  pairs_paid_spread : (p : Place) (n : ℕ) (ps : Pairs) → children_paid {H = Unit {0}} p n (spread_pairs ps) ≡ pairs_paid p n ps
  pairs_paid_spread p n no_pairs = refl
  pairs_paid_spread p n (pair x t ps) = λ i. paid p (scalar_paid p x) >>= λ u. spread_paid p n t i >>= λ v. pairs_paid_spread p n ps i

mutual
  pub body_paid_spread : (p : Place) (n : ℕ) (b : Body) → body_paid {H = Unit {0}} p n (spread_body b) ≡ body_paid p n b
  body_paid_spread p n (one t) = spread_paid p n t
  body_paid_spread p n (map_of cs) = ap (below p n) (λ i m. children_paid_spread p m cs i)
  body_paid_spread p n (list_of cs) = ap (below p n) (λ i m. children_paid_spread p m cs i)

  pub children_paid_spread : (p : Place) (n : ℕ) (cs : Children) → children_paid {H = Unit {0}} p n (spread_children cs) ≡ children_paid p n cs
  children_paid_spread p n no_children = refl
  children_paid_spread p n (a_child (child q ns x b) cs) = λ i. paid p (key_paid p x) >>= λ u. body_paid_spread p n b i >>= λ v. children_paid_spread p n cs i

-- ---- equality

pub fragments_by : (n : ℕ) (p : Place) (k j : ItemKind) (cs ds : Children) (x y : Body) (s : State (Unit {0})) → x ≡ spread_body (fragment_body k cs) → y ≡ spread_body (fragment_body j ds) →
    equal_by (inside_at n p) p (fragment_value k cs) (fragment_value j ds) s ≡ equal_trees p n (body_tree x) (body_tree y) s
fragments_by n p k j cs ds x y s e f =
    let g : body_tree (fragment_body k cs) ≡ body_tree x = sym (ap body_tree e ∙ body_spread (fragment_body k cs)) in
    let h : body_tree (fragment_body j ds) ≡ body_tree y = sym (ap body_tree f ∙ body_spread (fragment_body j ds)) in
    inside n (body_tree (fragment_body k cs)) (body_tree (fragment_body j ds)) ∙ (λ i. equal_trees p n (g i) (h i) s)
  where
    inside : (n : ℕ) (t u : Tree) → (inside_at n p).trees t u s ≡ equal_trees p n t u s
    inside zero t u = refl
    inside (suc n) t u = refl
