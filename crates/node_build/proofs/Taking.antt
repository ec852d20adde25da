-- Values that are taken over as trees.
use Rattle.std.proofs.Common.{◌≡◌, ◌+◌, ℕ, zero, suc, List, [], ◌∷◌, ◌++◌, drop, Result, Err, Some, refl, sym, ap, subst, ◌∙◌, rules, arith}
use Rattle.ytt_base.specs.declared.fault.Place.{Place}
use Rattle.ytt_base.specs.declared.fault.Stop.{Stop}
use Rattle.ytt_base.specs.declared.fault.Stop.TheVariants as stop
use Rattle.ytt_base.specs.declared.tree.Key.{Key}
use Rattle.ytt_base.specs.declared.tree.Tree.{Tree as Built}
use Rattle.ytt_base.specs.Trees.{Scalar, Tree, Trees, Pairs, no_trees, tree, no_pairs, pair, list, map}
use Rattle.ytt_base.specs.View.{key_of, pairs_of, tree_of, trees_of}
use Rattle.std.specs.Prelude.{slice_get}
use Rattle.ytt_laws.proofs.InTurn.{and_pairs, and_trees, pairs-last, pairs-none, trees-last, trees-none}
use Rattle.value_spec.specs.Outcomes.{Ending, State, done, asks, bad, give, paid, then_do, ◌>>=◌}
use Rattle.value_spec.specs.Values.{Value}
use Rattle.star_steps.proofs.Meeting.{meets_same, meets_stop}
use Rattle.star_steps.specs.Meets.{Meets}
use Rattle.template_meaning.specs.Take.{tree_of_value}
use Rattle.node_build.specs.Taking.{Gives, key_paid_for, list_taken, map_taken, member_taken, members_taken, pair_seen, pair_taken, pairs_taken}

-- ---- computations that go on

-- a value is what follows goes on from
pub meets_then : {B C D : Type 0} (onto : C → D) (s t : State (Unit {0})) (o : Ending (Unit {0}) B) (b : B) (k : B → Gives D) (r : Result C Stop) → o ≡ done b t → Meets onto r s (k b t) → Meets onto r s (then_do o k)
meets_then onto s t o b k r e h = subst (λ o. Meets onto r s (then_do o k)) (sym e) h

-- a refusal is the same whatever would have been given
pub meets_err : {A B C : Type 0} (view : A → B) (onto : C → B) (e : Stop) (s : State (Unit {0})) (o : Ending (Unit {0}) B) (r : Result C Stop) → Meets view (Err e) s o → r ≡ Err e → Meets onto r s o
meets_err view onto (stop.Fault f) s o r m e = subst (λ r. Meets onto r s o) (sym e) m
meets_err view onto stop.Memory s o r m e = subst (λ r. Meets onto r s o) (sym e) tt

-- a value, and what follows from it
pub done_then : {A B : Type 0} (o : Ending (Unit {0}) A) (a : A) (s : State (Unit {0})) (k : A → Gives B) (x : Ending (Unit {0}) B) → o ≡ done a s → k a s ≡ x → then_do o k ≡ x
done_then o a s k x e h = ap (λ o. then_do o k) e ∙ h

-- ---- one level

pub next_list : (n k : ℕ) (p : Place) (vs : List Value) → n ≡ suc k → list_taken n p vs ≡ (members_taken k p vs >>= λ ts. give (list ts))
next_list n k p vs e = ap (λ m. list_taken m p vs) e

pub next_map : (n k : ℕ) (p : Place) (ms : List (Value × Value)) → n ≡ suc k → map_taken n p ms ≡ (pairs_taken k p ms >>= λ ps. give (map ps))
next_map n k p ms e = ap (λ m. map_taken m p ms) e

pub member_form : (n : ℕ) (p : Place) (v : Value) → member_taken n p v ≡ paid p (tree_of_value n p v)
unfolding member_taken
member_form n p v = refl

pub pair_form : (n : ℕ) (p : Place) (m : Value × Value) → pair_taken n p m ≡ (key_paid_for p m.0 >>= λ x. tree_of_value n p m.1 >>= λ t. give (x, t))
unfolding pair_taken
pair_form n p m = refl

-- ---- members in turn

abbrev before_them : List Built → Trees → Gives Trees
before_them front ts = give (and_trees (trees_of front) ts)

abbrev before_pairs : List (Key × Built) → Pairs → Gives Pairs
before_pairs front ps = give (and_pairs (pairs_of front) ps)

module _ (n : ℕ) (p : Place) where
  -- what all members give, where those before these gave this and left this state
  abbrev pub SoFar : Ending (Unit {0}) Trees → List Built → List Value → State (Unit {0}) → Type 0
  SoFar all front vs s = all ≡ then_do (members_taken n p vs s) (before_them front)

  no_members : (s : State (Unit {0})) → members_taken n p [] s ≡ done no_trees s
  unfolding members_taken
  no_members s = refl

  abbrev and_more : List Value → Tree → Gives Trees
  and_more vs t = members_taken n p vs >>= λ ts. give (tree t ts)

  first_member : (v : Value) (vs : List Value) (s : State (Unit {0})) → members_taken n p (v ∷ vs) s ≡ then_do (member_taken n p v s) (and_more vs)
  unfolding members_taken member_taken
  first_member v vs s = refl

  pub members_start : (r : Ending (Unit {0}) Trees) → r ≡ then_do r (before_them [])
  members_start (done ts s) = refl
  members_start (bad f s) = refl
  members_start (asks q s k) = λ i. asks q s (λ got t. members_start (k got t) i)

  -- none is taken yet
  pub members_begin : (front : List Built) (vs : List Value) (s : State (Unit {0})) → front ≡ [] → SoFar (members_taken n p vs s) front vs s
  members_begin front vs s e = members_start (members_taken n p vs s) ∙ ap (λ l. then_do (members_taken n p vs s) (before_them l)) (sym e)

  regrouped : (front : List Built) (t : Built) (r : Ending (Unit {0}) Trees) → then_do (then_do r (λ ts. give (tree (tree_of t) ts))) (before_them front) ≡ then_do r (before_them (front ++ t ∷ []))
  regrouped front t (done ts s) = ap (λ all. done all s) (sym (trees-last front t ts))
  regrouped front t (bad f s) = refl
  regrouped front t (asks q s k) = λ i. asks q s (λ got u. regrouped front t (k got u) i)

  module _ (all : Ending (Unit {0}) Trees) (front : List Built) (v : Value) (vs : List Value) (s : State (Unit {0})) (h : SoFar all front (v ∷ vs) s) where
    split : all ≡ then_do (then_do (member_taken n p v s) (and_more vs)) (before_them front)
    split = h ∙ ap (λ o. then_do o (before_them front)) (first_member v vs s)

    -- one more tree
    pub members_next : (t : Built) (u : State (Unit {0})) → member_taken n p v s ≡ done (tree_of t) u → SoFar all (front ++ t ∷ []) vs u
    members_next t u e = split ∙ ap (λ o. then_do (then_do o (and_more vs)) (before_them front)) e ∙ regrouped front t (members_taken n p vs u)

    -- one is refused
    pub members_stop : (x : Stop) (u : State (Unit {0})) (r : Result (List Built) Stop) → Meets tree_of (Err x) u (member_taken n p v s) → r ≡ Err x → Meets trees_of r u all
    members_stop x u r m e =
        meets_same trees_of r u _ all split
        (meets_stop trees_of trees_of x u (then_do (member_taken n p v s) (and_more vs)) (before_them front) r (meets_stop tree_of trees_of x u (member_taken n p v s) (and_more vs) (Err x) m refl) e)

  -- all are turned
  pub members_all : (all : Ending (Unit {0}) Trees) (front : List Built) (s : State (Unit {0})) → SoFar all front [] s → all ≡ done (trees_of front) s
  members_all all front s h = h ∙ ap (λ o. then_do o (before_them front)) (no_members s) ∙ ap (λ ts. done ts s) (trees-none front)

  -- ---- pairs in turn

  abbrev pub PairsSoFar : Ending (Unit {0}) Pairs → List (Key × Built) → List (Value × Value) → State (Unit {0}) → Type 0
  PairsSoFar all front ms s = all ≡ then_do (pairs_taken n p ms s) (before_pairs front)

  no_pairs_left : (s : State (Unit {0})) → pairs_taken n p [] s ≡ done no_pairs s
  unfolding pairs_taken
  no_pairs_left s = refl

  abbrev and_pairs_more : List (Value × Value) → Scalar × Tree → Gives Pairs
  and_pairs_more ms e = pairs_taken n p ms >>= λ ps. give (pair e.0 e.1 ps)

  tree_between : (x : Scalar) (o : Ending (Unit {0}) Tree) (ms : List (Value × Value)) → then_do o (λ t. and_pairs_more ms (x, t)) ≡ then_do (then_do o (λ t. give (x, t))) (and_pairs_more ms)
  tree_between x (done t s) ms = refl
  tree_between x (bad f s) ms = refl
  tree_between x (asks q s k) ms = λ i. asks q s (λ got t. tree_between x (k got t) ms i)

  key_between : (o : Ending (Unit {0}) Scalar) (convert : Gives Tree) (ms : List (Value × Value)) → then_do o (λ x. convert >>= λ t. and_pairs_more ms (x, t)) ≡ then_do (then_do o (λ x. convert >>= λ t. give (x, t))) (and_pairs_more ms)
  key_between (done x s) convert ms = tree_between x (convert s) ms
  key_between (bad f s) convert ms = refl
  key_between (asks q s k) convert ms = λ i. asks q s (λ got t. key_between (k got t) convert ms i)

  first_pair : (m : Value × Value) (ms : List (Value × Value)) (s : State (Unit {0})) → pairs_taken n p (m ∷ ms) s ≡ then_do (pair_taken n p m s) (and_pairs_more ms)
  unfolding pairs_taken pair_taken
  first_pair m ms s = key_between (key_paid_for p m.0 s) (tree_of_value n p m.1) ms

  pub pairs_start : (r : Ending (Unit {0}) Pairs) → r ≡ then_do r (before_pairs [])
  pairs_start (done ts s) = refl
  pairs_start (bad f s) = refl
  pairs_start (asks q s k) = λ i. asks q s (λ got t. pairs_start (k got t) i)

  pub pairs_begin : (front : List (Key × Built)) (ms : List (Value × Value)) (s : State (Unit {0})) → front ≡ [] → PairsSoFar (pairs_taken n p ms s) front ms s
  pairs_begin front ms s e = pairs_start (pairs_taken n p ms s) ∙ ap (λ l. then_do (pairs_taken n p ms s) (before_pairs l)) (sym e)

  pairs_regrouped : (front : List (Key × Built)) (e : Key × Built) (r : Ending (Unit {0}) Pairs) → then_do (then_do r (λ ps. give (pair (key_of e.0) (tree_of e.1) ps))) (before_pairs front) ≡ then_do r (before_pairs (front ++ e ∷ []))
  pairs_regrouped front e (done ps s) = ap (λ all. done all s) (sym (pairs-last front e ps))
  pairs_regrouped front e (bad f s) = refl
  pairs_regrouped front e (asks q s k) = λ i. asks q s (λ got t. pairs_regrouped front e (k got t) i)

  module _ (all : Ending (Unit {0}) Pairs) (front : List (Key × Built)) (m : Value × Value) (ms : List (Value × Value)) (s : State (Unit {0})) (h : PairsSoFar all front (m ∷ ms) s) where
    pairs_split : all ≡ then_do (then_do (pair_taken n p m s) (and_pairs_more ms)) (before_pairs front)
    pairs_split = h ∙ ap (λ o. then_do o (before_pairs front)) (first_pair m ms s)

    pub pairs_next : (e : Key × Built) (u : State (Unit {0})) → pair_taken n p m s ≡ done (pair_seen e) u → PairsSoFar all (front ++ e ∷ []) ms u
    pairs_next e u d = pairs_split ∙ ap (λ o. then_do (then_do o (and_pairs_more ms)) (before_pairs front)) d ∙ pairs_regrouped front e (pairs_taken n p ms u)

    pub pairs_stop : (x : Stop) (u : State (Unit {0})) (r : Result (List (Key × Built)) Stop) → Meets pair_seen (Err x) u (pair_taken n p m s) → r ≡ Err x → Meets pairs_of r u all
    pairs_stop x u r d e =
        meets_same pairs_of r u _ all pairs_split
        (meets_stop pairs_of pairs_of x u (then_do (pair_taken n p m s) (and_pairs_more ms)) (before_pairs front) r (meets_stop pair_seen pairs_of x u (pair_taken n p m s) (and_pairs_more ms) (Err x) d refl) e)

  pub pairs_done : (all : Ending (Unit {0}) Pairs) (front : List (Key × Built)) (s : State (Unit {0})) → PairsSoFar all front [] s → all ≡ done (pairs_of front) s
  pairs_done all front s h = h ∙ ap (λ o. then_do o (before_pairs front)) (no_pairs_left s) ∙ ap (λ ps. done ps s) (pairs-none front)

-- ---- those that are left of members

pub drop_get : {X : Type 0} (xs : List X) (i : ℕ) (x : X) → slice_get xs i ≡ Some x → drop i xs ≡ x ∷ drop (i + 1) xs
drop_get [] i x e = absurd (search (rules, e))
drop_get (y ∷ ys) zero x e = let same : y ≡ x = search (rules, e) in ap (λ z. z ∷ ys) same
drop_get (y ∷ ys) (suc i) x e =
    let next : suc (i + 1) ≡ suc i + 1 = omega arith in
    drop_get ys i x e ∙ ap (λ j. x ∷ drop j (y ∷ ys)) next

module _ (n : ℕ) (p : Place) where
  pub left_members : (all : Ending (Unit {0}) Trees) (front : List Built) (vs ws : List Value) (s : State (Unit {0})) → vs ≡ ws → SoFar n p all front vs s → SoFar n p all front ws s
  left_members all front vs ws s e h = subst (λ vs. SoFar n p all front vs s) e h

  pub left_pairs : (all : Ending (Unit {0}) Pairs) (front : List (Key × Built)) (ms ns : List (Value × Value)) (s : State (Unit {0})) → ms ≡ ns → PairsSoFar n p all front ms s → PairsSoFar n p all front ns s
  left_pairs all front ms ns s e h = subst (λ ms. PairsSoFar n p all front ms s) e h

  -- the key and the tree of a pair
  pub pair_done : (m : Value × Value) (e : Key × Built) (s t u : State (Unit {0})) → key_paid_for p m.0 s ≡ done (key_of e.0) t → tree_of_value n p m.1 t ≡ done (tree_of e.1) u → pair_taken n p m s ≡ done (pair_seen e) u
  pair_done m e s t u k h = ap (λ (m : Gives (Scalar × Tree)). m s) (pair_form n p m) ∙ done_then _ _ _ _ _ k (done_then _ _ _ _ _ h refl)

  pub pair_key_stop : {K : Type 0} (view : K → Scalar) (m : Value × Value) (x : Stop) (s u : State (Unit {0})) (r : Result (Key × Built) Stop) → Meets view (Err x) u (key_paid_for p m.0 s) → r ≡ Err x → Meets pair_seen r u (pair_taken n p m s)
  pair_key_stop view m x s u r d e = meets_same pair_seen r u _ _ (ap (λ (m : Gives (Scalar × Tree)). m s) (pair_form n p m)) (meets_stop view pair_seen x u _ _ r d e)

  pub pair_tree_stop : (m : Value × Value) (k : Scalar) (x : Stop) (s t u : State (Unit {0})) (r : Result (Key × Built) Stop) → key_paid_for p m.0 s ≡ done k t → Meets tree_of (Err x) u (tree_of_value n p m.1 t) → r ≡ Err x → Meets pair_seen r u (pair_taken n p m s)
  pair_tree_stop m k x s t u r h d e =
      meets_same pair_seen r u _ _ (ap (λ (m : Gives (Scalar × Tree)). m s) (pair_form n p m))
      (meets_then pair_seen u t _ k _ r h (meets_stop tree_of pair_seen x u _ _ r d e))
