-- Values that are made one after another, in an arena that grows.
use Rattle.star_steps.proofs.Names.{◌≡◌, ℕ, ◌+◌, ◌<◌, List, [], ◌∷◌, ◌++◌, length, drop, get_or, map, Result, Ok, Err, refl, sym, ap, subst, ◌∙◌, append_assoc, then_give, grows_same, map-append, drop_more, Scalar, null, boolean, integer, string, Memory, Key, key_of, pairs_of as entries_of, trees_of, tree_of-List, tree_of-Map, IsKey, Computation, Ending, done, bad, asks, then_do, give, new_dict, new_list, ◌>>=◌, put_pairs, fresh_pairs, fresh_value, fresh_values, value_of_scalar, MakesObject, Each, Grows, Owns, OwnsPair, View, value_of, values_of, Value, grows_then, owns_kept, value_kept, state_in, OwnsAll}
use Rattle.ytt_base.specs.declared.tree.Tree.{Tree}
use Rattle.ytt_base.specs.declared.tree.Tree as code
use Rattle.value_spec.specs.Values as plain
use Rattle.star_fragments.specs.Fresh.{Builds, OwnsPairs, each_made, pair_made, pair_of, pairs_of, value_made}

-- so many are made, and these are left to make
pub record MadeSoFar {T V A : Type 0} (one : View → V → A) (Owned : View → V → Type 0) (f : T → Computation (Unit {0}) A) (all left : List T) (made : List V) (a b : View) : Type 0 where
  pub meaning : (n : ℕ) → each_made f all (state_in a n) ≡ then_do (each_made f left (state_in b n)) (λ xs. give (map (one b) made ++ xs))
  pub owns : Each (Owned b) made
  pub grows : Grows a b

-- what is owned stays so, and is the same
abbrev Keeps : {V A : Type 0} → (View → V → A) → (View → V → Type 0) → Type 0
Keeps {V = V} one Owned = (a b : View) (v : V) → Grows a b → Owned a v → Owned b v × (one b v ≡ one a v)

pub keeps_value : Keeps value_of Owns
keeps_value a b v g o = (owns_kept a b v g o, value_kept a b v g o)

pub keeps_pair : Keeps pair_of OwnsPair
keeps_pair a b p g o =
    let k = value_kept a b p.0 g o.0 in
    ((owns_kept a b p.0 g o.0, owns_kept a b p.1 g o.1, subst IsKey (sym k) o.2), λ i. (k i, value_kept a b p.1 g o.1 i))

joined : {A : Type 0} (o : Ending (Unit {0}) (List A)) (ys zs : List A) (x : A) → zs ≡ ys ++ x ∷ [] → then_do (then_do o (λ xs. give (x ∷ xs))) (λ xs. give (ys ++ xs)) ≡ then_do o (λ xs. give (zs ++ xs))
joined (done xs s) ys zs x e = ap (λ l. done l s) (sym (ap (λ z. z ++ xs) e ∙ append_assoc ys (x ∷ []) xs))
joined (bad f s) ys zs x e = refl
joined (asks q s k) ys zs x e = λ i. asks q s (λ got t. joined (k got t) ys zs x e i)

module _ {T V A : Type 0} (one : View → V → A) (Owned : View → V → Type 0) (f : T → Computation (Unit {0}) A) where
  all_kept : (a b : View) (vs : List V) → Keeps one Owned → Grows a b → Each (Owned a) vs → Each (Owned b) vs × (map (one b) vs ≡ map (one a) vs)
  all_kept a b [] keeps g o = (tt, refl)
  all_kept a b (v ∷ vs) keeps g o =
      let k = keeps a b v g o.0 in
      let more = all_kept a b vs keeps g o.1 in
      ((k.0, more.0), λ i. k.1 i ∷ more.1 i)

  each_last : (a : View) (vs : List V) (v : V) → Each (Owned a) vs → Owned a v → Each (Owned a) (vs ++ v ∷ [])
  each_last a [] v o p = (p, tt)
  each_last a (w ∷ vs) v o p = (o.0, each_last a vs v o.1 p)

  -- none is made yet
  pub none_made : (all : List T) (vs : List V) (a : View) → vs ≡ [] → MadeSoFar one Owned f all all vs a a
  none_made all vs a e = subst (λ vs. MadeSoFar one Owned f all all vs a a) (sym e) (record { meaning = λ n. then_give (each_made f all (state_in a n)); owns = tt; grows = grows_same a })

  pub made_next : (all : List T) (i : ℕ) (t : T) (vs : List V) (v : V) (a b c : View) → Keeps one Owned → i < length all → t ≡ get_or all i t → MadeSoFar one Owned f all (drop i all) vs a b
      → ((n : ℕ) → f t (state_in b n) ≡ done (one c v) (state_in c n)) → Owned c v → Grows b c → MadeSoFar one Owned f all (drop (i + 1) all) (vs ++ v ∷ []) a c
  made_next all i t vs v a b c keeps lt is h m o g =
      let kept = all_kept b c vs keeps g h.owns in
      record {
        meaning = λ n. h.meaning n
            ∙ ap (λ l. then_do (each_made f l (state_in b n)) (λ xs. give (map (one b) vs ++ xs))) (drop_more all i t lt ∙ ap (λ t. t ∷ drop (i + 1) all) (sym is))
            ∙ ap (λ e. then_do (then_do e (λ x. each_made f (drop (i + 1) all) >>= λ xs. give (x ∷ xs))) (λ xs. give (map (one b) vs ++ xs))) (m n)
            ∙ joined (each_made f (drop (i + 1) all) (state_in c n)) (map (one b) vs) (map (one c) (vs ++ v ∷ [])) (one c v) (map-append (one c) vs (v ∷ []) ∙ ap (λ l. l ++ one c v ∷ []) kept.1);
        owns = each_last c vs v kept.0 o;
        grows = grows_then a b c h.grows g;
      }

-- want of memory
pub none_built : (m : Computation (Unit {0}) plain.Value) (r : Result Value Memory) (e : Memory) (a b : View) → r ≡ Err e → Grows a b → Builds value_of Owns m r a b
none_built m r e a b is g = subst (λ r. Builds value_of Owns m r a b) (sym is) (record { meaning = tt; owns = tt; grows = g })

-- ---- pairs

scalar_is_key : (x : Scalar) → IsKey (value_of_scalar x)
scalar_is_key null = tt
scalar_is_key (boolean b) = tt
scalar_is_key (integer z) = tt
scalar_is_key (string t) = tt

abbrev given : plain.Value → Ending (Unit {0}) plain.Value → plain.Value
given d (done v s) = v
given d (bad f s) = d
given d (asks q s k) = d

pub pair_built : (e : Key × Tree) (k v : Value) (a b c : View) → Builds value_of Owns (value_made e.1) (Ok v) a b → Builds value_of Owns (give (value_of_scalar (key_of e.0))) (Ok k) b c → Builds pair_of OwnsPair (pair_made e) (Ok (k, v)) a c
pair_built e k v a b c h g =
    let key : value_of_scalar (key_of e.0) ≡ value_of c k = ap (given plain.none_value) (g.meaning 0) in
    let kept = value_kept b c v g.grows h.owns in
    record {
      meaning = λ n. ap (λ o. then_do o (λ w. give (value_of_scalar (key_of e.0), w))) (h.meaning n)
          ∙ ap (λ o. then_do o (λ x. give (x, value_of b v))) (g.meaning n)
          ∙ ap (λ w. done (value_of c k, w) (state_in c n)) (sym kept);
      owns = (g.owns, owns_kept b c v g.grows h.owns, subst IsKey key (scalar_is_key (key_of e.0)));
      grows = grows_then a b c h.grows g.grows;
    }

-- ---- lists

trees_made : (ts : List Tree) → fresh_values (trees_of ts) ≡ each_made value_made ts
trees_made [] = refl
trees_made (t ∷ ts) = λ i. value_made t >>= λ v. trees_made ts i >>= λ vs. give (v ∷ vs)

list_made : (t : Tree) (ts : List Tree) → t ≡ code.List ts → value_made t ≡ (each_made value_made ts >>= new_list)
list_made t ts e = ap value_made e ∙ ap fresh_value (tree_of-List ts) ∙ (λ i. trees_made ts i >>= new_list)

pub list_built : (t : Tree) (ts : List Tree) (vs : List Value) (r : Result Value Memory) (a b c : View) → t ≡ code.List ts → Builds values_of OwnsAll (each_made value_made ts) (Ok vs) a b
    → MakesObject (plain.list_value (length b.store)) (plain.of_list (values_of b vs)) r b c → Builds value_of Owns (value_made t) r a c
list_built t ts vs (Ok v) a b c e h g = record {
  meaning = λ n. ap (λ m. m (state_in a n)) (list_made t ts e) ∙ ap (λ o. then_do o new_list) (h.meaning n)
      ∙ (λ i. done (sym g.value i) (record { store = sym g.store i; steps = n; host = tt }));
  owns = g.owns;
  grows = grows_then a b c h.grows g.grows;
}
list_built t ts vs (Err m) a b c e h g = record { meaning = tt; owns = tt; grows = grows_then a b c h.grows g.grows }

-- ---- dicts

after_value : (o : Ending (Unit {0}) plain.Value) (k : plain.Value) (m : Computation (Unit {0}) (List (plain.Value × plain.Value))) →
    then_do o (λ v. m >>= λ ms. give ((k, v) ∷ ms)) ≡ then_do (then_do o (λ v. give (k, v))) (λ x. m >>= λ xs. give (x ∷ xs))
after_value (done v s) k m = refl
after_value (bad f s) k m = refl
after_value (asks q s n) k m = λ i. asks q s (λ got t. after_value (n got t) k m i)

entries_made : (ps : List (Key × Tree)) → fresh_pairs (entries_of ps) ≡ each_made pair_made ps
entries_made [] = refl
entries_made (p ∷ ps) =
    (λ i. value_made p.1 >>= λ v. entries_made ps i >>= λ ms. give ((value_of_scalar (key_of p.0), v) ∷ ms))
    ∙ (λ i s. after_value (value_made p.1 s) (value_of_scalar (key_of p.0)) (each_made pair_made ps) i)

map_made : (t : Tree) (ps : List (Key × Tree)) → t ≡ code.Map ps → value_made t ≡ (each_made pair_made ps >>= λ ms. new_dict (put_pairs [] ms))
map_made t ps e = ap value_made e ∙ ap fresh_value (tree_of-Map ps) ∙ (λ i. entries_made ps i >>= λ ms. new_dict (put_pairs [] ms))

pub dict_built : (t : Tree) (ps : List (Key × Tree)) (qs : List (Value × Value)) (r : Result Value Memory) (a b c : View) → t ≡ code.Map ps → Builds pairs_of OwnsPairs (each_made pair_made ps) (Ok qs) a b
    → Builds value_of Owns (new_dict (put_pairs [] (pairs_of b qs))) r b c → Builds value_of Owns (value_made t) r a c
dict_built t ps qs (Ok v) a b c e h g = record {
  meaning = λ n. ap (λ m. m (state_in a n)) (map_made t ps e) ∙ ap (λ o. then_do o (λ ms. new_dict (put_pairs [] ms))) (h.meaning n) ∙ g.meaning n;
  owns = g.owns;
  grows = grows_then a b c h.grows g.grows;
}
dict_built t ps qs (Err m) a b c e h g = record { meaning = tt; owns = tt; grows = grows_then a b c h.grows g.grows }
