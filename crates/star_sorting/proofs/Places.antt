-- Members and keys by their places.
use Rattle.star_steps.proofs.Names.{◌≡◌, ℕ, zero, suc, ◌+◌, ◌<◌, ◌≤◌, Bool, true, false, cond, List, [], ◌∷◌, ◌++◌, Some, None, Result, Ok, Err, IfOk, subst, drop, length, min, refl, sym, ap, ◌∙◌, add-one, append-nil, arith, drop_of_length-le, drop-cons, Owns, OwnsAll, View, value_of, values_of}
use Rattle.std.proofs.Common.{map as each, ⊎_elim}
use Rattle.std.proofs.lemmas.Bool.{cases_lt}
use Rattle.std.proofs.lemmas.Simd.{map-map}
use Rattle.std.specs.Cmp.{IsStrictWeakOrder}
use Rattle.std.specs.List.Sorted.{IsSortedBy, IsStableBy}
use Rattle.builtin_spec.specs.Sorting.{beside, comes_before, in_order, placed, sorted_by}
use Rattle.star_sorting.specs.Places.{beside_from, earlier, first_in, in_order_of, pair_at, value_at}
use Rattle.star_sorting.proofs.Laws.{is_order, order_through}
use Rattle.star_sorting.proofs.Stable.{sorted_each, stable_sort}
use Rattle.star_values.specs.declared.value.Value.{Value}
use Rattle.star_values.specs.declared.value.Value.TheVariants as value
use Rattle.value_spec.specs.Store.{first_of}
use Rattle.value_spec.specs.Values as plain

-- ---- owned

pub owned_at : (a : View) (vs : List Value) (i : ℕ) → OwnsAll a vs → Owns a (value_at vs i)
owned_at a [] zero h = tt
owned_at a [] (suc i) h = tt
owned_at a (v ∷ vs) zero h = h.0
owned_at a (v ∷ vs) (suc i) h = owned_at a vs i h.1

pub owned_each : (a : View) (vs : List Value) (places : List ℕ) → OwnsAll a vs → OwnsAll a (each (value_at vs) places)
owned_each a vs [] h = tt
owned_each a vs (i ∷ places) h = (owned_at a vs i h, owned_each a vs places h)

-- ---- one before the other

pub earlier_orders : (d : Bool) (a : View) (ks : List Value) → IsStrictWeakOrder (earlier d a ks)
unfolding earlier
earlier_orders d a ks = order_through (comes_before d a.store) (λ i. value_of a (value_at ks i)) (is_order d a.store)

-- ---- those from a place on

pub next_place : (a : View) (ks vs : List Value) (i : ℕ) → i < length ks → i < length vs → beside_from a ks vs i ≡ pair_at a ks vs i ∷ beside_from a ks vs (i + 1)
next_place a ks vs i h k =
    (λ j. beside (values_of a (drop-cons ks i value.None h j)) (values_of a (drop-cons vs i value.None k j)))
    ∙ ap (λ n. pair_at a ks vs i ∷ beside_from a ks vs n) (sym (add-one i))

none_beside : (ks : List plain.Value) → beside ks [] ≡ []
none_beside [] = refl
none_beside (k ∷ ks) = refl

keys_end : (a : View) (ks vs : List Value) (i : ℕ) → length ks ≤ i → beside_from a ks vs i ≡ []
keys_end a ks vs i h = ap (λ l. beside (values_of a l) (values_of a (drop i vs))) (drop_of_length-le ks h)

members_end : (a : View) (ks vs : List Value) (i : ℕ) → length vs ≤ i → beside_from a ks vs i ≡ []
members_end a ks vs i h = ap (λ l. beside (values_of a (drop i ks)) (values_of a l)) (drop_of_length-le vs h) ∙ none_beside _

-- where the fewer of the two end
pub places_end : (a : View) (ks vs : List Value) (i : ℕ) → min (length ks) (length vs) ≤ i → beside_from a ks vs i ≡ []
places_end a ks vs i h = ⊎_elim (λ l. keys_end a ks vs i (omega arith)) (λ l. members_end a ks vs i (omega arith)) (cases_lt (length ks) (length vs))

-- none is left then
pub all_placed : (a : View) (ks vs : List Value) (i : ℕ) (qs : List (plain.Value × plain.Value)) → min (length ks) (length vs) ≤ i → qs ++ beside_from a ks vs i ≡ qs
all_placed a ks vs i qs h = ap (λ l. qs ++ l) (places_end a ks vs i h) ∙ append-nil qs

-- ---- the first

-- the first of one more
first_more : {B : Type 0} (before : B → B → Bool) (p q : B) (l : List B) (r : Bool) → Some q ≡ first_in l → before q p ≡ r → Some (cond r q p) ≡ first_in (placed before p l)
first_more before p q [] r e h = cc
first_more before p q (t ∷ ts) true e h = let same : q ≡ t = cc in e ∙ sym (ap (λ b. first_in (cond b (t ∷ placed before p ts) (p ∷ t ∷ ts))) (ap (λ q. before q p) (sym same) ∙ h))
first_more before p q (t ∷ ts) false e h = let same : q ≡ t = cc in sym (ap (λ b. first_in (cond b (t ∷ placed before p ts) (p ∷ t ∷ ts))) (ap (λ q. before q p) (sym same) ∙ h))

module _ (d : Bool) (a : View) (ks vs : List Value) (i : ℕ) (h : i < length ks) (k : i < length vs) where
  pub first_begins : min (length ks) (length vs) ≤ i + 1 → Some (pair_at a ks vs i) ≡ first_in (in_order_of d a (beside_from a ks vs i))
  unfolding in_order_of
  first_begins e = ap (λ qs. first_in (sorted_by (λ q r. comes_before d a.store q.0 r.0) qs)) (sym (next_place a ks vs i h k ∙ ap (λ qs. pair_at a ks vs i ∷ qs) (places_end a ks vs (i + 1) e)))

  next_first : (n y : ℕ) (r : Bool) → n ≡ i + 1 → earlier d a ks y i ≡ r → Some (pair_at a ks vs y) ≡ first_in (in_order_of d a (beside_from a ks vs n)) → Some (cond r (pair_at a ks vs y) (pair_at a ks vs i)) ≡ first_in (in_order_of d a (beside_from a ks vs i))
  unfolding earlier in_order_of
  next_first n y r is e f =
      let before = λ (q r : plain.Value × plain.Value). comes_before d a.store q.0 r.0 in
      first_more before (pair_at a ks vs i) (pair_at a ks vs y) (sorted_by before (beside_from a ks vs (i + 1))) r (f ∙ ap (λ m. first_in (sorted_by before (beside_from a ks vs m))) is) e
      ∙ ap (λ qs. first_in (sorted_by before qs)) (sym (next_place a ks vs i h k))

  pub first_stays : (n y : ℕ) → n ≡ i + 1 → earlier d a ks y i ≡ true → Some (pair_at a ks vs y) ≡ first_in (in_order_of d a (beside_from a ks vs n)) → Some (pair_at a ks vs y) ≡ first_in (in_order_of d a (beside_from a ks vs i))
  first_stays n y is e f = next_first n y true is e f

  pub first_moves : (n y : ℕ) → n ≡ i + 1 → earlier d a ks y i ≡ false → Some (pair_at a ks vs y) ≡ first_in (in_order_of d a (beside_from a ks vs n)) → Some (pair_at a ks vs i) ≡ first_in (in_order_of d a (beside_from a ks vs i))
  first_moves n y is e f = next_first n y false is e f

first_member : (q : plain.Value × plain.Value) (qs : List (plain.Value × plain.Value)) → Some q ≡ first_in qs → first_of (each (λ q. q.1) qs) ≡ Some q.1
first_member q [] e = cc
first_member q (t ∷ ts) e = let same : q ≡ t = cc in ap (λ q. Some q.1) (sym same)

module _ (d : Bool) (a : View) (ks vs : List Value) where
  pub no_first : min (length ks) (length vs) ≤ 0 → first_of (in_order d a.store (values_of a vs) (values_of a ks)) ≡ None
  no_first h = ap (λ qs. first_of (each (λ q. q.1) (sorted_by (λ q r. comes_before d a.store q.0 r.0) qs))) (places_end a ks vs 0 h)

  pub first_is : (i place : ℕ) → Some (pair_at a ks vs i) ≡ first_in (in_order_of d a (beside_from a ks vs place)) → place ≤ 0 → first_of (in_order d a.store (values_of a vs) (values_of a ks)) ≡ Some (value_of a (value_at vs i))
  unfolding in_order_of
  first_is i zero e h = first_member (pair_at a ks vs i) _ e
  first_is i (suc place) e h = absurd (omega arith)

-- ---- all

-- what a stable sort by places gives, whose closure compares by the keys there
pub all_in_order : (d : Bool) (a : View) (ks vs : List Value) (places sorted : List ℕ) (compares : (ℕ → ℕ → Bool) → Type 0) → each (pair_at a ks vs) places ≡ beside (values_of a ks) (values_of a vs) →
    ((lt : ℕ → ℕ → Bool) → IsStrictWeakOrder lt → compares lt → IsSortedBy lt sorted) → ((lt : ℕ → ℕ → Bool) → IsStrictWeakOrder lt → compares lt → IsStableBy lt places sorted) → compares (earlier d a ks) →
    values_of a (each (value_at vs) sorted) ≡ in_order d a.store (values_of a vs) (values_of a ks)
unfolding earlier
all_in_order d a ks vs places sorted compares h up stable by =
    let orders = earlier_orders d a ks in
    let before = λ (q r : plain.Value × plain.Value). comes_before d a.store q.0 r.0 in
    let second = λ (q : plain.Value × plain.Value). q.1 in
    map-map (value_of a) (value_at vs) sorted ∙ sym (map-map second (pair_at a ks vs) sorted)
    ∙ ap (λ l. each second (each (pair_at a ks vs) l)) (stable_sort (earlier d a ks) orders places sorted (up (earlier d a ks) orders by) (stable (earlier d a ks) orders by))
    ∙ ap (each second) (sym (sorted_each before (pair_at a ks vs) places))
    ∙ ap (λ l. each second (sorted_by before l)) h

module _ {E : Type 0} (a : View) (vs : List Value) (places : List ℕ) where
  pub gathered_are : (r : Result (List Value) E) (ws : List plain.Value) → IfOk r (λ ms. ms ≡ each (value_at vs) places) → values_of a (each (value_at vs) places) ≡ ws → IfOk r (λ ms. values_of a ms ≡ ws)
  gathered_are (Ok ms) ws h e = ap (values_of a) h ∙ e
  gathered_are (Err x) ws h e = tt

  pub gathered_owned : (r : Result (List Value) E) → IfOk r (λ ms. ms ≡ each (value_at vs) places) → OwnsAll a vs → IfOk r (OwnsAll a)
  gathered_owned (Ok ms) h owned = subst (OwnsAll a) (sym h) (owned_each a vs places owned)
  gathered_owned (Err x) h owned = tt
