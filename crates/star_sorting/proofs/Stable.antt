-- A sort by insertion gives the one list that is in order and keeps the order of those that tie.
use Rattle.star_steps.proofs.Names.{◌≡◌, suc, Bool, true, false, cond, not, ◌&&◌, List, [], ◌∷◌, refl, sym, ap, ◌∙◌, add-one, arith}
use Rattle.std.proofs.Common.{map as each, filter, true≢false}
use Rattle.std.proofs.lemmas.Bool.{cond_both}
use Rattle.std.specs.Cmp.{IsStrictWeakOrder}
use Rattle.std.specs.List.Sorted.{IsSortedBy, IsStableBy, ties}
use Rattle.builtin_spec.specs.Sorting.{placed, sorted_by}

both_false : (a b : Bool) → not a && not b ≡ true → (a ≡ false) × (b ≡ false)
both_false true b h = absurd (true≢false (sym h))
both_false false true h = absurd (true≢false (sym h))
both_false false false h = (refl, refl)

never : (b : Bool) → (b ≡ true → b ≡ false) → b ≡ false
never true h = h refl
never false h = refl

-- two of which at most one is kept, in either order
either_order : {X : Type 0} (s t : Bool) (x y : X) (l : List X) → (s ≡ true → t ≡ true → ⊥) → cond t (y ∷ cond s (x ∷ l) l) (cond s (x ∷ l) l) ≡ cond s (x ∷ cond t (y ∷ l) l) (cond t (y ∷ l) l)
either_order true true x y l h = absurd (h refl refl)
either_order true false x y l h = refl
either_order false t x y l h = refl

tail_kept : {X : Type 0} (b : Bool) (x y : X) (l m : List X) → x ≡ y → cond b (x ∷ l) l ≡ cond b (y ∷ m) m → l ≡ m
tail_kept true x y l m same e = cc
tail_kept false x y l m same e = e

module _ {X : Type 0} (lt : X → X → Bool) (o : IsStrictWeakOrder lt) where
  -- none of these comes before x
  abbrev Low : X → List X → Type 0
  Low x [] = Unit {0}
  Low x (y ∷ ys) = (lt y x ≡ false) × Low x ys

  -- none comes before an earlier one
  abbrev Up : List X → Type 0
  Up [] = Unit {0}
  Up (x ∷ xs) = Low x xs × Up xs

  low_weaker : (x y : X) (ys : List X) → lt y x ≡ false → Low y ys → Low x ys
  low_weaker x y [] h low = tt
  low_weaker x y (z ∷ zs) h low = (o.chain z y x low.0 h, low_weaker x y zs h low.1)

  -- ---- what the insertion gives

  low_placed : (x y : X) (ys : List X) → lt x y ≡ false → Low y ys → Low y (placed lt x ys)
  low_placed x y [] h low = (h, tt)
  low_placed x y (z ∷ zs) h low = cond_both (lt z x) (z ∷ placed lt x zs) (x ∷ z ∷ zs) (Low y) (λ e. (low.0, low_placed x y zs h low.1)) (λ e. (h, low))

  up_placed : (x : X) (ys : List X) → Up ys → Up (placed lt x ys)
  up_placed x [] up = (tt, tt)
  up_placed x (y ∷ ys) up = cond_both (lt y x) (y ∷ placed lt x ys) (x ∷ y ∷ ys) Up (λ e. (low_placed x y ys (o.one_way y x e) up.0, up_placed x ys up.1)) (λ e. ((e, low_weaker x y ys e up.0), up))

  up_sorted : (xs : List X) → Up (sorted_by lt xs)
  up_sorted [] = tt
  up_sorted (x ∷ xs) = up_placed x (sorted_by lt xs) (up_sorted xs)

  kept_placed : (z x : X) (ys : List X) → filter (ties lt z) (placed lt x ys) ≡ filter (ties lt z) (x ∷ ys)
  kept_placed z x [] = refl
  kept_placed z x (y ∷ ys) =
      cond_both (lt y x) (y ∷ placed lt x ys) (x ∷ y ∷ ys) (λ l. filter (ties lt z) l ≡ filter (ties lt z) (x ∷ y ∷ ys))
      (λ e. ap (λ l. cond (ties lt z y) (y ∷ l) l) (kept_placed z x ys)
      ∙ either_order (ties lt z x) (ties lt z y) x y (filter (ties lt z) ys) (λ p q. true≢false (sym e ∙ o.chain y z x (both_false (lt z y) (lt y z) q).1 (both_false (lt z x) (lt x z) p).0)))
      (λ e. refl)

  kept_sorted : (z : X) (xs : List X) → filter (ties lt z) (sorted_by lt xs) ≡ filter (ties lt z) xs
  kept_sorted z [] = refl
  kept_sorted z (x ∷ xs) = kept_placed z x (sorted_by lt xs) ∙ ap (λ l. cond (ties lt z x) (x ∷ l) l) (kept_sorted z xs)

  -- ---- there is one such list

  not_itself : (x : X) → lt x x ≡ false
  not_itself x = never (lt x x) (o.one_way x x)

  first_kept : (x : X) (xs : List X) → filter (ties lt x) (x ∷ xs) ≡ x ∷ filter (ties lt x) xs
  first_kept x xs = ap (λ b. cond (not b && not b) (x ∷ filter (ties lt x) xs) (filter (ties lt x) xs)) (not_itself x)

  -- where x comes before y, and none before that, none ties with x
  none_tie : (x y : X) (ys : List X) → Low y ys → lt x y ≡ true → filter (ties lt x) ys ≡ []
  none_tie x y [] low h = refl
  none_tie x y (z ∷ zs) low h =
      cond_both (ties lt x z) (z ∷ filter (ties lt x) zs) (filter (ties lt x) zs) (λ l. l ≡ []) (λ t. absurd (true≢false (sym h ∙ o.chain x z y (both_false (lt x z) (lt z x) t).0 low.0))) (λ t. none_tie x y zs low.1 h)

  not_before : (x y : X) (ys l : List X) → Low y ys → filter (ties lt x) (y ∷ ys) ≡ x ∷ l → lt x y ≡ false
  not_before x y ys l low e = never (lt x y) (λ h. let none = none_tie x y (y ∷ ys) (not_itself y, low) h in cc)

  same_list : (xs ys : List X) → Up xs → Up ys → ((z : X) → filter (ties lt z) xs ≡ filter (ties lt z) ys) → xs ≡ ys
  same_list [] [] p q h = refl
  same_list [] (y ∷ ys) p q h = let e = h y ∙ first_kept y ys in cc
  same_list (x ∷ xs) [] p q h = let e = sym (first_kept x xs) ∙ h x in cc
  same_list (x ∷ xs) (y ∷ ys) p q h =
      let below = not_before x y ys (filter (ties lt x) xs) q.0 (sym (h x) ∙ first_kept x xs) in
      let above = not_before y x xs (filter (ties lt y) ys) p.0 (h y ∙ first_kept y ys) in
      let heads : x ∷ filter (ties lt x) xs ≡ y ∷ filter (ties lt x) ys = sym (first_kept x xs) ∙ h x ∙ (λ i. cond (not (below i) && not (above i)) (y ∷ filter (ties lt x) ys) (filter (ties lt x) ys)) in
      let same : x ≡ y = cc in
      let rest = same_list xs ys p.1 q.1 (λ z. tail_kept (ties lt z y) x y _ _ same (ap (λ w. cond (ties lt z w) (x ∷ filter (ties lt z) xs) (filter (ties lt z) xs)) (sym same) ∙ h z)) in
      λ i. same i ∷ rest i

  up_of : (xs : List X) → IsSortedBy lt xs → Up xs
  up_of [] sorted = tt
  up_of (x ∷ []) sorted = (tt, tt)
  up_of (x ∷ y ∷ ys) sorted =
      let up = up_of (y ∷ ys) (λ k d p q. rw add-one (rw add-one at (sorted (suc k) d (omega arith) (omega arith)))) in
      let first : lt y x ≡ false = sorted 0 x (omega arith) (omega arith) in
      ((first, low_weaker x y ys first up.0), up)

  -- a stable sort gives what the insertion gives
  pub stable_sort : (xs ys : List X) → IsSortedBy lt ys → IsStableBy lt xs ys → ys ≡ sorted_by lt xs
  stable_sort xs ys sorted stable = same_list ys (sorted_by lt xs) (up_of ys sorted) (up_sorted xs) (λ z. stable z ∙ sym (kept_sorted z xs))

-- ---- lists that are mapped

placed_each : {A B : Type 0} (before : B → B → Bool) (f : A → B) (x : A) (ys : List A) → placed before (f x) (each f ys) ≡ each f (placed (λ a b. before (f a) (f b)) x ys)
placed_each before f x [] = refl
placed_each before f x (y ∷ ys) =
    elim (before (f y) (f x)) as (λ b. cond b (f y ∷ placed before (f x) (each f ys)) (f x ∷ f y ∷ each f ys) ≡ each f (cond b (y ∷ placed (λ a c. before (f a) (f c)) x ys) (x ∷ y ∷ ys)))
    [ true ↦ ap (λ l. f y ∷ l) (placed_each before f x ys) | false ↦ refl ]

pub sorted_each : {A B : Type 0} (before : B → B → Bool) (f : A → B) (xs : List A) → sorted_by before (each f xs) ≡ each f (sorted_by (λ a b. before (f a) (f b)) xs)
sorted_each before f [] = refl
sorted_each before f (x ∷ xs) = ap (placed before (f x)) (sorted_each before f xs) ∙ placed_each before f x _
