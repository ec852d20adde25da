-- What is picked at the places of a slice.
use Rattle.star_steps.proofs.Names.{◌≡◌, ℕ, zero, suc, ◌+◌, ℤ, pos, ◌+ℤ◌, ◌*ℤ◌, List, [], ◌∷◌, ◌++◌, length, map, Option, Some, None, option_map, slice_get, refl, sym, ap, ◌∙◌, add-one, slice_get-map, at_least_zero, length-map, Place, State, done, give, take_steps, then_do, Places, and_more, members_cut, picked, place_count, places_of, View, value_of, values_of, Value, Each, each_at}
use Rattle.index_spec.specs.Slices.{Cut}
use Rattle.star_index.specs.Cuts.{members_paid}
use Rattle.star_integers.proofs.Progressions.{first_number, from_next}

one_before : {A : Type 0} (o : Option A) (xs ys : List A) → and_more o (xs ++ ys) ≡ and_more o xs ++ ys
one_before None xs ys = refl
one_before (Some x) xs ys = refl

-- one more
picked_last : {A : Type 0} (vs : List A) (n : ℕ) (z step : ℤ) → picked vs (suc n) z step ≡ picked vs n z step ++ and_more (slice_get vs (at_least_zero (z +ℤ (pos n *ℤ step)))) []
picked_last vs zero z step = ap (λ y. and_more (slice_get vs (at_least_zero y)) []) (first_number z step)
picked_last vs (suc n) z step =
    ap (and_more (slice_get vs (at_least_zero z))) (picked_last vs n (z +ℤ step) step ∙ ap (λ y. picked vs n (z +ℤ step) step ++ and_more (slice_get vs (at_least_zero y)) []) (from_next z step n))
    ∙ one_before (slice_get vs (at_least_zero z)) (picked vs n (z +ℤ step) step) (and_more (slice_get vs (at_least_zero (z +ℤ (pos (suc n) *ℤ step)))) [])

pub picked_next : {A : Type 0} (vs : List A) (n : ℕ) (z step : ℤ) (v : A) → slice_get vs (at_least_zero (z +ℤ (pos n *ℤ step))) ≡ Some v → picked vs (n + 1) z step ≡ picked vs n z step ++ v ∷ []
picked_next vs n z step v e = ap (λ m. picked vs m z step) (add-one n) ∙ picked_last vs n z step ∙ ap (λ o. picked vs n z step ++ and_more o []) e

-- ---- each of them

mapped : {A B : Type 0} (f : A → B) (o : Option A) (xs : List A) (ys : List B) → map f xs ≡ ys → map f (and_more o xs) ≡ and_more (option_map f o) ys
mapped f None xs ys e = e
mapped f (Some x) xs ys e = ap (λ l. f x ∷ l) e

pub picked_map : {A B : Type 0} (f : A → B) (vs : List A) (n : ℕ) (z step : ℤ) → map f (picked vs n z step) ≡ picked (map f vs) n z step
picked_map f vs zero z step = refl
picked_map f vs (suc n) z step =
    mapped f (slice_get vs (at_least_zero z)) (picked vs n (z +ℤ step) step) (picked (map f vs) n (z +ℤ step) step) (picked_map f vs n (z +ℤ step) step)
    ∙ ap (λ o. and_more o (picked (map f vs) n (z +ℤ step) step)) (sym (slice_get-map f vs (at_least_zero z)))

one_more : {A : Type 0} (P : A → Type 0) (o : Option A) (xs : List A) → ((x : A) → o ≡ Some x → P x) → Each P xs → Each P (and_more o xs)
one_more P None xs f h = h
one_more P (Some x) xs f h = (f x refl, h)

pub picked_each : {A : Type 0} (P : A → Type 0) (vs : List A) (n : ℕ) (z step : ℤ) → Each P vs → Each P (picked vs n z step)
picked_each P vs zero z step h = tt
picked_each P vs (suc n) z step h = one_more P (slice_get vs (at_least_zero z)) (picked vs n (z +ℤ step) step) (λ x e. each_at P vs (at_least_zero z) x h e) (picked_each P vs n (z +ℤ step) step h)

-- ---- the members of a slice

pub members_taken : (a : View) (p : Place) (ms vs : List Value) (c : Cut) (q : Places) (count : ℕ) (s t : State (Unit {0})) → q ≡ places_of (length ms) c → count ≡ place_count q →
    take_steps (length ms + count) p s ≡ done tt t → vs ≡ members_cut ms q → members_paid p (values_of a ms) c s ≡ done (values_of a vs) t
members_taken a p ms vs c q count s t e n taken is =
    let ws = values_of a ms in
    ap (λ m. then_do (take_steps (m + place_count (places_of m c)) p s) (λ u. give (members_cut ws (places_of m c)))) (length-map ms (value_of a))
    ∙ ap (λ q. then_do (take_steps (length ms + place_count q) p s) (λ u. give (members_cut ws q))) (sym e)
    ∙ ap (λ m. then_do (take_steps (length ms + m) p s) (λ u. give (members_cut ws q))) (sym n)
    ∙ ap (λ o. then_do o (λ u. give (members_cut ws q))) taken
    ∙ ap (λ l. done l t) (sym (picked_map (value_of a) ms (place_count q) q.first q.step) ∙ ap (values_of a) (sym is))
