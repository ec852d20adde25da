-- Where a text may be cut.
use Rattle.star_steps.proofs.Names.{◌≡◌, ℕ, ◌+◌, ◌-◌, ◌<◌, ◌≤◌, min, Bool, true, false, nat_le, nat_lt, ◌&&◌, ◌||◌, not, ◌⊎◌, inl, inr, List, [], length, get_or, take, drop, ◌++◌, slice_range, append-nil, subst, refl, sym, ap, ◌∙◌, arith, IsCharBoundary, leb-true, leb-false, ltb-true, ltb-false, drop_of_length-le, drop-cons, take-length, drop-take, take-append-drop, is_empty, begins_inner, is_inner, is_whole}
use Rattle.std.proofs.Math.Bool.{or-true}

not_inner : (b : ℕ) → (128 ≤ b → 192 ≤ b) → is_inner b ≡ false
not_inner b h = grind (arith, h)

pub no_inner : (t : List ℕ) (i : ℕ) → IsCharBoundary t i → begins_inner (drop i t) ≡ false
no_inner t i h = by (nat_lt i (length t)) refl where
  by : (v : Bool) → nat_lt i (length t) ≡ v → begins_inner (drop i t) ≡ false
  by true e = let l : i < length t = ltb-true i (length t) e in ap begins_inner (drop-cons t i 0 l) ∙ not_inner (get_or t i 0) (h.1 l)
  by false e = let l : length t ≤ i = ltb-false i (length t) e in ap begins_inner (drop_of_length-le t l)

-- the places that a text has
same_place : (t : List ℕ) (b to : ℕ) → to ≡ min b (length t) → (to ≡ b) ⊎ (drop b t ≡ []) × (take to t ≡ take b t)
same_place t b to e = by (nat_le b (length t)) refl where
  by : (v : Bool) → nat_le b (length t) ≡ v → (to ≡ b) ⊎ (drop b t ≡ []) × (take to t ≡ take b t)
  by true h = let l : b ≤ length t = leb-true b (length t) h in inl (omega arith)
  by false h =
      let l : length t < b = leb-false b (length t) h in
      let none : drop b t ≡ [] = drop_of_length-le t (omega arith) in
      let all : to ≡ length t = omega arith in
      inr (none, ap (λ n. take n t) all ∙ take-length t ∙ sym (take-append-drop b t) ∙ ap (λ l. take b t ++ l) none ∙ append-nil (take b t))

whole_by : (t : List ℕ) (a b : ℕ) → begins_inner (drop a t) ≡ false → begins_inner (drop b t) ≡ false → is_whole t a b ≡ true
whole_by t a b e f = (λ i. is_empty (drop a (take b t)) || (not (e i) && not (f i))) ∙ or-true (is_empty (drop a (take b t)))

pub whole : (t : List ℕ) (a b to : ℕ) → to ≡ min b (length t) → a < to → IsCharBoundary t a → IsCharBoundary t to → (is_whole t a b ≡ true) × (slice_range t a to ≡ drop a (take b t))
whole t a b to e less h k = by (same_place t b to e) where
  cut : slice_range t a to ≡ drop a (take to t)
  cut = sym (drop-take a (to - a) t) ∙ ap (λ n. drop a (take n t)) (let m : a + (to - a) ≡ to = omega arith in m)

  by : (to ≡ b) ⊎ (drop b t ≡ []) × (take to t ≡ take b t) → (is_whole t a b ≡ true) × (slice_range t a to ≡ drop a (take b t))
  by (inl s) = (whole_by t a b (no_inner t a h) (no_inner t b (subst (IsCharBoundary t) s k)), cut ∙ ap (λ n. drop a (take n t)) s)
  by (inr s) = (whole_by t a b (no_inner t a h) (ap begins_inner s.0), cut ∙ ap (drop a) s.1)
