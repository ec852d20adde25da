-- The numbers of two ranges, pair by pair.
use Rattle.star_steps.proofs.Names.{◌≡◌, ℕ, zero, suc, ◌+◌, ◌-◌, ◌<◌, ◌≤◌, Bool, true, false, if◌then◌else◌, ℤ, pos, ◌+ℤ◌, ◌*ℤ◌, length, map as each, Result, Err, refl, sym, ap, ◌∙◌, arith, FitsSigned, to_z, of_z, w128, to_z-of_z, eq-eqb, ne_eqb, same_integer, Place, Stop, State, Computation, done, then_do, give, take_steps, then_assoc, int_value, progression, range_count, equal_members, equal_pairs, Meets, as_is, meets_same, meets_stop}
use Rattle.star_integers.proofs.Progressions.{first_number, further_on}
use Rattle.star_compare.specs.Alike.{alike, numbers_from}

abbrev S : Type 0
S = State (Unit {0})

number_count : (n : ℕ) (a c : ℤ) → length (each int_value (progression n a c)) ≡ n
number_count zero a c = refl
number_count (suc n) a c = ap suc (number_count n (a +ℤ c) c)

one_less : (n i : ℕ) → i < n → n - i ≡ suc (n - (i + 1))
one_less n i h = omega arith

none_less : (n : ℕ) → n ≡ n - 0
none_less n = omega arith

none_left : (n i : ℕ) → n ≤ i → n - i ≡ 0
none_left n i h = omega arith

-- a pair takes a step, and then tells
pair_told : (k : ℕ) (p : Place) (a b : ℤ) (f : Bool → Computation (Unit {0}) Bool) (s : S) → then_do (then_do (take_steps 1 p s) (λ u. alike k p (int_value a) (int_value b))) f ≡ then_do (take_steps 1 p s) (λ u. f (same_integer a b))
unfolding alike
pair_told k p a b f s = then_assoc (take_steps 1 p s) (λ u. give (same_integer a b)) f

module _ (k : ℕ) (p : Place) (l r : ℤ × ℤ × ℤ) (n : ℕ) where
  abbrev from : ℤ × ℤ × ℤ → ℕ → ℤ
  from q i = q.0 +ℤ (pos i *ℤ q.2)

  abbrev pairs_of : (count : ℕ) → (left right : ℤ) → Computation (Unit {0}) Bool
  pairs_of m a b = equal_pairs (alike k p) p (each int_value (progression m a l.2)) (each int_value (progression m b r.2))

  -- those from a place on
  abbrev pub numbers_left : ℕ → Computation (Unit {0}) Bool
  numbers_left i = pairs_of (n - i) (from l i) (from r i)

  abbrev told : ℕ → Bool → Computation (Unit {0}) Bool
  told i same = if same then numbers_left (i + 1) else give false

  pub numbers_begin : (s : S) → n ≡ range_count l.0 l.1 l.2 → n ≡ range_count r.0 r.1 r.2 → equal_members (alike k p) p (numbers_from l) (numbers_from r) s ≡ numbers_left 0 s
  numbers_begin s e f =
      ap (λ b. (if b then equal_pairs (alike k p) p (numbers_from l) (numbers_from r) else give false) s) (eq-eqb _ _ (number_count _ _ _ ∙ sym e ∙ f ∙ sym (number_count _ _ _)))
      ∙ (λ i. equal_pairs (alike k p) p (each int_value (progression ((sym e ∙ none_less n) i) (first_number l.0 l.2 i) l.2)) (each int_value (progression ((sym f ∙ none_less n) i) (first_number r.0 r.2 i) r.2)) s)

  pub numbers_unlike : (m : ℕ) (s : S) → n ≡ range_count l.0 l.1 l.2 → m ≡ range_count r.0 r.1 r.2 → (n ≡ m → ⊥) → equal_members (alike k p) p (numbers_from l) (numbers_from r) s ≡ done false s
  numbers_unlike m s e f h =
      ap (λ b. (if b then equal_pairs (alike k p) p (numbers_from l) (numbers_from r) else give false) s) (ne_eqb _ _ (λ same. h (e ∙ sym (number_count _ _ _) ∙ same ∙ number_count _ _ _ ∙ sym f)))

  first : (i : ℕ) (s : S) → i < n → numbers_left i s ≡ then_do (take_steps 1 p s) (λ u. told i (same_integer (from l i) (from r i)))
  first i s lt =
      ap (λ m. pairs_of m (from l i) (from r i) s) (one_less n i lt)
      ∙ pair_told k p (from l i) (from r i) (λ same. if same then pairs_of (n - (i + 1)) (from l i +ℤ l.2) (from r i +ℤ r.2) else give false) s
      ∙ (λ j. then_do (take_steps 1 p s) (λ u. if same_integer (from l i) (from r i) then pairs_of (n - (i + 1)) (further_on l.0 l.2 i j) (further_on r.0 r.2 i j) else give false))

  pub numbers_stop : (i : ℕ) (e : Stop) (s t : S) (result : Result Bool Stop) → i < n → Meets (as_is {A = Unit {0}}) (Err e) t (take_steps 1 p s) → result ≡ Err e → Meets as_is result t (numbers_left i s)
  numbers_stop i e s t result lt m is = meets_same as_is result t _ _ (first i s lt) (meets_stop as_is as_is e t (take_steps 1 p s) (λ u. told i (same_integer (from l i) (from r i))) result m is)

  pub numbers_next : (i : ℕ) (x y : ℤ) (same : Bool) (s t : S) → i < n → take_steps 1 p s ≡ done tt t → FitsSigned w128 l.0 × FitsSigned w128 l.2 → FitsSigned w128 r.0 × FitsSigned w128 r.2 →
      x ≡ to_z w128 (of_z w128 l.0) +ℤ (pos i *ℤ to_z w128 (of_z w128 l.2)) → y ≡ to_z w128 (of_z w128 r.0) +ℤ (pos i *ℤ to_z w128 (of_z w128 r.2)) → same_integer x y ≡ same → numbers_left i s ≡ told i same t
  numbers_next i x y same s t lt paid f g e h is =
      let left : x ≡ from l i = e ∙ (λ j. to_z-of_z w128 l.0 f.0 j +ℤ (pos i *ℤ to_z-of_z w128 l.2 f.1 j)) in
      let right : y ≡ from r i = h ∙ (λ j. to_z-of_z w128 r.0 g.0 j +ℤ (pos i *ℤ to_z-of_z w128 r.2 g.1 j)) in
      first i s lt ∙ ap (λ o. then_do o (λ u. told i (same_integer (from l i) (from r i)))) paid
      ∙ ap (λ b. told i b t) ((λ j. same_integer (sym left j) (sym right j)) ∙ is)

  pub numbers_end : (i : ℕ) (s : S) → n ≤ i → numbers_left i s ≡ done true s
  numbers_end i s h = ap (λ m. pairs_of m (from l i) (from r i) s) (none_left n i h)
