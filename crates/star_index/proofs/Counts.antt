-- The places of a slice stand among the members, and are no more than these.
use Rattle.std.proofs.Common.{◌-ℤ◌}
use Rattle.star_steps.proofs.Names.{◌≡◌, ℕ, zero, suc, ◌-◌, ◌*◌, ◌<◌, ◌≤◌, Bool, true, false, ℤ, pos, negsuc, neg_ℤ, ◌+ℤ◌, ◌*ℤ◌, ◌<ℤ◌, ◌≤ℤ◌, if◌then◌else◌, nat_lt, Some, None, refl, sym, subst, arith, ltb-true, ints, int_lt, steps_up, int_value, place_among, Places, between, bound_or, end_place, first_place, from_end, place_count, places_of, step_in, mul-le-mul_left}
use Rattle.value_spec.specs.Values.{Value}
use Rattle.index_spec.specs.Slices.{Cut}
use Rattle.star_integers.proofs.Progressions.{comes_before, none_by_zero}
use Rattle.star_index.specs.Cuts.{AreAmong, IsPlace}

-- ---- bounds

tested : (low high z : ℤ) (b : Bool) → int_lt z low ≡ b → (c : Bool) → int_lt high z ≡ c → low ≤ℤ high →
    (low ≤ℤ (if b then low else if c then high else z)) × ((if b then low else if c then high else z) ≤ℤ high)
tested low high z true e c f h = (omega (arith, ints), h)
tested low high z false e true f h = (h, omega (arith, ints))
tested low high z false e false f h = (grind (arith, ints), grind (arith, ints))

inside : (low high z : ℤ) → low ≤ℤ high → (low ≤ℤ between low high z) × (between low high z ≤ℤ high)
inside low high z h = tested low high z (int_lt z low) refl (int_lt high z) refl h

bounded : (absent low high : ℤ) (n : ℕ) (v : Value) → low ≤ℤ high → low ≤ℤ absent → absent ≤ℤ high → (low ≤ℤ bound_or absent low high n v) × (bound_or absent low high n v ≤ℤ high)
bounded absent low high n (int_value z) h a b = inside low high (from_end n z) h
bounded absent low high n _ h a b = (a, b)

-- ---- one after another

within_up : (first end : ℤ) (s i n : ℕ) → pos 0 ≤ℤ first → end ≤ℤ pos n → i < steps_up (end -ℤ first) s → IsPlace n (first +ℤ (pos i *ℤ pos s))
within_up first end zero i n low high below = absurd (let none : steps_up (end -ℤ first) 0 ≡ 0 = none_by_zero (end -ℤ first) in omega arith)
within_up first end (suc k) i n low high below =
    let before : pos (i * suc k) <ℤ (end -ℤ first) = comes_before (end -ℤ first) (suc k) i (omega arith) below in
    record { low = omega (arith, ints); high = omega (arith, ints) }

within_down : (first end : ℤ) (k i n : ℕ) → first ≤ℤ (pos n -ℤ pos 1) → negsuc 0 ≤ℤ end → i < steps_up (first -ℤ end) (suc k) → IsPlace n (first +ℤ (pos i *ℤ negsuc k))
within_down first end k i n high low below =
    let before : pos (i * suc k) <ℤ (first -ℤ end) = comes_before (first -ℤ end) (suc k) i (omega arith) below in
    let z : ℤ = first +ℤ neg_ℤ (pos (i * suc k)) in
    record { low = omega (arith, ints); high = omega (arith, ints) }

at_least : (m k : ℕ) → m ≤ m * suc k
at_least m k = omega (arith, mul-le-mul_left m (let h : 1 ≤ suc k = omega arith in h))

few : (z : ℤ) (s n m : ℕ) → z ≤ℤ pos n → steps_up z s ≡ m → m ≤ n
few z s n zero h e = omega arith
few z zero n (suc m) h e = absurd (let none : steps_up z 0 ≡ 0 = none_by_zero z in omega arith)
few z (suc k) n (suc m) h e =
    let before : pos (m * suc k) <ℤ z = comes_before z (suc k) m (omega arith) (omega arith) in
    let more : m ≤ m * suc k = at_least m k in
    omega (arith, ints)

among : (n : ℕ) (from to : Value) (step : ℤ) → AreAmong n (record { first = first_place step n from; end = end_place step n to; step = step })
among n from to (pos s) =
    let first = bounded (pos 0) (pos 0) (pos n) n from (omega (arith, ints)) (omega (arith, ints)) (omega (arith, ints)) in
    let end = bounded (pos n) (pos 0) (pos n) n to (omega (arith, ints)) (omega (arith, ints)) (omega (arith, ints)) in
    let f : ℤ = first_place (pos s) n from in
    let e : ℤ = end_place (pos s) n to in
    record {
      each = λ i below. within_up f e s i n first.0 end.1 below;
      few = few (e -ℤ f) s n (steps_up (e -ℤ f) s) (let low : pos 0 ≤ℤ f = first.0 in let high : e ≤ℤ pos n = end.1 in omega (arith, ints)) refl;
    }
among n from to (negsuc k) =
    let last : ℤ = pos n -ℤ pos 1 in
    let first = bounded last (negsuc 0) last n from (omega (arith, ints)) (omega (arith, ints)) (omega (arith, ints)) in
    let end = bounded (negsuc 0) (negsuc 0) last n to (omega (arith, ints)) (omega (arith, ints)) (omega (arith, ints)) in
    let f : ℤ = first_place (negsuc k) n from in
    let e : ℤ = end_place (negsuc k) n to in
    record {
      each = λ i below. within_down f e k i n first.1 end.0 below;
      few = few (f -ℤ e) (suc k) n (steps_up (f -ℤ e) (suc k)) (let high : f ≤ℤ (pos n -ℤ pos 1) = first.1 in let low : negsuc 0 ≤ℤ e = end.0 in omega (arith, ints)) refl;
    }

places_among : (n : ℕ) (c : Cut) → AreAmong n (places_of n c)
places_among n c = among n c.from c.to (step_in c.step)

-- the places that a slice was found to have
pub sliced_among : (n : ℕ) (c : Cut) (q : Places) → q ≡ places_of n c → AreAmong n q
sliced_among n c q e = subst (AreAmong n) (sym e) (places_among n c)

pub sliced_few : (n : ℕ) (c : Cut) (q : Places) (count : ℕ) → q ≡ places_of n c → count ≡ place_count q → count ≤ n
sliced_few n c q count e h = subst (λ m. m ≤ n) (sym h) (sliced_among n c q e).few

-- ---- a place that an index has

pub place_below : (n : ℕ) (z : ℤ) (i : ℕ) → place_among n z ≡ Some i → i < n
place_below n (pos k) i e = by (nat_lt k n) refl e where
  by : (v : Bool) → nat_lt k n ≡ v → (if v then Some k else None) ≡ Some i → i < n
  by true h e = let s : k ≡ i = cc in let l : k < n = ltb-true k n h in omega arith
  by false h e = cc
place_below n (negsuc k) i e = by (nat_lt k n) refl e where
  by : (v : Bool) → nat_lt k n ≡ v → (if v then Some (n - suc k) else None) ≡ Some i → i < n
  by true h e = let s : n - suc k ≡ i = cc in let l : k < n = ltb-true k n h in omega arith
  by false h e = cc
