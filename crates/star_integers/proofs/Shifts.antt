-- Shifts of integers of 128 bits.
use Rattle.std.proofs.Common.{◌≡◌, ℕ, zero, suc, ◌+◌, ◌*◌, ◌/◌, ◌^◌, ◌<◌, ◌≤◌, ℤ, pos, negsuc, ◌*ℤ◌, ◌<ℤ◌, ◌≤ℤ◌, neg_ℤ, FitsSigned, to_z, of_z, Option, None, refl, sym, ap, subst, ◌∙◌, arith}
use Rattle.std.proofs.lemmas.Int.{ints, to_z-of_z, unsigned_abs-mul}
use Rattle.std.proofs.lemmas.Nat.{pow-add}
use Rattle.std.proofs.Math.Nat.{div-eq_of_lt, mul_assoc, mul-le-mul_left, mul-le-mul_right}
use Rattle.std.proofs.Math.Pow.{pow_mono}
use Rattle.std.specs.Int.{w128}
use Rattle.std.specs.Option.{SomeIff}
use Rattle.std.specs.Int.RustNames.{unsigned_abs}
use Rattle.value_spec.specs.Numbers.{shifted_left, shifted_right}

-- ---- to the right

nothing_left : (a n : ℕ) → a < 2 ^ 127 → 127 ≤ n → a / 2 ^ n ≡ 0
nothing_left a n f h = div-eq_of_lt (let more : 2 ^ 127 ≤ 2 ^ n = pow_mono h in omega (arith, f, more))

-- past 127 places nothing is left but the sign
pub all_ones : (z : ℤ) (n : ℕ) → FitsSigned w128 z → z <ℤ pos 0 → 127 ≤ n → negsuc 0 ≡ shifted_right z n
all_ones (pos a) n f h k = absurd (omega (arith, ints))
all_ones (negsuc a) n f h k = ap negsuc (sym (nothing_left a n f.sfits k))

pub all_zeros : (z : ℤ) (n : ℕ) → FitsSigned w128 z → pos 0 ≤ℤ z → 127 ≤ n → pos 0 ≡ shifted_right z n
all_zeros (pos a) n f h k = ap pos (sym (nothing_left a n f.sfits k))
all_zeros (negsuc a) n f h k = absurd (omega (arith, ints))

-- ---- to the left

at_most : (z : ℤ) → FitsSigned w128 z → unsigned_abs z ≤ 2 ^ 127
at_most (pos n) f = omega (arith, f.sfits)
at_most (negsuc n) f = omega (arith, f.sfits)

some : (z : ℤ) → (z ≡ pos 0 → ⊥) → 1 ≤ unsigned_abs z
some (pos zero) h = absurd (h refl)
some (pos (suc n)) h = omega arith
some (negsuc n) h = omega arith

-- 128 places lead out of every range
pub too_far : (z : ℤ) (n : ℕ) → (z ≡ pos 0 → ⊥) → 128 ≤ n → FitsSigned w128 (shifted_left z n) → ⊥
too_far z n h k f =
    let size : unsigned_abs z * 2 ^ n ≤ 2 ^ 127 = subst (λ m. m ≤ 2 ^ 127) (unsigned_abs-mul z (pos (2 ^ n))) (at_most (shifted_left z n) f) in
    let more : 2 ^ 128 ≤ 2 ^ n = pow_mono k in
    let once : 1 * 2 ^ n ≤ unsigned_abs z * 2 ^ n = mul-le-mul_right (2 ^ n) (some z h) in
    omega (arith, size, more, once)

neg_fits : (k : ℕ) → k ≤ 2 ^ 127 → FitsSigned w128 (neg_ℤ (pos k))
neg_fits zero h = record { sfits = omega arith }
neg_fits (suc k) h = record { sfits = omega (arith, h) }

neg_size : (k : ℕ) → unsigned_abs (neg_ℤ (pos k)) ≡ k
neg_size zero = refl
neg_size (suc k) = refl

-- what fits after more places fits after fewer
pub fewer_fit : (z : ℤ) (m n : ℕ) → m ≤ n → FitsSigned w128 (shifted_left z n) → FitsSigned w128 (shifted_left z m)
fewer_fit (pos a) m n h f = let less : a * 2 ^ m ≤ a * 2 ^ n = mul-le-mul_left a (pow_mono h) in record { sfits = omega (arith, less, f.sfits) }
fewer_fit (negsuc a) m n h f =
    let less : suc a * 2 ^ m ≤ suc a * 2 ^ n = mul-le-mul_left (suc a) (pow_mono h) in
    let size : suc a * 2 ^ n ≤ 2 ^ 127 = subst (λ k. k ≤ 2 ^ 127) (neg_size (suc a * 2 ^ n)) (at_most (shifted_left (negsuc a) n) f) in
    neg_fits (suc a * 2 ^ m) (omega (arith, less, size))

neg_times : (k n : ℕ) → neg_ℤ (pos k) *ℤ pos n ≡ neg_ℤ (pos (k * n))
neg_times zero n = omega (arith, ints)
neg_times (suc k) n = refl

times_twice : (z : ℤ) (m n : ℕ) → (z *ℤ pos m) *ℤ pos n ≡ z *ℤ pos (m * n)
times_twice (pos a) m n = ap pos (mul_assoc a m n)
times_twice (negsuc a) m n = neg_times (suc a * m) n ∙ ap (λ k. neg_ℤ (pos k)) (mul_assoc (suc a) m n)

-- in two parts
pub in_two : (z : ℤ) (m k n : ℕ) → n ≡ m + k → shifted_left z m *ℤ pos (2 ^ k) ≡ shifted_left z n
in_two z m k n e = times_twice z (2 ^ m) (2 ^ k) ∙ ap (λ j. z *ℤ pos j) (sym (pow-add 2 m k)) ∙ ap (λ j. shifted_left z j) (sym e)

-- ---- numbers that are passed

pub not_zero : (z : ℤ) → FitsSigned w128 z → (of_z w128 z ≡ 0 → ⊥) → z ≡ pos 0 → ⊥
not_zero z f h e = h (ap (of_z w128) e)

-- what doesn't fit after fewer places doesn't fit after more
pub part_too_far : (z : ℤ) (m n : ℕ) (r : Option ℤ) → m ≤ n → FitsSigned w128 z → (FitsSigned w128 (shifted_left (to_z w128 (of_z w128 z)) m) → ⊥) → r ≡ None → SomeIff r (FitsSigned w128 (shifted_left z n)) (shifted_left z n)
part_too_far z m n r h f past e =
    subst (λ r. SomeIff r (FitsSigned w128 (shifted_left z n)) (shifted_left z n)) (sym e)
    (λ fits. past (subst (λ y. FitsSigned w128 (shifted_left y m)) (sym (to_z-of_z w128 z f)) (fewer_fit z m n h fits)))

-- the part that was computed, and then the rest
pub both_parts : (z x : ℤ) (m k n : ℕ) (r : Option ℤ) → n ≡ m + k → FitsSigned w128 z → FitsSigned w128 x → x ≡ shifted_left (to_z w128 (of_z w128 z)) m →
    SomeIff r (FitsSigned w128 (shifted_left (to_z w128 (of_z w128 x)) k)) (shifted_left (to_z w128 (of_z w128 x)) k) → SomeIff r (FitsSigned w128 (shifted_left z n)) (shifted_left z n)
both_parts z x m k n r e f g is h =
    let same : shifted_left (to_z w128 (of_z w128 x)) k ≡ shifted_left z n =
    ap (λ y. shifted_left y k) (to_z-of_z w128 x g ∙ is ∙ ap (λ y. shifted_left y m) (to_z-of_z w128 z f)) ∙ in_two z m k n e in
    subst (λ y. SomeIff r (FitsSigned w128 y) y) same h
