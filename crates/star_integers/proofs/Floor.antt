-- The quotient rounded down, from the one whose remainder is not negative.
use Rattle.std.proofs.Common.{◌≡◌, ℕ, zero, suc, ◌+◌, ◌-◌, ◌*◌, ◌/◌, ◌%◌, ◌<◌, ◌≤◌, false, ℤ, pos, negsuc, ◌+ℤ◌, ◌-ℤ◌, ◌*ℤ◌, ◌<ℤ◌, ◌≤ℤ◌, neg_ℤ, FitsSigned, to_z, of_z, refl, sym, ap, subst, ◌∙◌, arith}
use Rattle.std.proofs.lemmas.Int.{ints, to_z-of_z}
use Rattle.std.proofs.lemmas.Nat.{div-mul-add}
use Rattle.std.proofs.Math.Nat.{div-add-mod', div-le_self, mod-lt}
use Rattle.std.specs.Int.{w128, int_div_euclid, int_rem_euclid}
use Rattle.value_spec.specs.Numbers.{floor_quotient, floor_remainder, is_zero}

-- the quotient, by what it leaves
quotient_is : (m n q r : ℕ) → m ≡ q * n + r → r < n → m / n ≡ q
quotient_is m n q r e h = ap (λ k. k / n) e ∙ div-mul-add q n r h

divided : (a b : ℕ) → (a / suc b) * suc b + a % suc b ≡ a
divided a b = div-add-mod' a (suc b)

below : (a b : ℕ) → a % suc b < suc b
below a b = mod-lt a (omega arith)

exact_up : (a b : ℕ) → a % suc b ≡ 0 → (a + b) / suc b ≡ a / suc b
exact_up a b h = quotient_is (a + b) (suc b) (a / suc b) b (omega (arith, divided a b)) (omega arith)

round_up : (a b : ℕ) → 0 < a % suc b → (a + b) / suc b ≡ suc (a / suc b)
round_up a b h = quotient_is (a + b) (suc b) (suc (a / suc b)) (a % suc b - 1) (omega (arith, divided a b)) (omega (arith, below a b))

exact_next : (a b : ℕ) → a % suc b ≡ b → suc a / suc b ≡ suc (a / suc b)
exact_next a b h = quotient_is (suc a) (suc b) (suc (a / suc b)) 0 (omega (arith, divided a b)) (omega arith)

same_next : (a b : ℕ) → a % suc b < b → suc a / suc b ≡ a / suc b
same_next a b h = quotient_is (suc a) (suc b) (a / suc b) (suc (a % suc b)) (omega (arith, divided a b)) (omega (arith, below a b))

nonzero : (n : ℕ) → (pos n ≡ pos 0 → ⊥) → 0 < n
nonzero zero h = absurd (h refl)
nonzero (suc n) h = omega arith

-- where a negative divisor leaves something, one less
pub floor_less : (a d : ℤ) → d <ℤ pos 0 → (int_rem_euclid a d ≡ pos 0 → ⊥) → floor_quotient a d ≡ int_div_euclid a d -ℤ pos 1
floor_less (pos a) (pos b) h r = absurd (omega (arith, ints))
floor_less (negsuc a) (pos b) h r = absurd (omega (arith, ints))
floor_less (pos a) (negsuc b) h r = ap (λ k. neg_ℤ (pos k)) (round_up a b (nonzero (a % suc b) r)) ∙ omega (arith, ints)
floor_less (negsuc a) (negsuc b) h r = ap pos (same_next a b (let p : 0 < suc b - 1 - a % suc b = nonzero _ r in omega arith)) ∙ omega (arith, ints)

pub floor_fits : (a d : ℤ) → FitsSigned w128 a → d <ℤ pos 0 → (int_rem_euclid a d ≡ pos 0 → ⊥) → FitsSigned w128 (floor_quotient a d)
floor_fits (pos a) (pos b) f h r = absurd (omega (arith, ints))
floor_fits (negsuc a) (pos b) f h r = absurd (omega (arith, ints))
floor_fits (pos a) (negsuc b) f h r = subst (λ k. FitsSigned w128 (neg_ℤ (pos k))) (sym (round_up a b (nonzero (a % suc b) r))) (record { sfits = omega (arith, f.sfits, div-le_self a (suc b)) })
floor_fits (negsuc a) (negsuc b) f h r = subst (λ k. FitsSigned w128 (pos k)) (sym (same_next a b (let p : 0 < suc b - 1 - a % suc b = nonzero _ r in omega arith))) (record { sfits = omega (arith, f.sfits, div-le_self a (suc b)) })

-- where it leaves nothing, or the divisor is positive, the same
pub floor_same_positive : (a d : ℤ) → pos 0 ≤ℤ d → floor_quotient a d ≡ int_div_euclid a d
floor_same_positive (pos a) (pos b) h = refl
floor_same_positive (negsuc a) (pos b) h = refl
floor_same_positive a (negsuc b) h = absurd (omega (arith, ints))

pub floor_same : (a d : ℤ) → d <ℤ pos 0 → int_rem_euclid a d ≡ pos 0 → floor_quotient a d ≡ int_div_euclid a d
floor_same (pos a) (pos b) h r = refl
floor_same (negsuc a) (pos b) h r = refl
floor_same (pos a) (negsuc b) h r = ap (λ k. neg_ℤ (pos k)) (exact_up a b (omega (arith, ints, r)))
floor_same (negsuc a) (negsuc b) h r = ap pos (exact_next a b (omega (arith, ints, r, below a b)))

-- ---- what the code computes

pub less_by_one : (a d q : ℤ) → FitsSigned w128 a → FitsSigned w128 q → q ≡ int_div_euclid a d → d <ℤ pos 0 → (int_rem_euclid a d ≡ pos 0 → ⊥) →
    FitsSigned w128 (floor_quotient a d) × (to_z w128 (of_z w128 (to_z w128 (of_z w128 q) -ℤ pos 1)) ≡ floor_quotient a d)
less_by_one a d q f g e h r =
    let fits = floor_fits a d f h r in
    (fits, ap (λ z. to_z w128 (of_z w128 (z -ℤ pos 1))) (to_z-of_z w128 q g) ∙ ap (λ z. to_z w128 (of_z w128 z)) (ap (λ z. z -ℤ pos 1) e ∙ sym (floor_less a d h r)) ∙ to_z-of_z w128 (floor_quotient a d) fits)

pub as_it_is : (a d q : ℤ) → FitsSigned w128 q → q ≡ int_div_euclid a d → floor_quotient a d ≡ int_div_euclid a d →
    FitsSigned w128 (floor_quotient a d) × (to_z w128 (of_z w128 q) ≡ floor_quotient a d)
as_it_is a d q g e h = (subst (FitsSigned w128) (e ∙ sym h) g, to_z-of_z w128 q g ∙ e ∙ sym h)

-- ---- numbers that are passed

pub passed : (a d q : ℤ) → FitsSigned w128 a → FitsSigned w128 d → q ≡ int_div_euclid (to_z w128 (of_z w128 a)) (to_z w128 (of_z w128 d)) → q ≡ int_div_euclid a d
passed a d q f g e = e ∙ (λ i. int_div_euclid (to_z-of_z w128 a f i) (to_z-of_z w128 d g i))

rem_passed : (a d r : ℤ) → FitsSigned w128 a → FitsSigned w128 d → r ≡ int_rem_euclid (to_z w128 (of_z w128 a)) (to_z w128 (of_z w128 d)) → r ≡ int_rem_euclid a d
rem_passed a d r f g e = e ∙ (λ i. int_rem_euclid (to_z-of_z w128 a f i) (to_z-of_z w128 d g i))

zero_bits : (z : ℤ) → FitsSigned w128 z → of_z w128 z ≡ 0 → z ≡ pos 0
zero_bits (pos n) f e = ap pos e
zero_bits (negsuc n) f e = absurd (omega (arith, f.sfits, e))

pub leaves_something : (a d r : ℤ) → FitsSigned w128 a → FitsSigned w128 d → r ≡ int_rem_euclid (to_z w128 (of_z w128 a)) (to_z w128 (of_z w128 d)) → (of_z w128 r ≡ 0 → ⊥) → int_rem_euclid a d ≡ pos 0 → ⊥
leaves_something a d r f g e h z = h (ap (of_z w128) (rem_passed a d r f g e ∙ z))

pub leaves_nothing : (a d r : ℤ) → FitsSigned w128 a → FitsSigned w128 d → FitsSigned w128 r → r ≡ int_rem_euclid (to_z w128 (of_z w128 a)) (to_z w128 (of_z w128 d)) → of_z w128 r ≡ 0 → int_rem_euclid a d ≡ pos 0
leaves_nothing a d r f g k e h = sym (rem_passed a d r f g e) ∙ zero_bits r k h

-- ---- what the quotient leaves

neg_times : (b k : ℕ) → negsuc b *ℤ neg_ℤ (pos k) ≡ pos (suc b * k)
neg_times b zero = omega (arith, ints)
neg_times b (suc k) = refl

left_up : (a b k : ℕ) → (a + b) / suc b ≡ k → floor_remainder (pos a) (negsuc b) ≡ pos a -ℤ pos (suc b * k)
left_up a b k e = ap (λ j. pos a -ℤ (negsuc b *ℤ neg_ℤ (pos j))) e ∙ ap (λ z. pos a -ℤ z) (neg_times b k)

left_down : (a b k : ℕ) → suc a / suc b ≡ k → floor_remainder (negsuc a) (negsuc b) ≡ negsuc a -ℤ (negsuc b *ℤ pos k)
left_down a b k e = ap (λ j. negsuc a -ℤ (negsuc b *ℤ pos j)) e

-- where the divisor is positive, what Euclid's division leaves
pub rest_positive : (a d : ℤ) → is_zero d ≡ false → pos 0 ≤ℤ d → floor_remainder a d ≡ int_rem_euclid a d
rest_positive (pos a) (pos zero) z h = absurd cc
rest_positive (negsuc a) (pos zero) z h = absurd cc
rest_positive (pos a) (pos (suc b)) z h = omega (arith, ints, divided a b)
rest_positive (negsuc a) (pos (suc b)) z h = omega (arith, ints, divided a b, below a b)
rest_positive a (negsuc b) z h = absurd (omega (arith, ints))

-- where it is negative and nothing is left
pub rest_exact : (a d : ℤ) → d <ℤ pos 0 → int_rem_euclid a d ≡ pos 0 → floor_remainder a d ≡ int_rem_euclid a d
rest_exact (pos a) (pos b) h r = absurd (omega (arith, ints))
rest_exact (negsuc a) (pos b) h r = absurd (omega (arith, ints))
rest_exact (pos a) (negsuc b) h r =
    let nothing : a % suc b ≡ 0 = omega (arith, ints, r) in
    left_up a b (a / suc b) (exact_up a b nothing) ∙ omega (arith, ints, divided a b, nothing)
rest_exact (negsuc a) (negsuc b) h r =
    let nothing : a % suc b ≡ b = omega (arith, ints, r, below a b) in
    left_down a b (suc (a / suc b)) (exact_next a b nothing) ∙ omega (arith, ints, divided a b, nothing)

-- where it is negative and something is left, by the divisor less
pub rest_below : (a d : ℤ) → d <ℤ pos 0 → (int_rem_euclid a d ≡ pos 0 → ⊥) → floor_remainder a d ≡ int_rem_euclid a d +ℤ d
rest_below (pos a) (pos b) h r = absurd (omega (arith, ints))
rest_below (negsuc a) (pos b) h r = absurd (omega (arith, ints))
rest_below (pos a) (negsuc b) h r =
    left_up a b (suc (a / suc b)) (round_up a b (nonzero (a % suc b) r)) ∙ omega (arith, ints, divided a b)
rest_below (negsuc a) (negsuc b) h r =
    left_down a b (a / suc b) (same_next a b (let p : 0 < suc b - 1 - a % suc b = nonzero _ r in omega arith)) ∙ omega (arith, ints, divided a b, below a b)

less_fits : (m b : ℕ) → m ≤ b → FitsSigned w128 (negsuc b) → FitsSigned w128 (pos m +ℤ negsuc b)
less_fits m b h f = subst (FitsSigned w128) (sym (let e : pos m +ℤ negsuc b ≡ negsuc (b - m) = omega (arith, ints) in e)) (record { sfits = omega (arith, f.sfits) })

below_fits : (a d : ℤ) → FitsSigned w128 d → d <ℤ pos 0 → FitsSigned w128 (int_rem_euclid a d +ℤ d)
below_fits (pos a) (pos b) f h = absurd (omega (arith, ints))
below_fits (negsuc a) (pos b) f h = absurd (omega (arith, ints))
below_fits (pos a) (negsuc b) f h = less_fits (a % suc b) b (omega (arith, below a b)) f
below_fits (negsuc a) (negsuc b) f h = less_fits (suc b - 1 - a % suc b) b (omega arith) f

-- ---- what the code computes of it

module _ (a d r : ℤ) (f : FitsSigned w128 a) (g : FitsSigned w128 d) (k : FitsSigned w128 r) (e : r ≡ int_rem_euclid (to_z w128 (of_z w128 a)) (to_z w128 (of_z w128 d))) where
  is_rest : r ≡ int_rem_euclid a d
  is_rest = rem_passed a d r f g e

  pub rest_lowered : d <ℤ pos 0 → (of_z w128 r ≡ 0 → ⊥) → to_z w128 (of_z w128 (to_z w128 (of_z w128 r) +ℤ to_z w128 (of_z w128 d))) ≡ floor_remainder a d
  rest_lowered h n =
      (λ i. to_z w128 (of_z w128 (to_z-of_z w128 r k i +ℤ to_z-of_z w128 d g i))) ∙ ap (λ z. to_z w128 (of_z w128 (z +ℤ d))) is_rest
      ∙ to_z-of_z w128 (int_rem_euclid a d +ℤ d) (below_fits a d g h) ∙ sym (rest_below a d h (leaves_something a d r f g e n))

  pub rest_kept : floor_remainder a d ≡ int_rem_euclid a d → to_z w128 (of_z w128 r) ≡ floor_remainder a d
  rest_kept h = to_z-of_z w128 r k ∙ is_rest ∙ sym h
