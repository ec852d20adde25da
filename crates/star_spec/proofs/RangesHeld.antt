-- The numbers of a range have 128 bits where its bounds have.
use Rattle.std.proofs.Common.{◌≡◌, ℕ, zero, suc, ◌+◌, ◌-◌, ◌*◌, ◌<◌, FitsSigned, refl, sym, subst, arith}
use Rattle.std.proofs.lemmas.Int.{ints}
use Rattle.std.proofs.Math.Nat.{div-mul-le_self, mul-le-mul_right, suc-mul}
use Rattle.std.specs.Int.{w128}
use Rattle.std.specs.Prelude.{ℤ, pos, negsuc, neg_ℤ, ◌+ℤ◌, ◌-ℤ◌, ◌*ℤ◌, ◌<ℤ◌, ◌≤ℤ◌}
use Rattle.star_spec.specs.Held.{HeldValue, HeldNumbers}
use Rattle.value_spec.specs.Numbers.{steps_up, range_count, progression}
use Rattle.value_spec.specs.Values.{range_value}

-- ---- one number after another

times_next : (i : ℕ) (step : ℤ) → pos (suc i) *ℤ step ≡ step +ℤ (pos i *ℤ step)
times_next i (pos k) = omega (arith, ints, suc-mul i k)
times_next i (negsuc k) = omega (arith, ints, suc-mul i (suc k))

-- the same number, counted from the one behind the start
from_next : (start step : ℤ) (i : ℕ) → (start +ℤ step) +ℤ (pos i *ℤ step) ≡ start +ℤ (pos (suc i) *ℤ step)
from_next start step i = omega (arith, ints, times_next i step)

first_number : (start step : ℤ) → start ≡ start +ℤ (pos 0 *ℤ step)
first_number start (pos k) = omega (arith, ints)
first_number start (negsuc k) = omega (arith, ints)

pub number_held : (n : ℕ) (start step : ℤ) (i : ℕ) → i < n → HeldNumbers (progression n start step) → FitsSigned w128 (start +ℤ (pos i *ℤ step))
number_held zero start step i below h = absurd (omega arith)
number_held (suc n) start step zero below h = subst (FitsSigned w128) (first_number start step) h.0
number_held (suc n) start step (suc i) below h = subst (FitsSigned w128) (from_next start step i) (number_held n (start +ℤ step) step i (omega arith) h.1)

-- all are held, where the one at each place is
all_held : (n : ℕ) (start step : ℤ) → ((i : ℕ) → i < n → FitsSigned w128 (start +ℤ (pos i *ℤ step))) → HeldNumbers (progression n start step)
all_held zero start step h = tt
all_held (suc n) start step h = (
  subst (FitsSigned w128) (sym (first_number start step)) (h 0 (omega arith)),
  all_held n (start +ℤ step) step (λ i below. subst (FitsSigned w128) (sym (from_next start step i)) (h (suc i) (omega arith))),
)

-- ---- between the start and the stop

none_by_zero : (z : ℤ) → steps_up z 0 ≡ 0
none_by_zero (pos n) = omega arith
none_by_zero (negsuc n) = refl

-- the number after so many steps comes before the end
comes_before : (z : ℤ) (k i : ℕ) → 0 < k → i < steps_up z k → pos (i * k) <ℤ z
comes_before (pos n) k i h below = omega (arith, ints, suc-mul i k, mul-le-mul_right k below, div-mul-le_self (n + (k - 1)) k)
comes_before (negsuc n) k i h below = absurd (omega arith)

-- a number between two of 128 bits has 128 bits
pub between_fits : (a z b : ℤ) → a ≤ℤ z → z ≤ℤ b → FitsSigned w128 a → FitsSigned w128 b → FitsSigned w128 z
between_fits (pos a) (pos z) (pos b) h k f g = record { sfits = omega (arith, ints, g.sfits) }
between_fits (pos a) (pos z) (negsuc b) h k f g = absurd (omega (arith, ints))
between_fits (pos a) (negsuc z) b h k f g = absurd (omega (arith, ints))
between_fits (negsuc a) (pos z) (pos b) h k f g = record { sfits = omega (arith, ints, g.sfits) }
between_fits (negsuc a) (pos z) (negsuc b) h k f g = absurd (omega (arith, ints))
between_fits (negsuc a) (negsuc z) b h k f g = record { sfits = omega (arith, ints, f.sfits) }

number_fits : (start stop step : ℤ) (i : ℕ) → FitsSigned w128 start → FitsSigned w128 stop → i < range_count start stop step → FitsSigned w128 (start +ℤ (pos i *ℤ step))
number_fits start stop (pos zero) i f g below = absurd (let none : steps_up (stop -ℤ start) 0 ≡ 0 = none_by_zero (stop -ℤ start) in omega arith)
number_fits start stop (pos (suc k)) i f g below =
    let before : pos (i * suc k) <ℤ (stop -ℤ start) = comes_before (stop -ℤ start) (suc k) i (omega arith) below in
    between_fits start (start +ℤ pos (i * suc k)) stop (omega (arith, ints)) (omega (arith, ints)) f g
number_fits start stop (negsuc k) i f g below =
    let before : pos (i * suc k) <ℤ (start -ℤ stop) = comes_before (start -ℤ stop) (suc k) i (omega arith) below in
    between_fits stop (start +ℤ neg_ℤ (pos (i * suc k))) start (omega (arith, ints)) (omega (arith, ints)) g f

pub range_held : (start stop step : ℤ) → FitsSigned w128 start → FitsSigned w128 stop → HeldValue (range_value start stop step)
range_held start stop step f g = all_held (range_count start stop step) start step (λ i below. number_fits start stop step i f g below)
