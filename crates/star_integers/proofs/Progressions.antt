-- The numbers of ranges, which are told by arithmetic and never made as a list.
use Rattle.std.proofs.Common.{◌≡◌, ℕ, zero, suc, ◌+◌, ◌-◌, ◌*◌, ◌/◌, ◌%◌, ◌^◌, ◌<◌, ◌≤◌, true, false, nat_eq, ◌||◌, length, Some, slice_get, ℤ, pos, negsuc, neg_ℤ, ◌+ℤ◌, ◌-ℤ◌, ◌*ℤ◌, ◌<ℤ◌, ◌≤ℤ◌, FitsSigned, to_z, of_z, refl, sym, ap, subst, ◌∙◌, add-one, arith, rules}
use Rattle.std.proofs.lemmas.Int.{ints, to_z-of_z, of_z-to_z, wrapping_add-bits, wrapping_mul_onto, int_wrap_fits, int_wrap-add_right, int_wrap-mul_left}
use Rattle.std.proofs.lemmas.Nat.{le-div, div-add-mod'}
use Rattle.std.proofs.Math.Bool.{or-true}
use Rattle.std.proofs.Math.Nat.{add-div_left, div-mul-le_self, mod-eq_of_lt, mul-le-mul_right, mul-mod_left, suc-mul}
use Rattle.std.specs.Int.{w128, int_wrap}
use Rattle.std.specs.Int.RustNames.{unsigned_abs}
use Rattle.ytt_base.specs.Trees.{same_integer}
use Rattle.value_spec.specs.Numbers.{steps_up, range_count, progression}
use Rattle.operator_spec.specs.Operators.{is_one_of}

-- ---- one number after another

pub times_next : (i : ℕ) (step : ℤ) → pos (suc i) *ℤ step ≡ step +ℤ (pos i *ℤ step)
times_next i (pos k) = omega (arith, ints, suc-mul i k)
times_next i (negsuc k) = omega (arith, ints, suc-mul i (suc k))

-- the same number, counted from the start or from the one behind it
pub from_next : (start step : ℤ) (i : ℕ) → (start +ℤ step) +ℤ (pos i *ℤ step) ≡ start +ℤ (pos (suc i) *ℤ step)
from_next start step i = omega (arith, ints, times_next i step)

-- the number behind that at a place
pub further_on : (z step : ℤ) (i : ℕ) → (z +ℤ (pos i *ℤ step)) +ℤ step ≡ z +ℤ (pos (i + 1) *ℤ step)
further_on z step i = omega (arith, ints, from_next z step i, times_next i step) ∙ ap (λ m. z +ℤ (pos m *ℤ step)) (sym (add-one i))

pub first_number : (start step : ℤ) → start ≡ start +ℤ (pos 0 *ℤ step)
first_number start (pos k) = omega (arith, ints)
first_number start (negsuc k) = omega (arith, ints)

pub progression_length : (n : ℕ) (start step : ℤ) → length (progression n start step) ≡ n
progression_length zero start step = refl
progression_length (suc n) start step = ap suc (progression_length n (start +ℤ step) step)

pub progression_get : (n : ℕ) (start step : ℤ) (i : ℕ) → i < n → slice_get (progression n start step) i ≡ Some (start +ℤ (pos i *ℤ step))
progression_get zero start step i h = absurd (omega arith)
progression_get (suc n) start step zero h = ap Some (first_number start step)
progression_get (suc n) start step (suc i) h = progression_get n (start +ℤ step) step i (omega arith) ∙ ap Some (from_next start step i)

-- ---- which numbers are in it

same_integer_alike : (z : ℤ) → same_integer z z ≡ true
same_integer_alike z = search rules

pub same_integers : (y z : ℤ) → y ≡ z → same_integer y z ≡ true
same_integers y z e = subst (λ x. same_integer y x ≡ true) e (same_integer_alike y)

other_numbers : (m n : ℕ) → (m ≡ n → ⊥) → nat_eq m n ≡ false
other_numbers m n h = grind (arith, h)

pub other_integers : (y z : ℤ) → (y ≡ z → ⊥) → same_integer y z ≡ false
other_integers (pos m) (pos n) h = other_numbers m n (λ e. h (ap pos e))
other_integers (pos m) (negsuc n) h = refl
other_integers (negsuc m) (pos n) h = refl
other_integers (negsuc m) (negsuc n) h = other_numbers m n (λ e. h (ap negsuc e))

found : (n : ℕ) (start step number : ℤ) (i : ℕ) → i < n → number ≡ start +ℤ (pos i *ℤ step) → is_one_of number (progression n start step) ≡ true
found zero start step number i h e = absurd (omega arith)
found (suc n) start step number zero h e = ap (λ b. b || is_one_of number (progression n (start +ℤ step) step)) (same_integers number start (e ∙ sym (first_number start step)))
found (suc n) start step number (suc i) h e =
    let further : is_one_of number (progression n (start +ℤ step) step) ≡ true = found n (start +ℤ step) step number i (omega arith) (e ∙ sym (from_next start step i)) in
    ap (λ b. same_integer number start || b) further ∙ or-true (same_integer number start)

missed : (n : ℕ) (start step number : ℤ) → ((i : ℕ) → i < n → number ≡ start +ℤ (pos i *ℤ step) → ⊥) → is_one_of number (progression n start step) ≡ false
missed zero start step number h = refl
missed (suc n) start step number h =
    let further : is_one_of number (progression n (start +ℤ step) step) ≡ false = missed n (start +ℤ step) step number (λ i below e. h (suc i) (omega arith) (e ∙ from_next start step i)) in
    ap (λ b. b || is_one_of number (progression n (start +ℤ step) step)) (other_integers number start (λ e. h zero (omega arith) (e ∙ first_number start step))) ∙ further

-- ---- how many there are

pub none_by_zero : (z : ℤ) → steps_up z 0 ≡ 0
none_by_zero (pos n) = omega arith
none_by_zero (negsuc n) = refl

-- the number after so many steps comes before the end
pub comes_before : (z : ℤ) (k i : ℕ) → 0 < k → i < steps_up z k → pos (i * k) <ℤ z
comes_before (pos n) k i h below = omega (arith, ints, suc-mul i k, mul-le-mul_right k below, div-mul-le_self (n + (k - 1)) k)
comes_before (negsuc n) k i h below = absurd (omega arith)

is_counted : (z : ℤ) (k i : ℕ) → 0 < k → pos (i * k) <ℤ z → i < steps_up z k
is_counted (pos n) k i h before =
    let within : suc i * k ≤ n + (k - 1) = omega (arith, ints, suc-mul i k) in
    omega (arith, le-div (suc i) (n + (k - 1)) k h within)
is_counted (negsuc n) k i h before = absurd (omega (arith, ints))

counted : (z : ℤ) (k : ℕ) → 0 < k → pos 0 <ℤ z → (unsigned_abs z - 1) / k + 1 ≡ steps_up z k
counted (pos zero) k h far = absurd (omega (arith, ints))
counted (pos (suc n)) k h far = ap (λ m. m / k + 1) (omega arith) ∙ sym (add-div_left n h) ∙ ap (λ m. m / k) (omega arith)
counted (negsuc n) k h far = absurd (omega (arith, ints))

pub count_up : (start stop step : ℤ) (far by : ℕ) → pos 0 <ℤ step → start <ℤ stop → far ≡ unsigned_abs (stop -ℤ start) → by ≡ unsigned_abs step →
    (far - 1) / by + 1 ≡ range_count start stop step
count_up start stop (pos k) far by h less e f = ap (λ m. (m - 1) / by + 1) e ∙ ap (λ m. (unsigned_abs (stop -ℤ start) - 1) / m + 1) f ∙ counted (stop -ℤ start) k (omega (arith, ints)) (omega (arith, ints))
count_up start stop (negsuc k) far by h less e f = absurd (omega (arith, ints))

pub count_down : (start stop step : ℤ) (far by : ℕ) → step <ℤ pos 0 → stop <ℤ start → far ≡ unsigned_abs (start -ℤ stop) → by ≡ unsigned_abs step →
    (far - 1) / by + 1 ≡ range_count start stop step
count_down start stop (pos k) far by h less e f = absurd (omega (arith, ints))
count_down start stop (negsuc k) far by h less e f = ap (λ m. (m - 1) / by + 1) e ∙ ap (λ m. (unsigned_abs (start -ℤ stop) - 1) / m + 1) f ∙ counted (start -ℤ stop) (suc k) (omega arith) (omega (arith, ints))

-- ---- between the start and the stop

-- a number between two of 128 bits has 128 bits
between_fits : (a z b : ℤ) → a ≤ℤ z → z ≤ℤ b → FitsSigned w128 a → FitsSigned w128 b → FitsSigned w128 z
between_fits (pos a) (pos z) (pos b) h k f g = record { sfits = omega (arith, ints, g.sfits) }
between_fits (pos a) (pos z) (negsuc b) h k f g = absurd (omega (arith, ints))
between_fits (pos a) (negsuc z) b h k f g = absurd (omega (arith, ints))
between_fits (negsuc a) (pos z) (pos b) h k f g = record { sfits = omega (arith, ints, g.sfits) }
between_fits (negsuc a) (pos z) (negsuc b) h k f g = absurd (omega (arith, ints))
between_fits (negsuc a) (negsuc z) b h k f g = record { sfits = omega (arith, ints, f.sfits) }

pub number_fits : (start stop step : ℤ) (i : ℕ) → FitsSigned w128 start → FitsSigned w128 stop → i < range_count start stop step → FitsSigned w128 (start +ℤ (pos i *ℤ step))
number_fits start stop (pos zero) i f g below = absurd (let none : steps_up (stop -ℤ start) 0 ≡ 0 = none_by_zero (stop -ℤ start) in omega arith)
number_fits start stop (pos (suc k)) i f g below =
    let before : pos (i * suc k) <ℤ (stop -ℤ start) = comes_before (stop -ℤ start) (suc k) i (omega arith) below in
    between_fits start (start +ℤ pos (i * suc k)) stop (omega (arith, ints)) (omega (arith, ints)) f g
number_fits start stop (negsuc k) i f g below =
    let before : pos (i * suc k) <ℤ (start -ℤ stop) = comes_before (start -ℤ stop) (suc k) i (omega arith) below in
    between_fits stop (start +ℤ neg_ℤ (pos (i * suc k))) start (omega (arith, ints)) (omega (arith, ints)) g f

-- a number of a range that was passed
pub number_passed : (start stop step : ℤ) (i n : ℕ) → FitsSigned w128 start → FitsSigned w128 stop → n ≡ range_count (to_z w128 (of_z w128 start)) (to_z w128 (of_z w128 stop)) (to_z w128 (of_z w128 step)) → i < n →
    FitsSigned w128 (to_z w128 (of_z w128 start) +ℤ (pos i *ℤ to_z w128 (of_z w128 step)))
number_passed start stop step i n f g e below =
    number_fits (to_z w128 (of_z w128 start)) (to_z w128 (of_z w128 stop)) (to_z w128 (of_z w128 step)) i (subst (FitsSigned w128) (sym (to_z-of_z w128 start f)) f) (subst (FitsSigned w128) (sym (to_z-of_z w128 stop g)) g) (omega arith)

-- ---- whether a number is in it

one_of_when : (n : ℕ) (start step number : ℤ) (far by : ℕ) → ((i : ℕ) → far ≡ i * by → (i < n) × (number ≡ start +ℤ (pos i *ℤ step))) →
    ((i : ℕ) → i < n → number ≡ start +ℤ (pos i *ℤ step) → far ≡ i * by) → (rest : ℕ) → far % by ≡ rest → nat_eq rest 0 ≡ is_one_of number (progression n start step)
one_of_when n start step number far by into out zero e =
    let whole : far ≡ far / by * by = omega (arith, div-add-mod' far by) in
    sym (found n start step number (far / by) (into (far / by) whole).0 (into (far / by) whole).1)
one_of_when n start step number far by into out (suc rest) e =
    other_numbers (suc rest) 0 (λ z. omega arith) ∙ sym (missed n start step number (λ i below is. let none : far % by ≡ 0 = ap (λ m. m % by) (out i below is) ∙ mul-mod_left i by in omega arith))

size_of : (z : ℤ) (n : ℕ) → pos 0 ≤ℤ z → n ≡ unsigned_abs z → pos n ≡ z
size_of (pos m) n h e = ap pos e
size_of (negsuc m) n h e = absurd (omega (arith, ints))

inside_up : (start stop number : ℤ) (far k : ℕ) → 0 < k → pos far ≡ number -ℤ start → number <ℤ stop →
    nat_eq (far % k) 0 ≡ is_one_of number (progression (range_count start stop (pos k)) start (pos k))
inside_up start stop number far k h at below =
    one_of_when (range_count start stop (pos k)) start (pos k) number far k
    (λ i e. (is_counted (stop -ℤ start) k i h (omega (arith, ints)), omega (arith, ints))) (λ i counts e. omega (arith, ints)) (far % k) refl

inside_down : (start stop number : ℤ) (far k : ℕ) → pos far ≡ start -ℤ number → stop <ℤ number →
    nat_eq (far % suc k) 0 ≡ is_one_of number (progression (range_count start stop (negsuc k)) start (negsuc k))
inside_down start stop number far k at above =
    one_of_when (range_count start stop (negsuc k)) start (negsuc k) number far (suc k)
    (λ i e. (is_counted (start -ℤ stop) (suc k) i (omega arith) (omega (arith, ints)), omega (arith, ints))) (λ i counts e. omega (arith, ints)) (far % suc k) refl

pub is_in_up : (start stop step number : ℤ) (far by : ℕ) → pos 0 <ℤ step → start ≤ℤ number → number <ℤ stop → far ≡ unsigned_abs (number -ℤ start) → by ≡ unsigned_abs step →
    nat_eq (far % by) 0 ≡ is_one_of number (progression (range_count start stop step) start step)
is_in_up start stop (pos k) number far by h from below e f =
    ap (λ m. nat_eq (far % m) 0) f ∙ inside_up start stop number far k (omega (arith, ints)) (size_of (number -ℤ start) far (omega (arith, ints)) e) below
is_in_up start stop (negsuc k) number far by h from below e f = absurd (omega (arith, ints))

pub is_in_down : (start stop step number : ℤ) (far by : ℕ) → step <ℤ pos 0 → stop <ℤ number → number ≤ℤ start → far ≡ unsigned_abs (start -ℤ number) → by ≡ unsigned_abs step →
    nat_eq (far % by) 0 ≡ is_one_of number (progression (range_count start stop step) start step)
is_in_down start stop (pos k) number far by h above from e f = absurd (omega (arith, ints))
is_in_down start stop (negsuc k) number far by h above from e f =
    ap (λ m. nat_eq (far % m) 0) f ∙ inside_down start stop number far k (size_of (start -ℤ number) far (omega (arith, ints)) e) above

-- what lies before the start or past the stop isn't in it
pub not_in_up : (start stop step number : ℤ) → pos 0 <ℤ step → (start ≤ℤ number → number <ℤ stop → ⊥) → false ≡ is_one_of number (progression (range_count start stop step) start step)
not_in_up start stop (pos k) number h outside =
    sym (missed (range_count start stop (pos k)) start (pos k) number
    (λ i counts e. let before : pos (i * k) <ℤ (stop -ℤ start) = comes_before (stop -ℤ start) k i (omega (arith, ints)) counts in outside (omega (arith, ints)) (omega (arith, ints))))
not_in_up start stop (negsuc k) number h outside = absurd (omega (arith, ints))

pub not_in_down : (start stop step number : ℤ) → step <ℤ pos 0 → (stop <ℤ number → number ≤ℤ start → ⊥) → false ≡ is_one_of number (progression (range_count start stop step) start step)
not_in_down start stop (pos k) number h outside = absurd (omega (arith, ints))
not_in_down start stop (negsuc k) number h outside =
    sym (missed (range_count start stop (negsuc k)) start (negsuc k) number
    (λ i counts e. let before : pos (i * suc k) <ℤ (start -ℤ stop) = comes_before (start -ℤ stop) (suc k) i (omega arith) counts in outside (omega (arith, ints)) (omega (arith, ints))))

-- ---- the number at a place, computed in 128 bits

wrapped : (place : ℕ) → place < 2 ^ 128 → to_z w128 place ≡ int_wrap w128 (pos place)
unfolding int_wrap
wrapped place h = ap (to_z w128) (sym (mod-eq_of_lt h))

pub number_of : (start step seen : ℤ) (place : ℕ) → FitsSigned w128 start → FitsSigned w128 step → place < 2 ^ 128 → FitsSigned w128 (start +ℤ (pos place *ℤ step)) → seen ≡ to_z w128 place →
    to_z w128 ((of_z w128 start + of_z w128 seen * of_z w128 step % 2 ^ 128) % 2 ^ 128) ≡ start +ℤ (pos place *ℤ step)
number_of start step seen place f g h fits e =
    let product : to_z w128 (place * of_z w128 step % 2 ^ 128) ≡ int_wrap w128 (pos place *ℤ step) =
    wrapping_mul_onto w128 place step h g ∙ ap (λ z. int_wrap w128 (z *ℤ step)) (wrapped place h) ∙ int_wrap-mul_left w128 (pos place) step in
    ap (λ m. to_z w128 ((of_z w128 start + m * of_z w128 step % 2 ^ 128) % 2 ^ 128)) (ap (of_z w128) e ∙ of_z-to_z w128 place h)
    ∙ wrapping_add-bits w128 (of_z w128 start) (place * of_z w128 step % 2 ^ 128) (search rules) (search rules)
    ∙ (λ i. int_wrap w128 (to_z-of_z w128 start f i +ℤ product i)) ∙ int_wrap-add_right w128 start (pos place *ℤ step) ∙ int_wrap_fits w128 (start +ℤ (pos place *ℤ step)) fits

-- ---- numbers that are passed

pub distance_passed : (a b : ℤ) (n : ℕ) → FitsSigned w128 a → FitsSigned w128 b → n ≡ unsigned_abs (to_z w128 (of_z w128 a) -ℤ to_z w128 (of_z w128 b)) → n ≡ unsigned_abs (a -ℤ b)
distance_passed a b n f g e = e ∙ (λ i. unsigned_abs (to_z-of_z w128 a f i -ℤ to_z-of_z w128 b g i))

pub size_passed : (a : ℤ) (n : ℕ) → FitsSigned w128 a → n ≡ unsigned_abs (to_z w128 (of_z w128 a)) → n ≡ unsigned_abs a
size_passed a n f e = e ∙ ap unsigned_abs (to_z-of_z w128 a f)
