-- The bounds of a slice, as the code names them.
use Rattle.std.proofs.Common.{◌-ℤ◌}
use Rattle.star_steps.proofs.Names.{◌≡◌, ℕ, ℤ, pos, negsuc, true, false, arith, ints, bound_or, end_place, first_place}
use Rattle.std.specs.Prelude.{int_lt}
use Rattle.value_spec.specs.Values.{Value}

-- a bound of the same parts
same_bound : (v : Value) (x p low q y r : ℤ) (m n : ℕ) → x ≡ p → low ≡ q → y ≡ r → m ≡ n → bound_or x low y m v ≡ bound_or p q r n v
same_bound v x p low q y r m n e f g h = λ i. bound_or (e i) (f i) (g i) (h i) v

-- downwards, from the last member
pub first_down : (s : ℤ) (n : ℕ) (v : Value) (x low y : ℤ) (m : ℕ) → int_lt s (pos 0) ≡ true → x ≡ pos n -ℤ pos 1 → low ≡ negsuc 0 → y ≡ pos n -ℤ pos 1 → m ≡ n → bound_or x low y m v ≡ first_place s n v
first_down (pos s) n v x low y m down e f g h = absurd (omega (arith, ints, down))
first_down (negsuc s) n v x low y m down e f g h = same_bound v x _ low _ y _ m n e f g h

pub end_down : (s : ℤ) (n : ℕ) (v : Value) (x low y : ℤ) (m : ℕ) → int_lt s (pos 0) ≡ true → x ≡ negsuc 0 → low ≡ negsuc 0 → y ≡ pos n -ℤ pos 1 → m ≡ n → bound_or x low y m v ≡ end_place s n v
end_down (pos s) n v x low y m down e f g h = absurd (omega (arith, ints, down))
end_down (negsuc s) n v x low y m down e f g h = same_bound v x _ low _ y _ m n e f g h

-- upwards, from the first member
pub first_up : (s : ℤ) (n : ℕ) (v : Value) (x low y : ℤ) (m : ℕ) → int_lt s (pos 0) ≡ false → x ≡ pos 0 → low ≡ pos 0 → y ≡ pos n → m ≡ n → bound_or x low y m v ≡ first_place s n v
first_up (pos s) n v x low y m up e f g h = same_bound v x _ low _ y _ m n e f g h
first_up (negsuc s) n v x low y m up e f g h = absurd (omega (arith, ints, up))

pub end_up : (s : ℤ) (n : ℕ) (v : Value) (x low y : ℤ) (m : ℕ) → int_lt s (pos 0) ≡ false → x ≡ pos n → low ≡ pos 0 → y ≡ pos n → m ≡ n → bound_or x low y m v ≡ end_place s n v
end_up (pos s) n v x low y m up e f g h = same_bound v x _ low _ y _ m n e f g h
end_up (negsuc s) n v x low y m up e f g h = absurd (omega (arith, ints, up))
