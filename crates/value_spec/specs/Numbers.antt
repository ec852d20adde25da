-- Integers of 128 bits, and the numbers of ranges.
use Rattle.std.specs.Prelude.{ℕ, zero, suc, ◌+◌, ◌-◌, ◌/◌, ◌^◌, ℤ, pos, negsuc, neg_ℤ, ◌+ℤ◌, ◌-ℤ◌, ◌*ℤ◌, Bool, true, false, nat_lt, ◌==◌, List, [], ◌∷◌}

-- the integer has 128 bits
abbrev pub fits : ℤ → Bool
fits (pos n) = nat_lt n (2 ^ 127)
fits (negsuc n) = nat_lt n (2 ^ 127)

abbrev pub is_zero : ℤ → Bool
is_zero (pos n) = n == 0
is_zero (negsuc n) = false

abbrev pub is_negative : ℤ → Bool
is_negative (pos n) = false
is_negative (negsuc n) = true

-- the number, or 0 for one below
abbrev pub at_least_zero : ℤ → ℕ
at_least_zero (pos n) = n
at_least_zero (negsuc n) = 0

-- the quotient, rounded down
abbrev pub floor_quotient : ℤ → ℤ → ℤ
floor_quotient (pos a) (pos b) = pos (a / b)
floor_quotient (pos a) (negsuc b) = neg_ℤ (pos ((a + b) / suc b))
floor_quotient (negsuc a) (pos b) = negsuc (a / b)
floor_quotient (negsuc a) (negsuc b) = pos (suc a / suc b)

-- what the quotient leaves, which has the divisor's sign
abbrev pub floor_remainder : ℤ → ℤ → ℤ
floor_remainder a b = a -ℤ (b *ℤ floor_quotient a b)

-- each bit turned round
abbrev pub complement : ℤ → ℤ
complement (pos n) = negsuc n
complement (negsuc n) = pos n

-- the number doubled so many times
abbrev pub shifted_left : ℤ → ℕ → ℤ
shifted_left z n = z *ℤ pos (2 ^ n)

-- the number halved so many times, each half rounded down
abbrev pub shifted_right : ℤ → ℕ → ℤ
shifted_right z n = floor_quotient z (pos (2 ^ n))

-- ---- ranges

-- how many steps of this length lead past 0 to a number or beyond it
abbrev pub steps_up : ℤ → ℕ → ℕ
steps_up (pos n) step = (n + (step - 1)) / step
steps_up (negsuc n) step = 0

-- how many numbers a range has: from the start on, and before its stop
abbrev pub range_count : (start stop step : ℤ) → ℕ
range_count start stop (pos step) = steps_up (stop -ℤ start) step
range_count start stop (negsuc step) = steps_up (start -ℤ stop) (suc step)

-- so many numbers, from this one on
abbrev pub progression : ℕ → (start step : ℤ) → List ℤ
progression zero start step = []
progression (suc n) start step = start ∷ progression n (start +ℤ step) step
