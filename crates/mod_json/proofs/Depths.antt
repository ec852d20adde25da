-- How deep a tree is, by what is counted of it.
use Rattle.std.proofs.Common.{◌≡◌, ◌-◌, ◌<◌, ◌≤◌, ◌^◌, ℕ, nat_le, min, true, false, arith}
use Rattle.std.proofs.lemmas.Bool.{le-leb, lt-leb}

pub within : (d r : ℕ) → r ≡ min d (2 ^ 32 - 1) → r ≤ 100 → nat_le d 100 ≡ true
within d r e h = le-leb d 100 (omega (arith, e, h))

pub beyond : (d r : ℕ) → r ≡ min d (2 ^ 32 - 1) → 100 < r → nat_le d 100 ≡ false
beyond d r e h = lt-leb d 100 (omega (arith, e, h))
