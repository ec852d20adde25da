-- Integers as the program reads them.
use Rattle.std.specs.Int.{w128}
use Rattle.std.proofs.Common.{◌≡◌, FitsSigned, ℕ, zero, suc, ◌+◌, ◌*◌, ◌^◌, ◌<◌, ◌≤◌, pos, neg_ℤ, Bool, true, false, ◌||◌, cond, if◌then◌else◌, List, [], ◌∷◌, drop, Ok, Err, refl, sym, ◌∙◌, ap, arith, nat_lt}
use Rattle.std.proofs.lemmas.Bool.{le-leb, le-ltb, lt-ltb}
use Rattle.std.proofs.lemmas.Bool.Decides.{nat_tests}
use Rattle.std.specs.Char.{digit_value as std_digit}
use Rattle.std.specs.Str.Parse.{AllDigits, IsNumeral, digits_value_after, signed_digits_value, starts_with_minus, without_leading_sign}
use Rattle.std.specs.Str.Parse.{digits_value as std_value}
use Rattle.ytt_base.specs.declared.fault.FaultKind.TheVariants as kind
use Rattle.ytt_base.specs.Trees.{integer}
use Rattle.yaml_spec.specs.Bytes.{digit_value}
use Rattle.yaml_spec.specs.Scalars.{digits_value, integer_of, is_negative, unsigned}

-- ---- digits

digit-same : (c : ℕ) → std_digit c < 16 → digit_value c ≡ std_digit c
digit-same c h = grind (arith, nat_tests)

value-same : (base n : ℕ) (ds : List ℕ) → base ≤ 16 → AllDigits base ds → digits_value base n ds ≡ digits_value_after base n ds
value-same base n [] h a = refl
value-same base n (d ∷ ds) h a =
    ap (λ m. digits_value base (n * base + m) ds) (digit-same d (omega (arith, a.0))) ∙ value-same base (n * base + std_digit d) ds h a.1

-- ---- signs

unsigned_by : (minus plus : Bool) (t : List ℕ) → (if plus || minus then drop 1 t else t) ≡ cond minus (drop 1 t) (drop (cond plus 1 0) t)
unsigned_by true true t = refl
unsigned_by true false t = refl
unsigned_by false true t = refl
unsigned_by false false t = refl

pub unsigned-std : (t : List ℕ) → unsigned t ≡ without_leading_sign t
unsigned-std t = unsigned_by _ _ t

fits_by : (minus : Bool) (n : ℕ) → FitsSigned w128 (cond minus (neg_ℤ (pos n)) (pos n)) → integer_of minus n ≡ Ok (integer (cond minus (neg_ℤ (pos n)) (pos n)))
fits_by false n h = rw (lt-ltb n (2 ^ 127) h.sfits) refl
fits_by true zero h = refl
fits_by true (suc n) h = rw (le-leb (suc n) (2 ^ 127) h.sfits) refl

not_fits : (n : ℕ) → (n < 2 ^ 127 → ⊥) → nat_lt n (2 ^ 127) ≡ false
not_fits n h = le-ltb n (2 ^ 127) (omega (arith, h))

wide_by : (minus : Bool) (n : ℕ) → (FitsSigned w128 (cond minus (neg_ℤ (pos n)) (pos n)) → ⊥) → integer_of minus n ≡ Err kind.IntWide
wide_by false n h = rw (not_fits n (λ l. h (record { sfits = l }))) refl
wide_by true zero h = absurd (h (record { sfits = omega arith }))
wide_by true (suc n) h = rw (not_fits n (λ l. h (record { sfits = l }))) refl

-- ---- a text that the program reads as an integer

std-value : (base : ℕ) (t : List ℕ) → base ≤ 16 → IsNumeral base (without_leading_sign t) → digits_value base 0 (unsigned t) ≡ std_value base (without_leading_sign t)
std-value base t h a = ap (digits_value base 0) (unsigned-std t) ∙ value-same base 0 (without_leading_sign t) h a.1

pub integer-fits : (base : ℕ) (t : List ℕ) → base ≤ 16 → IsNumeral base (without_leading_sign t) → FitsSigned w128 (signed_digits_value base t)
    → Ok (integer (signed_digits_value base t)) ≡ integer_of (is_negative t) (digits_value base 0 (unsigned t))
integer-fits base t h a f = rw (std-value base t h a) (sym (fits_by (starts_with_minus t) (std_value base (without_leading_sign t)) f))

pub integer-wide : (base : ℕ) (t : List ℕ) → base ≤ 16 → IsNumeral base (without_leading_sign t) → (FitsSigned w128 (signed_digits_value base t) → ⊥)
    → Err kind.IntWide ≡ integer_of (is_negative t) (digits_value base 0 (unsigned t))
integer-wide base t h a f = rw (std-value base t h a) (sym (wide_by (starts_with_minus t) (std_value base (without_leading_sign t)) f))

pub ruleset integers = (integer-fits, integer-wide)
