-- The conversions of `%`.
use Rattle.std.proofs.Common.{◌≡◌, ◌-◌, ◌/◌, ◌%◌, ◌==◌, ◌<◌, ◌≤◌, ◌++◌, ◌∙◌, ℕ, zero, suc, ℤ, pos, negsuc, nat_abs, int_lt, Bool, true, false, if◌then◌else◌, List, [], ◌∷◌, length, get_or, IsUtf8, OnOk, Result, Ok, Err, ap, append_assoc, refl, sym, arith, rules}
use Rattle.std.proofs.lemmas.Bool.Decides.{nat_tests}
use Rattle.std.proofs.lemmas.Str.{IsCharBoundary-after_ascii}
use Rattle.std.specs.Fmt.{digit_glyph, digits_onto}
use Rattle.std.specs.Str.{IsCharBoundary}
use Rattle.ytt_base.specs.declared.text.Memory.{Memory}
use Rattle.text_spec.proofs.Filling.{digits_are, digits_before}
use Rattle.text_spec.specs.Percent.{conversion_of, in_base, no_conversion}
use Rattle.star_text.specs.Filling.{BeginsHigh, NoConversion}

high_none : (b : ℕ) → 128 ≤ b → conversion_of b ≡ no_conversion
high_none b h = grind (arith, nat_tests)

pub none_high : (t : List ℕ) → BeginsHigh t → NoConversion t
none_high [] h = tt
none_high (b ∷ t) h = high_none b h

pub behind_first : (t : List ℕ) → IsUtf8 t → 0 < length t → get_or t 0 0 < 128 → IsCharBoundary t 1
behind_first t u l h = IsCharBoundary-after_ascii t 0 u l h

-- ---- digits

-- the digits of a number: those of its quotient, if it has some, and the last one
pub digits_last : (count base : ℕ) (capitals : Bool) (n : ℕ) → 0 < count →
    digits_onto count base capitals n [] ≡ (if n / base == 0 then [] else digits_onto (count - 1) base capitals (n / base) []) ++ digit_glyph capitals (n % base) ∷ []
digits_last zero base capitals n l = absurd (omega (arith, l))
digits_last (suc k) base capitals n l = by (n / base == 0) where
  glyph : ℕ
  glyph = digit_glyph capitals (n % base)

  same : suc k - 1 ≡ k
  same = omega arith

  by : (h : Bool) → (if h then glyph ∷ [] else digits_onto k base capitals (n / base) (glyph ∷ [])) ≡ (if h then [] else digits_onto (suc k - 1) base capitals (n / base) []) ++ glyph ∷ []
  by true = refl
  by false = digits_before k base capitals (n / base) (glyph ∷ []) ∙ ap (λ j. digits_onto j base capitals (n / base) [] ++ glyph ∷ []) (sym same)

-- what is put behind what was put
pub pushed : (r : Result (Unit {0}) Memory) (made mid new before x whole : List ℕ) → mid ≡ made ++ before → whole ≡ before ++ x → OnOk r (new ≡ mid ++ x) → OnOk r (new ≡ made ++ whole)
pushed (Ok u) made mid new before x whole e f h = h ∙ ap (λ m. m ++ x) e ∙ append_assoc made before x ∙ ap (λ w. made ++ w) (sym f)
pushed (Err m) made mid new before x whole e f h = tt

-- the sign of an integer
abbrev pub sign_of : ℤ → List ℕ
sign_of (pos n) = []
sign_of (negsuc n) = 45 ∷ []

pub signed_digits : (base : ℕ) (capitals : Bool) (z : ℤ) → in_base base capitals z ≡ sign_of z ++ digits_onto 64 base capitals (nat_abs z) []
signed_digits base capitals (pos n) = digits_are base capitals n
signed_digits base capitals (negsuc n) = ap (λ d. 45 ∷ d) (digits_are base capitals (suc n))

pub sign_below : (z : ℤ) → int_lt z (pos 0) ≡ true → sign_of z ≡ 45 ∷ []
sign_below (pos n) h = absurd (search (rules, h))
sign_below (negsuc n) h = refl

pub sign_above : (z : ℤ) → int_lt z (pos 0) ≡ false → sign_of z ≡ []
sign_above (pos n) h = refl
sign_above (negsuc n) h = absurd (search (rules, h))
