-- The value of a plain scalar by its form.
use Rattle.std.proofs.Common.{◌≡◌, ℕ, ◌<◌, ◌≤◌, Bool, true, false, List, [], ◌∷◌, drop, codes, Ok, Err, refl, sym, ◌∙◌, ap, subst, arith, ne_eqb}
use Rattle.std.proofs.lemmas.Bool.{and_parts}
use Rattle.std.proofs.lemmas.Bool.Decides.{nat_tests}
use Rattle.std.proofs.lemmas.Str.{IsCharBoundary-before_ascii}
use Rattle.std.specs.Char.{digit_value as std_digit}
use Rattle.std.specs.List.{list_all}
use Rattle.std.specs.Str.{IsCharBoundary}
use Rattle.std.specs.Str.Parse.{AllDigits, IsNumeral, without_leading_sign}
use Rattle.ytt_base.specs.declared.fault.FaultKind.TheVariants as kind
use Rattle.ytt_base.specs.Trees.{null, boolean, string}
use Rattle.yaml_spec.specs.Bytes.{is_word, yes_words, is_digit, is_octal_digit, is_hex_digit}
use Rattle.yaml_spec.specs.Scalars.{Form, null_form, bool_form, octal_form, bad_octal_form, integer_form, prefixed_form, float_form, word_form, string_form, form, plain, value_of, integer_of, digits_value, unsigned, is_negative, some_of, has_leading_zero, has_prefix, is_float}
use Rattle.yaml_kinds.proofs.ByteTests.{too_short}
use Rattle.yaml_kinds.proofs.FormTests.{by_tests, form-tests, null as is_null, truth, falsehood, zero as leading, digits, octal, hex}
use Rattle.yaml_kinds.proofs.Integers.{unsigned-std}

-- ---- digits

-- the digits of a base, which are ASCII and no signs
abbrev AreDigits : (ℕ → Bool) → ℕ → Type 0
AreDigits test base = (b : ℕ) → test b ≡ true → (48 ≤ b) × (std_digit b < base) × (b < 128)

in_octal : AreDigits is_octal_digit 8
in_octal b h = (grind (arith, nat_tests), grind (arith, nat_tests), grind (arith, nat_tests))

in_decimal : AreDigits is_digit 10
in_decimal b h = (grind (arith, nat_tests), grind (arith, nat_tests), grind (arith, nat_tests))

in_hex : AreDigits is_hex_digit 16
in_hex b h = (grind (arith, nat_tests), grind (arith, nat_tests), grind (arith, nat_tests))

module _ (test : ℕ → Bool) (base : ℕ) (are : AreDigits test base) where
  all_digits : (ds : List ℕ) → list_all test ds ≡ true → AllDigits base ds
  all_digits [] h = tt
  all_digits (d ∷ ds) h = let p = and_parts (test d) (list_all test ds) h in ((are d p.0).1, all_digits ds p.1)

  numeral : (ds : List ℕ) → some_of test ds ≡ true → IsNumeral base ds
  numeral [] h = cc
  numeral (d ∷ ds) h = (omega arith, all_digits (d ∷ ds) h)

  no_sign : (ds : List ℕ) → some_of test ds ≡ true → (unsigned ds ≡ ds) × (is_negative ds ≡ false)
  no_sign [] h = cc
  no_sign (d ∷ ds) h =
      let l = (are d (and_parts (test d) (list_all test ds) h).0).0 in
      (rw (ne_eqb d 43 (omega arith), ne_eqb d 45 (omega arith)) refl, ne_eqb d 45 (omega arith))

  module _ (p q : ℕ) (s : List ℕ) (h : has_prefix (p ∷ q ∷ []) test s ≡ true) where
    behind : some_of test (drop 2 s) ≡ true
    behind = (and_parts _ _ h).1

    numeral-behind : IsNumeral base (without_leading_sign (drop 2 s))
    numeral-behind = rw (← unsigned-std (drop 2 s), (no_sign (drop 2 s) behind).0) (numeral (drop 2 s) behind)

    integer-behind : integer_of (is_negative (drop 2 s)) (digits_value base 0 (unsigned (drop 2 s))) ≡ integer_of false (digits_value base 0 (drop 2 s))
    integer-behind = let n = no_sign (drop 2 s) behind in rw (n.0, n.1) refl

  boundary : (p q : ℕ) (s : List ℕ) → has_prefix (p ∷ q ∷ []) test s ≡ true → IsCharBoundary s 2
  boundary p q [] h = cc
  boundary p q (a ∷ []) h = cc (too_short p q test (a ∷ []) (omega arith))
  boundary p q (a ∷ b ∷ []) h = cc (too_short p q test (a ∷ b ∷ []) (omega arith))
  boundary p q (a ∷ b ∷ c ∷ s) h = IsCharBoundary-before_ascii (a ∷ b ∷ c ∷ s) 2 (omega arith) (are c (and_parts (test c) (list_all test s) (and_parts _ _ h).1).0).2

-- ---- what a form says

abbrev Holds : Form → (z e d o x : Bool) → Type 0
Holds null_form z e d o x = Unit {0}
Holds (bool_form b) z e d o x = Unit {0}
Holds octal_form z e d o x = (z ≡ true) × (e ≡ true)
Holds bad_octal_form z e d o x = Unit {0}
Holds integer_form z e d o x = d ≡ true
Holds (prefixed_form base) z e d o x = (base ≡ 8 → o ≡ true) × (base ≡ 16 → x ≡ true)
Holds float_form z e d o x = Unit {0}
Holds word_form z e d o x = Unit {0}
Holds string_form z e d o x = Unit {0}

holds : (n t f z e d o x l y : Bool) → Holds (by_tests n t f z e d o x l y) z e d o x
holds true t f z e d o x l y = tt
holds false true f z e d o x l y = tt
holds false false true z e d o x l y = tt
holds false false false true true d o x l y = (refl, refl)
holds false false false true false d o x l y = tt
holds false false false false e true o x l y = refl
holds false false false false e false true x l y = (λ h. refl, λ h. absurd (omega arith))
holds false false false false e false false true l y = (λ h. absurd (omega arith), λ h. refl)
holds false false false false e false false false true y = tt
holds false false false false e false false false false true = tt
holds false false false false e false false false false false = tt

form-holds : (s : List ℕ) (f : Form) → form s ≡ f → Holds f (leading s) (list_all is_octal_digit (unsigned s)) (digits s) (octal s) (hex s)
form-holds s f e =
    subst (λ (g : Form). Holds g (leading s) (list_all is_octal_digit (unsigned s)) (digits s) (octal s) (hex s)) (sym (form-tests s) ∙ e)
    (holds (is_null s) (truth s) (falsehood s) (leading s) (list_all is_octal_digit (unsigned s)) (digits s) (octal s) (hex s) (is_float s) (is_word yes_words s))

some_octal : (u : List ℕ) → has_leading_zero u ≡ true → list_all is_octal_digit u ≡ true → some_of is_octal_digit u ≡ true
some_octal [] h k = cc
some_octal (b ∷ bs) h k = k

-- ---- integers

signed_numeral : (base : ℕ) (s : List ℕ) → IsNumeral base (unsigned s) → IsNumeral base (without_leading_sign s)
signed_numeral base s h = subst (λ (t : List ℕ). IsNumeral base t) (unsigned-std s) h

pub numeral-octal : (s : List ℕ) → form s ≡ octal_form → IsNumeral 8 (without_leading_sign s)
numeral-octal s e =
    let p = form-holds s octal_form e in signed_numeral 8 s (numeral is_octal_digit 8 in_octal (unsigned s) (some_octal (unsigned s) p.0 p.1))

pub numeral-integer : (s : List ℕ) → form s ≡ integer_form → IsNumeral 10 (without_leading_sign s)
numeral-integer s e = signed_numeral 10 s (numeral is_digit 10 in_decimal (unsigned s) (form-holds s integer_form e))

-- behind a prefix

prefixed-octal : (s : List ℕ) → form s ≡ prefixed_form 8 → has_prefix (codes "0o") is_octal_digit s ≡ true
prefixed-octal s e = (form-holds s (prefixed_form 8) e).0 refl

prefixed-hex : (s : List ℕ) → form s ≡ prefixed_form 16 → has_prefix (codes "0x") is_hex_digit s ≡ true
prefixed-hex s e = (form-holds s (prefixed_form 16) e).1 refl

pub boundary-octal : (s : List ℕ) → form s ≡ prefixed_form 8 → IsCharBoundary s 2
boundary-octal s e = boundary is_octal_digit 8 in_octal 48 111 s (prefixed-octal s e)

pub boundary-hex : (s : List ℕ) → form s ≡ prefixed_form 16 → IsCharBoundary s 2
boundary-hex s e = boundary is_hex_digit 16 in_hex 48 120 s (prefixed-hex s e)

pub numeral-prefixed_octal : (s : List ℕ) → form s ≡ prefixed_form 8 → IsNumeral 8 (without_leading_sign (drop 2 s))
numeral-prefixed_octal s e = numeral-behind is_octal_digit 8 in_octal 48 111 s (prefixed-octal s e)

pub numeral-prefixed_hex : (s : List ℕ) → form s ≡ prefixed_form 16 → IsNumeral 16 (without_leading_sign (drop 2 s))
numeral-prefixed_hex s e = numeral-behind is_hex_digit 16 in_hex 48 120 s (prefixed-hex s e)

-- ---- values

module _ (s : List ℕ) where
  at_form : (f : Form) → form s ≡ f → value_of f s ≡ plain s
  unfolding plain
  at_form f e = ap (λ (g : Form). value_of g s) (sym e)

  pub plain-null : form s ≡ null_form → Ok null ≡ plain s
  plain-null e = at_form null_form e

  pub plain-bool : (b : Bool) → form s ≡ bool_form b → Ok (boolean b) ≡ plain s
  plain-bool b e = at_form (bool_form b) e

  pub plain-octal : form s ≡ octal_form → integer_of (is_negative s) (digits_value 8 0 (unsigned s)) ≡ plain s
  plain-octal e = at_form octal_form e

  pub plain-bad_octal : form s ≡ bad_octal_form → Err kind.YamlOut ≡ plain s
  plain-bad_octal e = at_form bad_octal_form e

  pub plain-integer : form s ≡ integer_form → integer_of (is_negative s) (digits_value 10 0 (unsigned s)) ≡ plain s
  plain-integer e = at_form integer_form e

  pub plain-prefixed_octal : form s ≡ prefixed_form 8 → integer_of (is_negative (drop 2 s)) (digits_value 8 0 (unsigned (drop 2 s))) ≡ plain s
  plain-prefixed_octal e = integer-behind is_octal_digit 8 in_octal 48 111 s (prefixed-octal s e) ∙ at_form (prefixed_form 8) e

  pub plain-prefixed_hex : form s ≡ prefixed_form 16 → integer_of (is_negative (drop 2 s)) (digits_value 16 0 (unsigned (drop 2 s))) ≡ plain s
  plain-prefixed_hex e = integer-behind is_hex_digit 16 in_hex 48 120 s (prefixed-hex s e) ∙ at_form (prefixed_form 16) e

  pub plain-float : form s ≡ float_form → Err kind.FloatScalar ≡ plain s
  plain-float e = at_form float_form e

  pub plain-word : form s ≡ word_form → Ok (string s) ≡ plain s
  plain-word e = at_form word_form e

  pub plain-string : form s ≡ string_form → Ok (string s) ≡ plain s
  plain-string e = at_form string_form e

pub ruleset plain_values = (
  numeral-octal,
  numeral-integer,
  numeral-prefixed_octal,
  numeral-prefixed_hex,
  boundary-octal,
  boundary-hex,
  plain-null,
  plain-bool,
  plain-octal,
  plain-bad_octal,
  plain-integer,
  plain-prefixed_octal,
  plain-prefixed_hex,
  plain-float,
  plain-word,
  plain-string,
)
