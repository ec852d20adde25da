-- The form of a plain scalar, by the tests up to the one that holds.
use Rattle.std.proofs.Common.{◌≡◌, ℕ, List, refl, Bool, true, false, ◌&&◌, ◌∙◌, if◌then◌else◌, codes}
use Rattle.std.specs.List.{list_all}
use Rattle.yaml_spec.specs.Bytes.{is_word, null_words, true_words, false_words, yes_words, is_digit, is_octal_digit, is_hex_digit}
use Rattle.yaml_spec.specs.Scalars.{Form, null_form, bool_form, octal_form, bad_octal_form, integer_form, prefixed_form, float_form, word_form, string_form, form, unsigned, some_of, has_leading_zero, has_prefix, is_float}

abbrev pub by_tests : (n t f z e d o x l y : Bool) → Form
by_tests n t f z e d o x l y =
    if n then null_form else if t then bool_form true else if f then bool_form false
    else if z && e then octal_form else if z then bad_octal_form else if d then integer_form
    else if o then prefixed_form 8 else if x then prefixed_form 16 else if l then float_form
    else if y then word_form else string_form

module _ (s : List ℕ) where
  abbrev pub null : Bool
  null = is_word null_words s

  abbrev pub truth : Bool
  truth = is_word true_words s

  abbrev pub falsehood : Bool
  falsehood = is_word false_words s

  abbrev pub zero : Bool
  zero = has_leading_zero (unsigned s)

  abbrev pub digits : Bool
  digits = some_of is_digit (unsigned s)

  abbrev pub octal : Bool
  octal = has_prefix (codes "0o") is_octal_digit s

  abbrev pub hex : Bool
  hex = has_prefix (codes "0x") is_hex_digit s

  pub form-tests : form s ≡ by_tests null truth falsehood zero (list_all is_octal_digit (unsigned s)) digits octal hex (is_float s) (is_word yes_words s)
  unfolding form
  form-tests = refl

  pub form-null : null ≡ true → form s ≡ null_form
  form-null a = form-tests ∙ rw a refl

  pub form-true : null ≡ false → truth ≡ true → form s ≡ bool_form true
  form-true a b = form-tests ∙ rw (a, b) refl

  pub form-false : null ≡ false → truth ≡ false → falsehood ≡ true → form s ≡ bool_form false
  form-false a b c = form-tests ∙ rw (a, b, c) refl

  pub form-octal : null ≡ false → truth ≡ false → falsehood ≡ false → zero ≡ true → list_all is_octal_digit (unsigned s) ≡ true → form s ≡ octal_form
  form-octal a b c d e = form-tests ∙ rw (a, b, c, d, e) refl

  pub form-bad_octal : null ≡ false → truth ≡ false → falsehood ≡ false → zero ≡ true → list_all is_octal_digit (unsigned s) ≡ false → form s ≡ bad_octal_form
  form-bad_octal a b c d e = form-tests ∙ rw (a, b, c, d, e) refl

  pub form-integer : null ≡ false → truth ≡ false → falsehood ≡ false → zero ≡ false → digits ≡ true → form s ≡ integer_form
  form-integer a b c d e = form-tests ∙ rw (a, b, c, d, e) refl

  pub form-prefixed_octal : null ≡ false → truth ≡ false → falsehood ≡ false → zero ≡ false → digits ≡ false → octal ≡ true → form s ≡ prefixed_form 8
  form-prefixed_octal a b c d e f = form-tests ∙ rw (a, b, c, d, e, f) refl

  pub form-prefixed_hex : null ≡ false → truth ≡ false → falsehood ≡ false → zero ≡ false → digits ≡ false → octal ≡ false → hex ≡ true → form s ≡ prefixed_form 16
  form-prefixed_hex a b c d e f g = form-tests ∙ rw (a, b, c, d, e, f, g) refl

  pub form-float : null ≡ false → truth ≡ false → falsehood ≡ false → zero ≡ false → digits ≡ false → octal ≡ false → hex ≡ false → is_float s ≡ true → form s ≡ float_form
  form-float a b c d e f g h = form-tests ∙ rw (a, b, c, d, e, f, g, h) refl

  pub form-word : null ≡ false → truth ≡ false → falsehood ≡ false → zero ≡ false → digits ≡ false → octal ≡ false → hex ≡ false → is_float s ≡ false
      → is_word yes_words s ≡ true → form s ≡ word_form
  form-word a b c d e f g h i = form-tests ∙ rw (a, b, c, d, e, f, g, h, i) refl

  pub form-string : null ≡ false → truth ≡ false → falsehood ≡ false → zero ≡ false → digits ≡ false → octal ≡ false → hex ≡ false → is_float s ≡ false
      → is_word yes_words s ≡ false → form s ≡ string_form
  form-string a b c d e f g h i = form-tests ∙ rw (a, b, c, d, e, f, g, h, i) refl

pub ruleset forms = (form-null, form-true, form-false, form-octal, form-bad_octal, form-integer, form-prefixed_octal, form-prefixed_hex, form-float, form-word, form-string)
