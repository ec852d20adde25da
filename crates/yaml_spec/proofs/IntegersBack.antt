-- An integer, as it is printed, is typed as itself.
use Rattle.std.proofs.Common.{◌≡◌, ℕ, zero, suc, ◌+◌, ◌/◌, ◌%◌, ◌^◌, ◌<◌, ◌≤◌, pos, negsuc, Bool, true, false, not, ◌&&◌, ◌==◌, List, [], ◌∷◌, Ok, refl, sym, ◌∙◌, ap, subst, arith, true≢false}
use Rattle.std.specs.List.{list_all}
use Rattle.std.proofs.lemmas.Bool.{cond_both, ne_eqb, eqb-true, eqb-false, le-leb, lt-ltb, leb-true, and_parts, not-true}
use Rattle.std.specs.Prelude.{nat_le, decimal, bytes_eq}
use Rattle.std.proofs.Math.Nat.{pow-suc}
use Rattle.std.specs.Fmt.{digits, digits_onto, digit_glyph, signed_decimal}
use Rattle.yaml_spec.specs.Bytes.{first, is_empty, is_digit, digit_value, is_word, null_words, true_words, false_words}
use Rattle.ytt_base.specs.Trees.{integer}
use Rattle.yaml_spec.specs.Scalars.{integer_form, form, plain, digits_value, unsigned, some_of, has_leading_zero, is_negative}

digit_glyph-value : (d : ℕ) → d < 10 → digit_value (digit_glyph false d) ≡ d
digit_glyph-value d l = rw (lt-ltb d 10 l, le-leb (48 + d) 57 (omega arith)) (omega arith)

is_digit-glyph : (d : ℕ) → d < 10 → is_digit (digit_glyph false d) ≡ true
is_digit-glyph d l = rw (lt-ltb d 10 l, le-leb 48 (48 + d) (omega arith), le-leb (48 + d) 57 (omega arith)) refl

tenth : (k n : ℕ) → n < 10 ^ suc (suc k) → n / 10 < 10 ^ suc k
tenth k n l = let m = subst (λ (x : ℕ). n < x) (pow-suc 10 (suc k)) l in omega (arith, m)

ne_zero : (m : ℕ) → (m ≡ 0 → ⊥) → 0 < m
ne_zero zero h = absurd (h refl)
ne_zero (suc m) h = omega arith

below_ten : (n : ℕ) → n < 10 ^ 1 → n / 10 ≡ 0
below_ten n l = let m : n < 10 = l in omega arith

-- the digits have the value of the number
onto-value : (k n : ℕ) (acc : List ℕ) → n < 10 ^ suc k → digits_value 10 0 (digits_onto (suc k) 10 false n acc) ≡ digits_value 10 n acc
onto-value zero n acc l =
    cond_both (n / 10 == 0) _ _ (λ (t : List ℕ). digits_value 10 0 t ≡ digits_value 10 n acc)
    (λ e. ap (λ m. digits_value 10 m acc) (rw (digit_glyph-value (n % 10) (omega arith)) (let q = eqb-true (n / 10) 0 e in omega arith)))
    (λ e. absurd (eqb-false (n / 10) 0 e (below_ten n l)))
onto-value (suc k) n acc l =
    cond_both (n / 10 == 0) _ _ (λ (t : List ℕ). digits_value 10 0 t ≡ digits_value 10 n acc)
    (λ e. ap (λ m. digits_value 10 m acc) (rw (digit_glyph-value (n % 10) (omega arith)) (let q = eqb-true (n / 10) 0 e in omega arith)))
    (λ e. onto-value k (n / 10) (digit_glyph false (n % 10) ∷ acc) (tenth k n l)
    ∙ ap (λ m. digits_value 10 m acc) (rw (digit_glyph-value (n % 10) (omega arith)) (omega arith)))

-- and are digits
onto-digits : (k n : ℕ) (acc : List ℕ) → list_all is_digit acc ≡ true → list_all is_digit (digits_onto k 10 false n acc) ≡ true
onto-digits zero n acc h = h
onto-digits (suc k) n acc h =
    let p : list_all is_digit (digit_glyph false (n % 10) ∷ acc) ≡ true = rw (is_digit-glyph (n % 10) (omega arith)) h in
    cond_both (n / 10 == 0) _ _ (λ (t : List ℕ). list_all is_digit t ≡ true) (λ e. p) (λ e. onto-digits k (n / 10) (digit_glyph false (n % 10) ∷ acc) p)

-- the first is no 0, unless the number is
onto-first : (k n : ℕ) (acc : List ℕ) → 0 < n → n < 10 ^ suc k → (first (digits_onto (suc k) 10 false n acc) == 48) ≡ false
onto-first zero n acc p l =
    cond_both (n / 10 == 0) _ _ (λ (t : List ℕ). (first t == 48) ≡ false)
    (λ e. let q = eqb-true (n / 10) 0 e in rw (lt-ltb (n % 10) 10 (omega arith)) (ne_eqb (48 + n % 10) 48 (omega arith)))
    (λ e. absurd (eqb-false (n / 10) 0 e (below_ten n l)))
onto-first (suc k) n acc p l =
    cond_both (n / 10 == 0) _ _ (λ (t : List ℕ). (first t == 48) ≡ false)
    (λ e. let q = eqb-true (n / 10) 0 e in rw (lt-ltb (n % 10) 10 (omega arith)) (ne_eqb (48 + n % 10) 48 (omega arith)))
    (λ e. onto-first k (n / 10) (digit_glyph false (n % 10) ∷ acc) (let q = eqb-false (n / 10) 0 e in omega (arith, ne_zero (n / 10) q)) (tenth k n l))

abbrev limit : ℕ
limit = 10 ^ 64

pub decimal-value : (n : ℕ) → n < 10 ^ 64 → digits_value 10 0 (decimal n) ≡ n
unfolding digits
decimal-value n l = onto-value 63 n [] l

pub decimal-digits : (n : ℕ) → list_all is_digit (decimal n) ≡ true
unfolding digits
decimal-digits n = onto-digits 64 n [] refl

pub decimal-first : (n : ℕ) → 0 < n → n < 10 ^ 64 → (first (decimal n) == 48) ≡ false
unfolding digits
decimal-first n p l = onto-first 63 n [] p l

-- ---- its form

-- no word begins with this byte
abbrev none_begins : ℕ → List (List ℕ) → Bool
none_begins b [] = true
none_begins b (w ∷ ws) = not (first w == b) && none_begins b ws

differ : (w : List ℕ) (b : ℕ) (bs : List ℕ) → (first w == b) ≡ false → bytes_eq w (b ∷ bs) ≡ false
differ [] b bs e = refl
differ (c ∷ cs) b bs e = rw e refl

no_word : (ws : List (List ℕ)) (b : ℕ) (bs : List ℕ) → none_begins b ws ≡ true → is_word ws (b ∷ bs) ≡ false
no_word [] b bs e = refl
no_word (w ∷ ws) b bs e =
    let k = and_parts (not (first w == b)) (none_begins b ws) e in
    rw (differ w b bs (not-true (first w == b) k.0)) (no_word ws b bs k.1)

-- no word of the first forms begins with this byte
record NoWord (b : ℕ) : Type 0 where
  nulls : none_begins b null_words ≡ true
  trues : none_begins b true_words ≡ true
  falses : none_begins b false_words ≡ true

no_word_digit : (b : ℕ) → 48 ≤ b → b ≤ 57 → NoWord b
no_word_digit b l m = record {
  nulls = rw (ne_eqb 0 b (omega arith), ne_eqb 126 b (omega arith), ne_eqb 110 b (omega arith), ne_eqb 78 b (omega arith)) refl;
  trues = rw (ne_eqb 116 b (omega arith), ne_eqb 84 b (omega arith)) refl;
  falses = rw (ne_eqb 102 b (omega arith), ne_eqb 70 b (omega arith)) refl;
}

no_word_dash : NoWord 45
no_word_dash = record { nulls = refl; trues = refl; falses = refl }

-- `0` alone, or digits without a leading zero, with or without a minus sign
form-integer : (b : ℕ) (bs u : List ℕ) → NoWord b → unsigned (b ∷ bs) ≡ u → has_leading_zero u ≡ false → some_of is_digit u ≡ true → form (b ∷ bs) ≡ integer_form
unfolding form
form-integer b bs u n e z d =
    rw (no_word null_words b bs n.nulls, no_word true_words b bs n.trues, no_word false_words b bs n.falses, e, z, d) refl

onto-some : (k n : ℕ) (acc : List ℕ) → is_empty acc ≡ false → is_empty (digits_onto k 10 false n acc) ≡ false
onto-some zero n acc h = h
onto-some (suc k) n acc h =
    cond_both (n / 10 == 0) _ _ (λ (t : List ℕ). is_empty t ≡ false) (λ e. refl) (λ e. onto-some k (n / 10) (digit_glyph false (n % 10) ∷ acc) refl)

pub decimal-some : (n : ℕ) → is_empty (decimal n) ≡ false
unfolding digits
decimal-some n =
    cond_both (n / 10 == 0) _ _ (λ (t : List ℕ). is_empty t ≡ false) (λ e. refl) (λ e. onto-some 63 (n / 10) (digit_glyph false (n % 10) ∷ []) refl)

fits_limit : (n : ℕ) → n < 2 ^ 127 → suc n < 10 ^ 64
fits_limit n l = omega arith

-- digits of a number from 1 on, behind nothing or a minus sign
module _ (n : ℕ) (l : suc n < 10 ^ 64) where
  some_digits : some_of is_digit (decimal (suc n)) ≡ true
  some_digits = rw (decimal-some (suc n), decimal-digits (suc n)) refl

  no_zero : has_leading_zero (decimal (suc n)) ≡ false
  no_zero = rw (decimal-first (suc n) (omega arith) l) refl

  form-negative : form (45 ∷ decimal (suc n)) ≡ integer_form
  form-negative = form-integer 45 (decimal (suc n)) (decimal (suc n)) no_word_dash refl no_zero some_digits

  positive_by : (t : List ℕ) → decimal (suc n) ≡ t → (form t ≡ integer_form) × (unsigned t ≡ t) × (is_negative t ≡ false)
  positive_by [] e = absurd (true≢false (ap is_empty (sym e) ∙ decimal-some (suc n)))
  positive_by (b ∷ bs) e =
      let d = and_parts (is_digit b) (list_all is_digit bs) (ap (list_all is_digit) (sym e) ∙ decimal-digits (suc n)) in
      let r = and_parts (nat_le 48 b) (nat_le b 57) d.0 in
      let low = leb-true 48 b r.0 in
      let high = leb-true b 57 r.1 in
      let u : unsigned (b ∷ bs) ≡ b ∷ bs = rw (ne_eqb b 43 (omega arith), ne_eqb b 45 (omega arith)) refl in
      (form-integer b bs (b ∷ bs) (no_word_digit b low high) u (ap has_leading_zero (sym e) ∙ no_zero) (ap (some_of is_digit) (sym e) ∙ some_digits), u, ne_eqb b 45 (omega arith))

pub plain-negative : (n : ℕ) → n < 2 ^ 127 → plain (signed_decimal (negsuc n)) ≡ Ok (integer (negsuc n))
unfolding plain
plain-negative n l =
    rw (form-negative n (fits_limit n l), decimal-value (suc n) (fits_limit n l), le-leb (suc n) (2 ^ 127) l) refl

plain-some : (n : ℕ) → suc n < 2 ^ 127 → plain (decimal (suc n)) ≡ Ok (integer (pos (suc n)))
unfolding plain
plain-some n l =
    let f : suc n < 10 ^ 64 = omega arith in
    let p = positive_by n f (decimal (suc n)) refl in
    rw (p.0, p.1, p.2, decimal-value (suc n) f, lt-ltb (suc n) (2 ^ 127) l) refl

plain-zero : plain (decimal 0) ≡ Ok (integer (pos 0))
unfolding plain digits form
plain-zero = refl

pub plain-positive : (n : ℕ) → n < 2 ^ 127 → plain (signed_decimal (pos n)) ≡ Ok (integer (pos n))
plain-positive zero l = plain-zero
plain-positive (suc n) l = plain-some n l

-- ---- every integer of 128 bits
