-- What an escape stands for, on the bytes behind its backslash.
use Rattle.std.proofs.Common.{◌≡◌, ℕ, zero, suc, ◌+◌, ◌*◌, ◌-◌, ◌<◌, ◌≤◌, Bool, true, false, List, [], ◌∷◌, length, get_or, drop, Option, Some, None, refl, sym, ◌∙◌, arith, if◌then◌else◌, length-drop}
use Rattle.std.proofs.lemmas.Bool.Decides.{nat_tests}
use Rattle.std.proofs.lemmas.List.{drop_more}
use Rattle.std.specs.Char.{IsScalar}
use Rattle.yaml_spec.specs.Bytes.{is_hex_digit, digit_value}
use Rattle.yaml_spec.specs.Quotes.{escaped, escape_digits, is_scalar_value}
use Rattle.yaml_quotes.specs.Turns.{Turn, ends, gives, fails, number_at, escape_at}

pub escape-end : (t : List ℕ) → length t ≡ 0 → escape_at t ≡ ends true
unfolding escape_at
escape-end [] h = refl
escape-end (b ∷ bs) h = absurd (omega arith)

pub escape-char : (t : List ℕ) (c : ℕ) → 0 < length t → escaped (get_or t 0 0) ≡ Some c → escape_at t ≡ gives c (drop 1 t)
unfolding escape_at
escape-char [] c h e = absurd (omega arith)
escape-char (b ∷ bs) c h e = rw (escape_at, e) refl

pub escape-number : (t : List ℕ) (n : ℕ) → 0 < length t → escaped (get_or t 0 0) ≡ None → escape_digits (get_or t 0 0) ≡ Some n → escape_at t ≡ number_at n 0 (drop 1 t)
unfolding escape_at
escape-number [] n h e f = absurd (omega arith)
escape-number (b ∷ bs) n h e f = rw (escape_at, e, f) refl

pub escape-wrong : (t : List ℕ) → 0 < length t → escaped (get_or t 0 0) ≡ None → escape_digits (get_or t 0 0) ≡ None → escape_at t ≡ fails
unfolding escape_at
escape-wrong [] h e f = absurd (omega arith)
escape-wrong (b ∷ bs) h e f = rw (escape_at, e, f) refl

pub ruleset escapes = (escape-end, escape-char, escape-number, escape-wrong)

-- ---- numbers

hex_ascii : (b : ℕ) → is_hex_digit b ≡ true → b < 128
hex_ascii b h = grind (arith, nat_tests)

-- the digit that a byte is, if it is one
abbrev digit_of : ℕ → Option ℕ
digit_of b = if is_hex_digit b then Some (digit_value b) else None

hex_some : (b d : ℕ) → digit_of b ≡ Some d → (is_hex_digit b ≡ true) × (d ≡ digit_value b)
hex_some b d h = by (is_hex_digit b) (digit_value b) h where
  by : (v : Bool) (n : ℕ) → (if v then Some n else None) ≡ Some d → (v ≡ true) × (d ≡ n)
  by true n h = (refl, cc)
  by false n h = cc

hex_none : (b : ℕ) → digit_of b ≡ None → is_hex_digit b ≡ false
hex_none b h = by (is_hex_digit b) (digit_value b) h where
  by : (v : Bool) (n : ℕ) → ◌≡◌ {A = Option ℕ} (if v then Some n else None) None → v ≡ false
  by true n h = cc
  by false n h = refl

number-digit : (n at v : ℕ) (t : List ℕ) → at < n → at < length t → is_hex_digit (get_or t at 0) ≡ true
    → number_at (n - at) v (drop at t) ≡ number_at (n - (at + 1)) (v * 16 + digit_value (get_or t at 0)) (drop (at + 1) t)
unfolding number_at
number-digit n at v t more within h =
    let e : n - at ≡ suc (n - (at + 1)) = omega arith in
    rw (e, drop_more t at 0 within, number_at, h) refl

number-other : (n at v : ℕ) (t : List ℕ) → at < n → at < length t → is_hex_digit (get_or t at 0) ≡ false → number_at (n - at) v (drop at t) ≡ fails
unfolding number_at
number-other n at v t more within h =
    let e : n - at ≡ suc (n - (at + 1)) = omega arith in
    rw (e, drop_more t at 0 within, number_at, h) refl

number-nil : (n v : ℕ) (t : List ℕ) → length t ≡ 0 → number_at (suc n) v t ≡ fails
unfolding number_at
number-nil n v [] h = refl
number-nil n v (b ∷ bs) h = absurd (omega arith)

number-short : (n at v : ℕ) (t : List ℕ) → at < n → length t ≤ at → number_at (n - at) v (drop at t) ≡ fails
number-short n at v t more past =
    let e : n - at ≡ suc (n - (at + 1)) = omega arith in
    rw e (number-nil (n - (at + 1)) v (drop at t) (omega (arith, length-drop {A = ℕ})))

-- a number past the last character is wrong, whatever digits follow
number-large : (n v : ℕ) (t : List ℕ) → 0x10FFFF < v → number_at n v t ≡ fails
unfolding number_at
number-large zero v t h = let none : is_scalar_value v ≡ false = grind (arith, nat_tests) in rw none refl
number-large (suc n) v [] h = refl
number-large (suc n) v (b ∷ bs) h = by (is_hex_digit b) refl (number-large n (v * 16 + digit_value b) bs (omega arith)) where
  by : (d : Bool) → is_hex_digit b ≡ d → number_at n (v * 16 + digit_value b) bs ≡ fails → number_at (suc n) v (b ∷ bs) ≡ fails
  by true e more = rw (number_at, e) more
  by false e more = rw (number_at, e) refl

-- all digits are read
number-whole : (n at v : ℕ) (t : List ℕ) → at ≡ n → IsScalar v → number_at (n - at) v (drop at t) ≡ gives v (drop n t)
unfolding number_at
number-whole n at v t e h =
    let none : n - at ≡ 0 = omega arith in
    let good : is_scalar_value v ≡ true = grind (arith, nat_tests) in
    rw (none, good, e) refl

number-surrogate : (n at v : ℕ) (t : List ℕ) → at ≡ n → ¬ (IsScalar v) → number_at (n - at) v (drop at t) ≡ fails
unfolding number_at
number-surrogate n at v t e h =
    let none : n - at ≡ 0 = omega arith in
    let bad : is_scalar_value v ≡ false = grind (arith, nat_tests) in
    rw (none, bad) refl

-- ---- the loop over digits, which has read some and goes on at the rest

module _ (n at v : ℕ) (t : List ℕ) (whole : Turn) (same : number_at (n - at) v (drop at t) ≡ whole) where
  pub digits-over : at < n → length t ≤ at → fails ≡ whole
  digits-over more past = sym (number-short n at v t more past) ∙ same

  pub digits-all : at ≡ n → IsScalar v → gives v (drop n t) ≡ whole
  digits-all e h = sym (number-whole n at v t e h) ∙ same

  pub digits-surrogate : at ≡ n → ¬ (IsScalar v) → fails ≡ whole
  digits-surrogate e h = sym (number-surrogate n at v t e h) ∙ same

  module _ (more : at < n) (within : at < length t) (digit : Option ℕ) (is : digit ≡ digit_of (get_or t at 0)) where
    pub digits-other : digit ≡ None → fails ≡ whole
    digits-other e = sym (number-other n at v t more within (hex_none (get_or t at 0) (sym is ∙ e))) ∙ same

    pub digits-next : (d : ℕ) → digit ≡ Some d → number_at (n - (at + 1)) (v * 16 + d) (drop (at + 1) t) ≡ whole
    digits-next d e =
        let here = hex_some (get_or t at 0) d (sym is ∙ e) in
        rw here.1 (sym (number-digit n at v t more within here.0) ∙ same)

    pub digits-large : (d : ℕ) → digit ≡ Some d → 0x10FFFF < v * 16 + d → fails ≡ whole
    digits-large d e h = sym (number-large (n - (at + 1)) (v * 16 + d) (drop (at + 1) t) h) ∙ digits-next d e

    pub digits-ascii : (d : ℕ) → digit ≡ Some d → get_or t at 0 < 128
    digits-ascii d e = hex_ascii (get_or t at 0) (hex_some (get_or t at 0) d (sym is ∙ e)).0
