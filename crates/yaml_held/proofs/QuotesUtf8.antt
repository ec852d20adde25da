-- What is read in quotes is UTF-8, and so is the text behind it.
use Rattle.std.proofs.Common.{◌≡◌, ℕ, zero, suc, ◌+◌, ◌*◌, ◌<◌, ◌≤◌, Bool, true, false, ◌&&◌, ◌==◌, List, [], ◌∷◌, ◌++◌, Option, Some, None, refl, sym, ◌∙◌, ap, subst, append_assoc, arith, length, if◌then◌else◌}
use Rattle.std.specs.Prelude.{IsUtf8, nat_lt}
use lib.Utf8.{encode, encodes, scalars, scalar}
use Rattle.std.proofs.lemmas.Bool.{and_parts, eqb-true, ne_eqb, ltb-true, ltb-false}
use Rattle.std.proofs.lemmas.Bool.Decides.{nat_tests}
use Rattle.std.proofs.lemmas.Str.{encode_ascii, IsUtf8-nil, IsUtf8-append, IsUtf8-encode, length-encode, len_utf8_bounds}
use Rattle.yaml_spec.specs.Bytes.{quote, apostrophe, backslash, is_white, is_hex_digit, digit_value}
use Rattle.yaml_spec.specs.Quotes.{Scan, open_end, closed, wrong, prepend, single, Mode, normal, escape, digits, escaped, escape_digits, is_scalar_value, double, scan}
use Rattle.yaml_back.proofs.QuotesBack.{AreHigh, high, encode_high}
use Rattle.yaml_held.proofs.TextParts.{utf8_one}

-- the strings of what a line holds are UTF-8
unfoldable pub IsGoodScan : Scan → Type 0
IsGoodScan (open_end p) = IsUtf8 p.text
IsGoodScan (closed u rest) = IsUtf8 u × IsUtf8 rest
IsGoodScan wrong = Unit {0}

good_prepend : (t : List ℕ) (s : Scan) → IsUtf8 t → IsGoodScan s → IsGoodScan (prepend t s)
unfolding IsGoodScan
good_prepend t (open_end p) u g = IsUtf8-append t p.text u g
good_prepend t (closed v rest) u g = (IsUtf8-append t v u g.0, g.1)
good_prepend t wrong u g = tt

good_if : (b : Bool) (x y : Scan) → (b ≡ true → IsGoodScan x) → (b ≡ false → IsGoodScan y) → IsGoodScan (elim b as (λ _. Scan) [ true ↦ x | false ↦ y ])
good_if true x y h k = h refl
good_if false x y h k = k refl

-- a character of characters that can be written, and the rest
pub scalar_head : (c : ℕ) (cs : List ℕ) → scalars (c ∷ cs) ≡ true → (scalar c ≡ true) × (scalars cs ≡ true)
scalar_head c cs e = and_parts (scalar c) (scalars cs) e

-- ---- escapes

scalar_value : (c : ℕ) → is_scalar_value c ≡ true → IsUtf8 (encode c)
scalar_value c e = IsUtf8-encode c (value c e)
  where
    value : (c : ℕ) → is_scalar_value c ≡ true → scalar c ≡ true
    value c e = grind (arith, nat_tests)

-- an escape's character, if there is one, can be written
IsGoodEscape : Option ℕ → Type 0
IsGoodEscape (Some c) = IsUtf8 (encode c)
IsGoodEscape None = Unit {0}

good_escape-if : (b : Bool) (c : ℕ) (o : Option ℕ) → scalar c ≡ true → IsGoodEscape o → IsGoodEscape (if b then Some c else o)
unfolding IsGoodEscape
good_escape-if true c o s g = IsUtf8-encode c s
good_escape-if false c o s g = g

good_escaped : (b : ℕ) → IsGoodEscape (escaped b)
unfolding IsGoodEscape
good_escaped b =
    good_escape-if (b == 48) 0x00 _ refl (
    good_escape-if (b == 97) 0x07 _ refl (
    good_escape-if (b == 98) 0x08 _ refl (
    good_escape-if (b == 116) 0x09 _ refl (
    good_escape-if (b == 110) 0x0A _ refl (
    good_escape-if (b == 118) 0x0B _ refl (
    good_escape-if (b == 102) 0x0C _ refl (
    good_escape-if (b == 114) 0x0D _ refl (
    good_escape-if (b == 101) 0x1B _ refl (
    good_escape-if (b == 32) 0x20 _ refl (
    good_escape-if (b == 34) 0x22 _ refl (
    good_escape-if (b == 47) 0x2F _ refl (
    good_escape-if (b == 92) 0x5C _ refl (
    good_escape-if (b == 78) 0x85 _ refl (
    good_escape-if (b == 95) 0xA0 _ refl (
    good_escape-if (b == 76) 0x2028 _ refl (
    good_escape-if (b == 80) 0x2029 None refl tt))))))))))))))))

-- ---- in double quotes

-- from here on, in each mode
abbrev GoodFrom : List ℕ → Type 0
GoodFrom x = (m : Mode) (white : List ℕ) → IsUtf8 white → IsGoodScan (double m white x)

-- behind one more ASCII byte
double_low : (b : ℕ) (x : List ℕ) → b < 128 → IsUtf8 x → GoodFrom x → GoodFrom (b ∷ x)
unfolding double IsGoodScan IsGoodEscape
double_low b x l u h normal white w =
    good_if (b == quote) _ _ (λ e. (w, u)) (λ e.
    good_if (b == backslash) _ _ (λ e. h escape white w) (λ e.
    good_if (is_white b) _ _ (λ e. h normal (white ++ b ∷ []) (IsUtf8-append white (b ∷ []) w (utf8_one b l)))
    (λ e. good_prepend (white ++ b ∷ []) _ (IsUtf8-append white (b ∷ []) w (utf8_one b l)) (h normal [] IsUtf8-nil))))
double_low b x l u h escape white w = by_letter (escaped b) (good_escaped b)
  where
    by_digits : (o : Option ℕ) → IsGoodScan (elim o as (λ _. Scan) [ Some n ↦ double (digits n 0) white x | None ↦ wrong ])
    by_digits (Some n) = h (digits n 0) white w
    by_digits None = tt

    by_letter : (o : Option ℕ) → IsGoodEscape o →
        IsGoodScan (elim o as (λ _. Scan) [
          | Some c ↦ prepend (white ++ encode c) (double normal [] x)
          | None ↦ elim (escape_digits b) [ Some n ↦ double (digits n 0) white x | None ↦ wrong ]
        ])
    by_letter (Some c) g = good_prepend (white ++ encode c) _ (IsUtf8-append white (encode c) w g) (h normal [] IsUtf8-nil)
    by_letter None g = by_digits (escape_digits b)
double_low b x l u h (digits zero c) white w = tt
double_low b x l u h (digits (suc zero) c) white w =
    good_if (is_hex_digit b && is_scalar_value (c * 16 + digit_value b)) _ _
    (λ e. good_prepend _ _ (IsUtf8-append white _ w (scalar_value (c * 16 + digit_value b) (and_parts (is_hex_digit b) (is_scalar_value (c * 16 + digit_value b)) e).1)) (h normal [] IsUtf8-nil)) (λ e. tt)
double_low b x l u h (digits (suc (suc n)) c) white w = good_if (is_hex_digit b) _ _ (λ e. h (digits (suc n) (c * 16 + digit_value b)) white w) (λ e. tt)

-- ---- characters past ASCII

prepend_twice : (t u : List ℕ) (s : Scan) → prepend t (prepend u s) ≡ prepend (t ++ u) s
prepend_twice t u (open_end p) = ap (λ (x : List ℕ). open_end (record p { text = x })) (sym (append_assoc t u p.text))
prepend_twice t u (closed v rest) = ap (λ (x : List ℕ). closed x rest) (sym (append_assoc t u v))
prepend_twice t u wrong = refl

-- such bytes stand for themselves
double_high : (b : ℕ) (bs x : List ℕ) → 128 ≤ b → AreHigh bs → (white : List ℕ) → double normal white (b ∷ (bs ++ x)) ≡ prepend (white ++ b ∷ bs) (double normal [] x)
unfolding AreHigh
double_high b [] x l h white = high b l white x
double_high b (c ∷ cs) x l h white =
    high b l white (c ∷ (cs ++ x))
    ∙ ap (prepend (white ++ b ∷ [])) (double_high c cs x h.0 h.1 [])
    ∙ prepend_twice (white ++ b ∷ []) (c ∷ cs) (double normal [] x)
    ∙ ap (λ (t : List ℕ). prepend t (double normal [] x)) (append_assoc white (b ∷ []) (c ∷ cs))

record HighFirst (bs : List ℕ) : Type 0 where
  byte : ℕ
  rest : List ℕ
  is : bs ≡ byte ∷ rest
  high : 128 ≤ byte
  more : AreHigh rest

high_first : (bs : List ℕ) → AreHigh bs → 1 ≤ length bs → HighFirst bs
unfolding AreHigh
high_first [] h l = absurd (omega arith)
high_first (b ∷ bs) h l = record { byte = b; rest = bs; is = refl; high = h.0; more = h.1 }

char_first : (c : ℕ) → 128 ≤ c → HighFirst (encode c)
char_first c l = high_first (encode c) (encode_high c l) (let b = len_utf8_bounds c in omega (arith, length-encode c))

escaped_high : (b : ℕ) → 128 ≤ b → (escaped b ≡ None) × (escape_digits b ≡ None)
escaped_high b l = (
  rw (
    ne_eqb b 48 (omega arith),
    ne_eqb b 97 (omega arith),
    ne_eqb b 98 (omega arith),
    ne_eqb b 116 (omega arith),
    ne_eqb b 110 (omega arith),
    ne_eqb b 118 (omega arith),
    ne_eqb b 102 (omega arith),
    ne_eqb b 114 (omega arith),
    ne_eqb b 101 (omega arith),
    ne_eqb b 32 (omega arith),
    ne_eqb b 34 (omega arith),
    ne_eqb b 47 (omega arith),
    ne_eqb b 92 (omega arith),
    ne_eqb b 78 (omega arith),
    ne_eqb b 95 (omega arith),
    ne_eqb b 76 (omega arith),
    ne_eqb b 80 (omega arith),
  ) refl,
  rw (ne_eqb b 120 (omega arith), ne_eqb b 117 (omega arith), ne_eqb b 85 (omega arith)) refl,
)

no_hex : (b : ℕ) → 128 ≤ b → is_hex_digit b ≡ false
no_hex b l = grind (arith, nat_tests)

-- behind one more byte past ASCII: only between escapes may it stand
wrong_high : (b : ℕ) (x : List ℕ) → 128 ≤ b → (white : List ℕ) → (double escape white (b ∷ x) ≡ wrong) × ((n c : ℕ) → double (digits n c) white (b ∷ x) ≡ wrong)
unfolding double
wrong_high b x l white = (let e = escaped_high b l in rw (e.0, double, e.1) refl, by_count)
  where
    by_count : (n c : ℕ) → double (digits n c) white (b ∷ x) ≡ wrong
    by_count zero c = refl
    by_count (suc zero) c = rw (no_hex b l, double) refl
    by_count (suc (suc n)) c = rw (no_hex b l, double) refl

double_char : (c : ℕ) (x : List ℕ) → 128 ≤ c → scalar c ≡ true → GoodFrom x → GoodFrom (encode c ++ x)
unfolding IsGoodScan
double_char c x l s h m white w = rw f.is (by_mode m)
  where
    f : HighFirst (encode c)
    f = char_first c l

    by_mode : (m : Mode) → IsGoodScan (double m white (f.byte ∷ (f.rest ++ x)))
    by_mode normal = rw (double_high f.byte f.rest x f.high f.more white) (good_prepend (white ++ f.byte ∷ f.rest) _ (IsUtf8-append white _ w (subst IsUtf8 f.is (IsUtf8-encode c s))) (h normal [] IsUtf8-nil))
    by_mode escape = rw (wrong_high f.byte (f.rest ++ x) f.high white).0 tt
    by_mode (digits n k) = rw ((wrong_high f.byte (f.rest ++ x) f.high white).1 n k) tt

-- the rest of a text in UTF-8
good_double : (cs : List ℕ) → scalars cs ≡ true → GoodFrom (encodes cs)
unfolding double IsGoodScan
good_double [] s normal white w = IsUtf8-nil
good_double [] s escape white w = w
good_double [] s (digits n c) white w = tt
good_double (c ∷ cs) s m white w = go (good_double cs (scalar_head c cs s).1) (nat_lt c 128) refl
  where
    go : GoodFrom (encodes cs) → (low : Bool) → nat_lt c 128 ≡ low → IsGoodScan (double m white (encode c ++ encodes cs))
    go h true e = rw (encode_ascii c (ltb-true c 128 e)) (double_low c (encodes cs) (ltb-true c 128 e) (cs, ((scalar_head c cs s).1, refl)) h m white w)
    go h false e = double_char c (encodes cs) (ltb-false c 128 e) (scalar_head c cs s).0 h m white w

-- ---- in single quotes

abbrev GoodSingle : List ℕ → Type 0
GoodSingle x = (white : List ℕ) → IsUtf8 white → IsGoodScan (single white x)

-- behind a quote, which another one may follow
abbrev AfterQuote : List ℕ → Type 0
AfterQuote x = (white : List ℕ) → IsUtf8 white → IsGoodScan (single white (apostrophe ∷ x))

single_as_is : (b : ℕ) → (b == apostrophe) ≡ false → is_white b ≡ false → (white x : List ℕ) → single white (b ∷ x) ≡ prepend (white ++ b ∷ []) (single [] x)
unfolding single
single_as_is b p w white [] = rw (p, single, w) refl
single_as_is b p w white (c ∷ x) = rw (p, single, w) refl

single_white : (b : ℕ) → (b == apostrophe) ≡ false → is_white b ≡ true → (white x : List ℕ) → single white (b ∷ x) ≡ single (white ++ b ∷ []) x
unfolding single
single_white b p w white [] = rw (p, single, w) refl
single_white b p w white (c ∷ x) = rw (p, single, w) refl

single_high : (b : ℕ) (bs x : List ℕ) → 128 ≤ b → AreHigh bs → (white : List ℕ) → single white (b ∷ (bs ++ x)) ≡ prepend (white ++ b ∷ bs) (single [] x)
unfolding AreHigh
single_high b [] x l h white = single_as_is b (ne_eqb b 39 (omega arith)) (rw (ne_eqb b 32 (omega arith), ne_eqb b 9 (omega arith)) refl) white x
single_high b (c ∷ cs) x l h white =
    single_as_is b (ne_eqb b 39 (omega arith)) (rw (ne_eqb b 32 (omega arith), ne_eqb b 9 (omega arith)) refl) white (c ∷ (cs ++ x))
    ∙ ap (prepend (white ++ b ∷ [])) (single_high c cs x h.0 h.1 [])
    ∙ prepend_twice (white ++ b ∷ []) (c ∷ cs) (single [] x)
    ∙ ap (λ (t : List ℕ). prepend t (single [] x)) (append_assoc white (b ∷ []) (c ∷ cs))

single_low : (b : ℕ) (x : List ℕ) → b < 128 → GoodSingle x → AfterQuote x → GoodSingle (b ∷ x)
single_low b x l h q white w = by_quote (b == apostrophe) refl
  where
    more : IsUtf8 (white ++ b ∷ [])
    more = IsUtf8-append white (b ∷ []) w (utf8_one b l)

    by_white : (b == apostrophe) ≡ false → (v : Bool) → is_white b ≡ v → IsGoodScan (single white (b ∷ x))
    by_white p true e = rw (single_white b p e white x) (h (white ++ b ∷ []) more)
    by_white p false e = rw (single_as_is b p e white x) (good_prepend (white ++ b ∷ []) _ more (h [] IsUtf8-nil))

    by_quote : (v : Bool) → (b == apostrophe) ≡ v → IsGoodScan (single white (b ∷ x))
    by_quote true e = subst (λ (n : ℕ). IsGoodScan (single white (n ∷ x))) (sym (eqb-true b apostrophe e)) (q white w)
    by_quote false e = by_white e (is_white b) refl

single_char : (c : ℕ) (x : List ℕ) → scalar c ≡ true → GoodSingle x → AfterQuote x → GoodSingle (encode c ++ x)
single_char c x s h q white w = go (nat_lt c 128) refl
  where
    go : (low : Bool) → nat_lt c 128 ≡ low → IsGoodScan (single white (encode c ++ x))
    go true e = rw (encode_ascii c (ltb-true c 128 e)) (single_low c x (ltb-true c 128 e) h q white w)
    go false e =
        let f = char_first c (ltb-false c 128 e) in
        rw f.is (rw (single_high f.byte f.rest x f.high f.more white) (good_prepend (white ++ f.byte ∷ f.rest) _ (IsUtf8-append white _ w (subst IsUtf8 f.is (IsUtf8-encode c s))) (h [] IsUtf8-nil)))

after_none : AfterQuote []
unfolding single IsGoodScan
after_none white w = (w, IsUtf8-nil)

after_low : (b : ℕ) (x : List ℕ) → b < 128 → IsUtf8 x → GoodSingle x → AfterQuote (b ∷ x)
unfolding single IsGoodScan
after_low b x l u h white w =
    good_if (b == apostrophe) _ _ (λ e. good_prepend (white ++ apostrophe ∷ []) _ (IsUtf8-append white (apostrophe ∷ []) w (utf8_one 39 (omega arith))) (h [] IsUtf8-nil))
    (λ e. (w, IsUtf8-append (b ∷ []) x (utf8_one b l) u))

after_other : (b : ℕ) (x : List ℕ) → (b == apostrophe) ≡ false → (white : List ℕ) → single white (apostrophe ∷ b ∷ x) ≡ closed white (b ∷ x)
unfolding single
after_other b x p white = rw (p, single) refl

after_char : (c : ℕ) (x : List ℕ) → scalar c ≡ true → IsUtf8 x → GoodSingle x → AfterQuote (encode c ++ x)
unfolding IsGoodScan
after_char c x s u h white w = go (nat_lt c 128) refl
  where
    go : (low : Bool) → nat_lt c 128 ≡ low → IsGoodScan (single white (apostrophe ∷ (encode c ++ x)))
    go true e = rw (encode_ascii c (ltb-true c 128 e)) (after_low c x (ltb-true c 128 e) u h white w)
    go false e =
        let f = char_first c (ltb-false c 128 e) in
        let l = f.high in
        rw f.is (rw (after_other f.byte (f.rest ++ x) (ne_eqb f.byte 39 (omega arith)) white) (w, subst (λ (t : List ℕ). IsUtf8 (t ++ x)) f.is (IsUtf8-append (encode c) x (IsUtf8-encode c s) u)))

good_single : (cs : List ℕ) → scalars cs ≡ true → GoodSingle (encodes cs)
unfolding single IsGoodScan
good_single [] s white w = IsUtf8-nil
good_single (c ∷ []) s white w = single_char c [] (scalar_head c [] s).0 (good_single [] refl) after_none white w
good_single (c ∷ d ∷ cs) s white w =
    let p = scalar_head c (d ∷ cs) s in
    let q = scalar_head d cs p.1 in
    single_char c (encodes (d ∷ cs)) p.0 (good_single (d ∷ cs) p.1) (after_char d (encodes cs) q.0 (cs, (q.1, refl)) (good_single cs q.1)) white w

-- ---- a line

pub good_scan : (is_double : Bool) (t : List ℕ) → IsUtf8 t → IsGoodScan (scan is_double t)
good_scan true t u = subst (λ (x : List ℕ). IsGoodScan (double normal [] x)) u.1.1 (good_double u.0 u.1.0 normal [] IsUtf8-nil)
good_scan false t u = subst (λ (x : List ℕ). IsGoodScan (single [] x)) u.1.1 (good_single u.0 u.1.0 [] IsUtf8-nil)
