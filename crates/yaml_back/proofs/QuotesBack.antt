-- A string in double quotes, as it is printed, reads back.
use Rattle.std.proofs.Common.{◌≡◌, ℕ, ◌+◌, ◌*◌, ◌/◌, ◌%◌, ◌<◌, ◌≤◌, Bool, true, false, cond, ◌||◌, ◌==◌, List, [], ◌∷◌, ◌++◌, refl, sym, ◌∙◌, ap, subst, append_assoc, arith, true≢false, inl, inr}
use Rattle.std.proofs.lemmas.List.{append-nil}
use Rattle.std.proofs.lemmas.Bool.{agree_below_at, cond_both, or_cases, le-ltb, ne_eqb, eqb-true, ltb-true, ltb-false, le-leb, leb-true}
use Rattle.std.proofs.lemmas.Str.{encode_ascii}
use Rattle.std.specs.Prelude.{nat_lt, nat_le, codes}
use Rattle.std.specs.Cmp.{second_so}
use lib.Utf8.{encode, encodes}
use Rattle.yaml_spec.specs.Bytes.{quote, is_hex_digit, digit_value, is_between, is_one_of, is_white}
use Rattle.yaml_spec.specs.Quotes.{closed, prepend, normal, double, is_scalar_value}
use Rattle.yaml_spec.specs.Text.{hex_digit, hex2, quoted_char, quoted_chars}

-- the text goes on to a closing quote, with this string in between
unfoldable pub Closes : List ℕ → List ℕ → List ℕ → Type 0
Closes x tail rest = (white : List ℕ) → double normal white x ≡ closed (white ++ tail) rest

-- what stands before it
prepended : (white t x tail rest : List ℕ) → Closes x tail rest → prepend (white ++ t) (double normal [] x) ≡ closed (white ++ (t ++ tail)) rest
unfolding Closes
prepended white t x tail rest h = ap (prepend (white ++ t)) (h []) ∙ ap (λ l. closed l rest) (append_assoc white t tail)

-- ---- hexadecimal digits

record IsHex (n : ℕ) : Type 0 where
  is : is_hex_digit (hex_digit n) ≡ true
  value : digit_value (hex_digit n) ≡ n

hex : (n : ℕ) → n < 16 → IsHex n
hex n l = record {
  is = agree_below_at (λ n. is_hex_digit (hex_digit n)) (λ _. true) 16 n refl l;
  value = eqb-true _ _ (agree_below_at (λ n. digit_value (hex_digit n) == n) (λ _. true) 16 n refl l);
}

-- `\xHH`
two_digits : (a b c : ℕ) → is_hex_digit a ≡ true → is_hex_digit b ≡ true → (0 * 16 + digit_value a) * 16 + digit_value b ≡ c → is_scalar_value c ≡ true →
    (white x : List ℕ) → double normal white (92 ∷ 120 ∷ a ∷ b ∷ x) ≡ prepend (white ++ encode c) (double normal [] x)
unfolding double
two_digits a b c p q e s white x = rw (p, double, q, e, s, double) (ap (λ n. prepend (white ++ encode n) (double normal [] x)) e)

hex_escape : (c : ℕ) → c < 256 → (white x tail rest : List ℕ) → Closes x tail rest →
    double normal white (92 ∷ 120 ∷ hex_digit ((c / 16) % 16) ∷ hex_digit (c % 16) ∷ x) ≡ closed (white ++ (encode c ++ tail)) rest
hex_escape c lt white x tail rest h =
    let p = hex ((c / 16) % 16) (omega arith) in
    let q = hex (c % 16) (omega arith) in
    let e : (0 * 16 + digit_value (hex_digit ((c / 16) % 16))) * 16 + digit_value (hex_digit (c % 16)) ≡ c = rw (p.value, q.value) (omega arith) in
    let s : is_scalar_value c ≡ true = rw (le-leb c 0xD7FF (omega arith)) refl in
    two_digits _ _ c p.is q.is e s white x ∙ prepended white (encode c) x tail rest h

-- ---- characters that stand for themselves

-- a byte that ends nothing
byte_as_is : (b : ℕ) → (b == quote) ≡ false → (b == 92) ≡ false → is_white b ≡ false → (white x : List ℕ) →
    double normal white (b ∷ x) ≡ prepend (white ++ b ∷ []) (double normal [] x)
unfolding double
byte_as_is b p q w white x = rw (p, double, q, double, w, double) refl

space_as_is : (white x : List ℕ) → double normal white (32 ∷ x) ≡ double normal (white ++ 32 ∷ []) x
unfolding double
space_as_is white x = refl

pub high : (b : ℕ) → 128 ≤ b → (white x : List ℕ) → double normal white (b ∷ x) ≡ prepend (white ++ b ∷ []) (double normal [] x)
high b h white x =
    byte_as_is b (ne_eqb b 34 (omega arith)) (ne_eqb b 92 (omega arith)) (rw (ne_eqb b 32 (omega arith), ne_eqb b 9 (omega arith)) refl) white x

-- bytes from 128 on
unfoldable pub AreHigh : List ℕ → Type 0
AreHigh [] = Unit {0}
AreHigh (b ∷ bs) = (128 ≤ b) × AreHigh bs

pub high_bytes : (bs : List ℕ) → AreHigh bs → (tail x rest : List ℕ) → Closes x tail rest → Closes (bs ++ x) (bs ++ tail) rest
unfolding AreHigh Closes
high_bytes [] h tail x rest c white = c white
high_bytes (b ∷ bs) h tail x rest c white =
    high b h.0 white (bs ++ x) ∙ prepended white (b ∷ []) (bs ++ x) (bs ++ tail) rest (high_bytes bs h.1 tail x rest c)

either : (b : Bool) (x y : List ℕ) → AreHigh x → AreHigh y → AreHigh (cond b x y)
either true x y p q = p
either false x y p q = q

pub encode_high : (c : ℕ) → 128 ≤ c → AreHigh (encode c)
unfolding encode AreHigh
encode_high c h =
    rw (le-ltb c 128 h)
    (either (nat_lt c 2048) _ _ (omega arith, (omega arith, tt))
    (either (nat_lt c 65536) _ _ (omega arith, (omega arith, (omega arith, tt))) (omega arith, (omega arith, (omega arith, (omega arith, tt))))))

-- a character that needs no escape
shown : (c : ℕ) → 32 ≤ c → (c == quote) ≡ false → (c == 92) ≡ false → (white x tail rest : List ℕ) → Closes x tail rest →
    double normal white (encode c ++ x) ≡ closed (white ++ (encode c ++ tail)) rest
unfolding Closes
shown c l p q white x tail rest h = go (nat_lt c 128) refl (c == 32) refl
  where
    go : (low : Bool) → nat_lt c 128 ≡ low → (sp : Bool) → (c == 32) ≡ sp → double normal white (encode c ++ x) ≡ closed (white ++ (encode c ++ tail)) rest
    go false e sp f = high_bytes (encode c) (encode_high c (ltb-false c 128 e)) tail x rest h white
    go true e true f =
        rw (encode_ascii c (ltb-true c 128 e), eqb-true c 32 f) (space_as_is white x ∙ h (white ++ 32 ∷ []) ∙ ap (λ l. closed l rest) (append_assoc white (32 ∷ []) tail))
    go true e false f =
        rw (encode_ascii c (ltb-true c 128 e))
        (byte_as_is c p q (rw (f, ne_eqb c 9 (omega arith)) refl) white x ∙ prepended white (c ∷ []) x tail rest h)

-- ---- all characters

-- `\uHHHH`, of the five characters that are written so
abbrev four_digits : ℕ → List ℕ
four_digits c = codes "\\u" ++ (hex2 (c / 256) ++ hex2 c)

UnicodeAt : ℕ → Type 0
UnicodeAt c = (white x : List ℕ) → double normal white (four_digits c ++ x) ≡ prepend (white ++ encode c) (double normal [] x)

-- so are all of these
AllUnicode : List ℕ → Type 0
AllUnicode [] = Unit {0}
AllUnicode (n ∷ ns) = UnicodeAt n × AllUnicode ns

one_unicode : (ns : List ℕ) (c : ℕ) → AllUnicode ns → is_one_of ns c ≡ true → UnicodeAt c
unfolding AllUnicode
one_unicode [] c h e = absurd (true≢false (sym e))
one_unicode (n ∷ ns) c h e =
    elim (or_cases (c == n) (is_one_of ns c) e) [ inl p ↦ subst UnicodeAt (sym (eqb-true c n p)) h.0 | inr q ↦ one_unicode ns c h.1 q ]

unicode_escape : (c : ℕ) → is_one_of (0x2028 ∷ 0x2029 ∷ 0xFEFF ∷ 0xFFFE ∷ 0xFFFF ∷ []) c ≡ true → UnicodeAt c
unfolding AllUnicode UnicodeAt double encode
unicode_escape c e = one_unicode (0x2028 ∷ 0x2029 ∷ 0xFEFF ∷ 0xFFFE ∷ 0xFFFF ∷ []) c (λ white x. refl, (λ white x. refl, (λ white x. refl, (λ white x. refl, (λ white x. refl, tt))))) e

-- the one-letter escapes that are printed
LetterAt : List ℕ → ℕ → Type 0
LetterAt t n = (white x : List ℕ) → double normal white (t ++ x) ≡ prepend (white ++ encode n) (double normal [] x)

letters : LetterAt (codes "\\\"") 34 × LetterAt (codes "\\\\") 92 × LetterAt (codes "\\n") 10 × LetterAt (codes "\\t") 9 × LetterAt (codes "\\r") 13
unfolding LetterAt double encode
letters = (λ white x. refl, λ white x. refl, λ white x. refl, λ white x. refl, λ white x. refl)

-- a one-letter escape
letter : (n c : ℕ) → (c == n) ≡ true → (white t x tail rest : List ℕ) → Closes x tail rest → LetterAt t n →
    double normal white (t ++ x) ≡ closed (white ++ (encode c ++ tail)) rest
unfolding LetterAt
letter n c p white t x tail rest h e = rw (eqb-true c n p) (e white x ∙ prepended white (encode n) x tail rest h)

below_256 : (c : ℕ) → (nat_lt c 0x20 || is_between 0x7F 0xA0 c) ≡ true → c < 256
below_256 c e = go (nat_lt c 0x20) refl e
  where
    go : (b : Bool) → nat_lt c 0x20 ≡ b → (b || is_between 0x7F 0xA0 c) ≡ true → c < 256
    go true p e = let l = ltb-true c 0x20 p in omega arith
    go false p e = let l = leb-true c 0xA0 (second_so (nat_le 0x7F c) (nat_le c 0xA0) e) in omega arith

at_least_32 : (c : ℕ) → (nat_lt c 0x20 || is_between 0x7F 0xA0 c) ≡ false → 32 ≤ c
at_least_32 c e = go (nat_lt c 0x20) refl e
  where
    go : (b : Bool) → nat_lt c 0x20 ≡ b → (b || is_between 0x7F 0xA0 c) ≡ false → 32 ≤ c
    go true p e = absurd (true≢false e)
    go false p e = ltb-false c 0x20 p

-- one character, as it is printed
one_char : (c : ℕ) → (white x tail rest : List ℕ) → Closes x tail rest → double normal white (quoted_char c ++ x) ≡ closed (white ++ (encode c ++ tail)) rest
unfolding UnicodeAt
one_char c white x tail rest h =
    cond_both (c == 34) _ _ P (λ p. letter 34 c p white _ x tail rest h letters.0) (λ n34.
    cond_both (c == 92) _ _ P (λ p. letter 92 c p white _ x tail rest h letters.1) (λ n92.
    cond_both (c == 10) _ _ P (λ p. letter 10 c p white _ x tail rest h letters.2) (λ n10.
    cond_both (c == 9) _ _ P (λ p. letter 9 c p white _ x tail rest h letters.3) (λ n9.
    cond_both (c == 13) _ _ P (λ p. letter 13 c p white _ x tail rest h letters.4) (λ n13.
    cond_both (nat_lt c 0x20 || is_between 0x7F 0xA0 c) _ _ P (λ p. hex_escape c (below_256 c p) white x tail rest h) (λ n.
    cond_both (is_one_of (0x2028 ∷ 0x2029 ∷ 0xFEFF ∷ 0xFFFE ∷ 0xFFFF ∷ []) c) _ _ P
    (λ p. unicode_escape c p white x ∙ prepended white (encode c) x tail rest h)
    (λ u. shown c (at_least_32 c n) n34 n92 white x tail rest h)))))))
  where
    P : List ℕ → Type 0
    P t = double normal white (t ++ x) ≡ closed (white ++ (encode c ++ tail)) rest

pub closes_chars : (cs rest : List ℕ) → Closes (quoted_chars cs ++ quote ∷ rest) (encodes cs) rest
unfolding Closes double
closes_chars [] rest white = ap (λ l. closed l rest) (sym (append-nil white))
closes_chars (c ∷ cs) rest white =
    ap (double normal white) (append_assoc (quoted_char c) (quoted_chars cs) (quote ∷ rest))
    ∙ one_char c white (quoted_chars cs ++ quote ∷ rest) (encodes cs) rest (closes_chars cs rest)
