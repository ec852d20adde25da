-- What is printed is UTF-8 of printable characters, without a break.
use Rattle.std.proofs.Common.{◌≡◌, ℕ, zero, suc, ◌+◌, ◌/◌, ◌%◌, ◌<◌, ◌≤◌, pos, negsuc, Bool, true, false, not, ◌&&◌, ◌||◌, ◌==◌, List, [], ◌∷◌, ◌++◌, refl, sym, ◌∙◌, ap, subst, arith, true≢false, if◌then◌else◌, ◌⊎◌, inl, inr}
use Rattle.std.specs.List.{list_all}
use Rattle.std.proofs.lemmas.List.{append-nil}
use Rattle.std.proofs.lemmas.Bool.{cond_both, ne_eqb, eqb-true, eqb-false, leb-true, le-leb, ltb-true, ltb-false, or_parts, or_right, and_cases, cases_lt, lt-leb, leb-false, and_parts}
use Rattle.std.proofs.lemmas.Bool.Decides.{nat_tests}
use Rattle.std.proofs.lemmas.Str.{encode_ascii, encodes-chars, scalars-chars, chars-encodes, encodes-append, is_utf8-from_IsUtf8}
use Rattle.std.specs.Prelude.{ℤ, IsUtf8, chars, codes, nat_le, nat_lt, decimal}
use Rattle.std.specs.Str.{is_utf8}
use Rattle.std.specs.Fmt.{signed_decimal}
use lib.Utf8.{encode, encodes, scalar as is_scalar_char, scalars, scalar_cases}
use Rattle.yaml_spec.specs.Bytes.{tab, line_feed, carriage_return, quote, is_digit, is_empty, is_one_of, is_between, first}
use Rattle.yaml_spec.specs.Lines.{is_printable, all_printable, has_good_chars, start_line}
use Rattle.ytt_base.specs.Trees.{Scalar, null, boolean, integer, string, IsScalar}
use Rattle.yaml_spec.specs.Text.{spaces, is_hidden, is_shown, is_literal_char, hex_digit, hex2, quoted_char, quoted_chars, quoted_text, key_text, fits_plain, fits_literal, pieces, are_trimmed, has_break}
use Rattle.yaml_back.proofs.QuotesBack.{AreHigh, encode_high}
use Rattle.yaml_back.proofs.ValuesBack.{plain_of}
use Rattle.yaml_back.proofs.LiteralsBack.{pieces_some}
use Rattle.yaml_spec.proofs.IntegersBack.{decimal-digits}

pub record IsGood (t : List ℕ) : Type 0 where
  pub cs : List ℕ
  pub is : encodes cs ≡ t
  pub scalars : scalars cs ≡ true
  pub shown : all_printable cs ≡ true

scalars-append : (xs ys : List ℕ) → scalars xs ≡ true → scalars ys ≡ true → scalars (xs ++ ys) ≡ true
scalars-append [] ys p q = q
scalars-append (x ∷ xs) ys p q = let k = and_parts (is_scalar_char x) (scalars xs) p in rw k.0 (scalars-append xs ys k.1 q)

printable-append : (xs ys : List ℕ) → all_printable xs ≡ true → all_printable ys ≡ true → all_printable (xs ++ ys) ≡ true
printable-append [] ys p q = q
printable-append (x ∷ xs) ys p q = let k = and_parts (x == tab || is_printable x) (all_printable xs) p in rw k.0 (printable-append xs ys k.1 q)

pub good-nil : IsGood []
good-nil = record { cs = []; is = refl; scalars = refl; shown = refl }

pub good-append : (t u : List ℕ) → IsGood t → IsGood u → IsGood (t ++ u)
good-append t u g h = record {
  cs = g.cs ++ h.cs;
  is = encodes-append g.cs h.cs ∙ (ap (λ x. x ++ encodes h.cs) g.is ∙ ap (λ x. t ++ x) h.is);
  scalars = scalars-append g.cs h.cs g.scalars h.scalars;
  shown = printable-append g.cs h.cs g.shown h.shown;
}

printable_ascii : (b : ℕ) → 32 ≤ b → b ≤ 126 → is_printable b ≡ true
printable_ascii b l m = rw (le-leb 32 b l, le-leb b 126 m) refl

pub good-char : (c : ℕ) → is_scalar_char c ≡ true → (c == tab || is_printable c) ≡ true → IsGood (encode c)
good-char c s p = record { cs = c ∷ []; is = append-nil (encode c); scalars = rw s refl; shown = rw p refl }

pub good-byte : (b : ℕ) → 32 ≤ b → b ≤ 126 → IsGood (b ∷ [])
good-byte b l m =
    subst IsGood (encode_ascii b (omega arith)) (good-char b (grind (arith, nat_tests)) (or_right (b == tab) (is_printable b) (printable_ascii b l m)))

abbrev pub is_ascii_shown : ℕ → Bool
is_ascii_shown b = nat_le 32 b && nat_le b 126

pub good-ascii : (t : List ℕ) → list_all is_ascii_shown t ≡ true → IsGood t
good-ascii [] e = good-nil
good-ascii (b ∷ bs) e =
    let k = and_parts (is_ascii_shown b) (list_all is_ascii_shown bs) e in
    let r = and_parts (nat_le 32 b) (nat_le b 126) k.0 in
    good-append (b ∷ []) bs (good-byte b (leb-true 32 b r.0) (leb-true b 126 r.1)) (good-ascii bs k.1)

pub good-spaces : (n : ℕ) → IsGood (spaces n)
good-spaces zero = good-nil
good-spaces (suc n) = good-append (32 ∷ []) (spaces n) (good-byte 32 (omega arith) (omega arith)) (good-spaces n)

-- ---- what it gives

pub good-utf8 : (t : List ℕ) → IsGood t → is_utf8 t ≡ true
good-utf8 t g = is_utf8-from_IsUtf8 t (g.cs, (g.scalars, g.is))

pub good-chars : (t : List ℕ) → IsGood t → has_good_chars t ≡ true
good-chars t g = ap (λ x. all_printable (chars x)) (sym g.is) ∙ (ap all_printable (chars-encodes g.cs g.scalars) ∙ g.shown)

-- no byte is LF or CR
unfoldable pub NoBreak : List ℕ → Type 0
NoBreak [] = Unit {0}
NoBreak (b ∷ bs) = ((b == line_feed) ≡ false) × ((b == carriage_return) ≡ false) × NoBreak bs

break-append : (xs ys : List ℕ) → NoBreak xs → NoBreak ys → NoBreak (xs ++ ys)
unfolding NoBreak
break-append [] ys p q = q
break-append (x ∷ xs) ys p q = (p.0, p.1, break-append xs ys p.2 q)

high_no_break : (bs : List ℕ) → AreHigh bs → NoBreak bs
unfolding AreHigh NoBreak
high_no_break [] h = tt
high_no_break (b ∷ bs) h = let l = h.0 in (ne_eqb b 10 (omega arith), ne_eqb b 13 (omega arith), high_no_break bs h.1)

char_no_break : (c : ℕ) → (c == tab || is_printable c) ≡ true → NoBreak (encode c)
unfolding NoBreak
char_no_break c e = go (nat_lt c 128) refl (c == 10) refl (c == 13) refl
  where
    go : (low : Bool) → nat_lt c 128 ≡ low → (t : Bool) → (c == 10) ≡ t → (u : Bool) → (c == 13) ≡ u → NoBreak (encode c)
    go false l t f u g = high_no_break (encode c) (encode_high c (ltb-false c 128 l))
    go true l true f u g = absurd (true≢false (sym e ∙ ap (λ c. c == tab || is_printable c) (eqb-true c 10 f)))
    go true l false f true g = absurd (true≢false (sym e ∙ ap (λ c. c == tab || is_printable c) (eqb-true c 13 g)))
    go true l false f false g = rw (encode_ascii c (ltb-true c 128 l)) (f, g, tt)

chars_no_break : (cs : List ℕ) → all_printable cs ≡ true → NoBreak (encodes cs)
unfolding NoBreak
chars_no_break [] e = tt
chars_no_break (c ∷ cs) e =
    let k = and_parts (c == tab || is_printable c) (all_printable cs) e in
    break-append (encode c) (encodes cs) (char_no_break c k.0) (chars_no_break cs k.1)

pub good-break : (t : List ℕ) → IsGood t → NoBreak t
good-break t g = subst NoBreak g.is (chars_no_break g.cs g.shown)

-- ---- strings

shown_printable : (c : ℕ) → is_shown c ≡ true → (c == tab || is_printable c) ≡ true
shown_printable c e = or_right (c == tab) (is_printable c) (and_parts (is_printable c) (not (is_hidden c)) e).0

all_shown_printable : (cs : List ℕ) → list_all is_shown cs ≡ true → all_printable cs ≡ true
all_shown_printable [] e = refl
all_shown_printable (c ∷ cs) e = let k = and_parts (is_shown c) (list_all is_shown cs) e in rw (shown_printable c k.0) (all_shown_printable cs k.1)

pub good-shown : (s : List ℕ) → IsUtf8 s → list_all is_shown (chars s) ≡ true → IsGood s
good-shown s u e = record { cs = chars s; is = encodes-chars s u; scalars = scalars-chars s u; shown = all_shown_printable (chars s) e }

good-hex : (n : ℕ) → n < 16 → IsGood (hex_digit n ∷ [])
good-hex n l = cond_both (nat_lt n 10) (48 + n) (55 + n) (λ (b : ℕ). IsGood (b ∷ [])) (λ e. good-byte (48 + n) (omega arith) (omega arith)) (λ e. good-byte (55 + n) (omega arith) (omega arith))

good-hex2 : (c : ℕ) → IsGood (hex2 c)
good-hex2 c = good-append (hex_digit ((c / 16) % 16) ∷ []) (hex_digit (c % 16) ∷ []) (good-hex ((c / 16) % 16) (omega arith)) (good-hex (c % 16) (omega arith))

rest_printable : (c : ℕ) → is_scalar_char c ≡ true → (nat_lt c 0x20 || is_between 0x7F 0xA0 c) ≡ false → is_one_of (0x2028 ∷ 0x2029 ∷ 0xFEFF ∷ 0xFFFE ∷ 0xFFFF ∷ []) c ≡ false → is_printable c ≡ true
rest_printable c s n o = by_range (and_cases (nat_le 127 c) (nat_le c 160) (or_parts (nat_lt c 32) _ n).1)
  where
    l32 : 32 ≤ c
    l32 = ltb-false c 32 (or_parts (nat_lt c 32) _ n).0

    high : 160 < c → is_printable c ≡ true
    high l = elim (scalar_cases c s) [
      | inl h ↦ rw (le-leb 32 c l32, lt-leb c 126 (omega arith), ne_eqb c 133 (omega arith), le-leb 160 c (omega arith), le-leb c 55295 (omega arith)) refl
      | inr h ↦ elim (cases_lt c 65534) [
        | inl m ↦ let h0 = h.0 in rw (le-leb 32 c l32, lt-leb c 126 (omega arith), ne_eqb c 133 (omega arith), le-leb 160 c (omega arith), lt-leb c 55295 (omega arith), le-leb 57344 c h0, le-leb c 65533 (omega arith)) refl
        | inr m ↦
            let h0 = h.1 in
            let x = (or_parts (c == 0xFFFE) _ (or_parts (c == 0xFEFF) _ (or_parts (c == 0x2029) _ (or_parts (c == 0x2028) _ o).1).1).1) in
            let y = eqb-false c 0xFFFE x.0 in
            let z = eqb-false c 0xFFFF (or_parts (c == 0xFFFF) false x.1).0 in
            rw (le-leb 32 c l32, lt-leb c 126 (omega arith), ne_eqb c 133 (omega arith), le-leb 160 c (omega arith), lt-leb c 55295 (omega arith), le-leb 57344 c (omega arith), lt-leb c 65533 (omega arith), le-leb 65536 c (omega (arith, y, z)), le-leb c 1114111 (omega arith)) refl
      ]
    ]

    by_range : (nat_le 127 c ≡ false) ⊎ (nat_le c 160 ≡ false) → is_printable c ≡ true
    by_range (inl e) = let k = leb-false 127 c e in rw (le-leb 32 c l32, le-leb c 126 (omega arith)) refl
    by_range (inr e) = high (leb-false c 160 e)

good-quoted_char : (c : ℕ) → is_scalar_char c ≡ true → IsGood (quoted_char c)
good-quoted_char c s =
    cond_both (c == 34) _ _ IsGood (λ p. good-ascii _ refl) (λ n34.
    cond_both (c == 92) _ _ IsGood (λ p. good-ascii _ refl) (λ n92.
    cond_both (c == 10) _ _ IsGood (λ p. good-ascii _ refl) (λ n10.
    cond_both (c == 9) _ _ IsGood (λ p. good-ascii _ refl) (λ n9.
    cond_both (c == 13) _ _ IsGood (λ p. good-ascii _ refl) (λ n13.
    cond_both (nat_lt c 0x20 || is_between 0x7F 0xA0 c) _ _ IsGood (λ p. good-append (codes "\\x") (hex2 c) (good-ascii (codes "\\x") refl) (good-hex2 c)) (λ n.
    cond_both (is_one_of (0x2028 ∷ 0x2029 ∷ 0xFEFF ∷ 0xFFFE ∷ 0xFFFF ∷ []) c) _ _ IsGood
    (λ p. good-append (codes "\\u") (hex2 (c / 256) ++ hex2 c) (good-ascii (codes "\\u") refl) (good-append (hex2 (c / 256)) (hex2 c) (good-hex2 (c / 256)) (good-hex2 c)))
    (λ u. good-char c s (or_right (c == tab) (is_printable c) (rest_printable c s n u)))))))))

good-quoted_chars : (cs : List ℕ) → scalars cs ≡ true → IsGood (quoted_chars cs)
good-quoted_chars [] e = good-nil
good-quoted_chars (c ∷ cs) e = let k = and_parts (is_scalar_char c) (scalars cs) e in good-append (quoted_char c) (quoted_chars cs) (good-quoted_char c k.0) (good-quoted_chars cs k.1)

good-quoted : (s : List ℕ) → IsUtf8 s → IsGood (quoted_text s)
good-quoted s u =
    good-append (quote ∷ []) (quoted_chars (chars s) ++ quote ∷ []) (good-ascii (quote ∷ []) refl)
    (good-append (quoted_chars (chars s)) (quote ∷ []) (good-quoted_chars (chars s) (scalars-chars s u)) (good-ascii (quote ∷ []) refl))

digits_ascii : (t : List ℕ) → list_all is_digit t ≡ true → list_all is_ascii_shown t ≡ true
digits_ascii [] e = refl
digits_ascii (b ∷ bs) e =
    let k = and_parts (is_digit b) (list_all is_digit bs) e in
    let r = and_parts (nat_le 48 b) (nat_le b 57) k.0 in
    let l = leb-true 48 b r.0 in
    let m = leb-true b 57 r.1 in
    rw (le-leb 32 b (omega arith), le-leb b 126 (omega arith)) (digits_ascii bs k.1)

good-integer : (z : ℤ) → IsGood (signed_decimal z)
good-integer (pos n) = good-ascii (decimal n) (digits_ascii (decimal n) (decimal-digits n))
good-integer (negsuc n) = good-ascii (45 ∷ decimal (suc n)) (digits_ascii (decimal (suc n)) (decimal-digits (suc n)))

good-string : (s : List ℕ) → IsUtf8 s → (b : Bool) → fits_plain s ≡ b → IsGood (if b then s else quoted_text s)
good-string s u true e = let p = plain_of s u e in good-shown s u p.shown
good-string s u false e = good-quoted s u

pub good-key : (s : Scalar) → IsScalar s → IsGood (key_text s)
good-key null h = good-ascii (codes "null") refl
good-key (boolean true) h = good-ascii (codes "true") refl
good-key (boolean false) h = good-ascii (codes "false") refl
good-key (integer z) h = good-integer z
good-key (string s) h = good-string s h (fits_plain s) refl

-- ---- the pieces of a literal

unfoldable pub AllGood : List (List ℕ) → Type 0
AllGood [] = Unit {0}
AllGood (l ∷ ls) = IsGood l × AllGood ls

onto : List ℕ → List (List ℕ) → List (List ℕ)
onto bs [] = bs ∷ []
onto bs (l ∷ ls) = (bs ++ l) ∷ ls

start-onto : (b : ℕ) (bs : List ℕ) (ps : List (List ℕ)) → start_line b (onto bs ps) ≡ onto (b ∷ bs) ps
unfolding onto
start-onto b bs [] = refl
start-onto b bs (l ∷ ls) = refl

onto-nil : (t : List ℕ) → onto [] (pieces t) ≡ pieces t
unfolding onto
onto-nil t = by (pieces t) (pieces_some t)
  where
    by : (ps : List (List ℕ)) → is_empty ps ≡ false → onto [] ps ≡ ps
    by [] e = absurd (true≢false e)
    by (l ∷ ls) e = refl

pieces-onto : (bs t : List ℕ) → NoBreak bs → pieces (bs ++ t) ≡ onto bs (pieces t)
unfolding NoBreak
pieces-onto [] t h = sym (onto-nil t)
pieces-onto (b ∷ bs) t h = rw (h.0, pieces, pieces-onto bs t h.2) (start-onto b bs (pieces t))

good-onto : (bs : List ℕ) (ps : List (List ℕ)) → IsGood bs → AllGood ps → AllGood (onto bs ps)
unfolding AllGood onto
good-onto bs [] g h = (g, tt)
good-onto bs (l ∷ ls) g h = (good-append bs l g h.0, h.1)

literal_printable : (c : ℕ) → is_literal_char c ≡ true → (c == line_feed) ≡ false → (c == tab || is_printable c) ≡ true
literal_printable c e n = go (c == line_feed) (c == tab) (is_shown c) (is_printable c) e n (λ h. (and_parts (is_printable c) (not (is_hidden c)) h).0)
  where
    go : (a b d p : Bool) → (a || b || d) ≡ true → a ≡ false → (d ≡ true → p ≡ true) → (b || p) ≡ true
    go true b d p e n h = absurd (true≢false n)
    go false true d p e n h = refl
    go false false d p e n h = h e

by_break : (c : ℕ) (cs : List ℕ) → is_scalar_char c ≡ true → is_literal_char c ≡ true → AllGood (pieces (encodes cs)) → (b : Bool) → (c == line_feed) ≡ b → AllGood (pieces (encode c ++ encodes cs))
unfolding AllGood
by_break c cs s l h true e =
    let i : encode c ≡ 10 ∷ [] = ap encode (eqb-true c 10 e) ∙ encode_ascii 10 (omega arith) in
    rw i (good-nil, h)
by_break c cs s l h false e =
    let p = literal_printable c l e in
    rw (pieces-onto (encode c) (encodes cs) (char_no_break c p)) (good-onto (encode c) (pieces (encodes cs)) (good-char c s p) h)

pieces-good : (cs : List ℕ) → scalars cs ≡ true → list_all is_literal_char cs ≡ true → AllGood (pieces (encodes cs))
unfolding AllGood
pieces-good [] s e = (good-nil, tt)
pieces-good (c ∷ cs) s e =
    let k = and_parts (is_scalar_char c) (scalars cs) s in
    let l = and_parts (is_literal_char c) (list_all is_literal_char cs) e in
    by_break c cs k.0 l.0 (pieces-good cs k.1 l.1) (c == line_feed) refl

pub pieces_are_good : (s : List ℕ) → IsUtf8 s → fits_literal s ≡ true → AllGood (pieces s)
unfolding fits_literal
pieces_are_good s u e =
    let g = and_parts _ (are_trimmed (pieces s)) e in
    let f = and_parts (has_break s && not (first s == line_feed)) (list_all is_literal_char (chars s)) g.0 in
    subst (λ t. AllGood (pieces t)) (encodes-chars s u) (pieces-good (chars s) (scalars-chars s u) f.1)
