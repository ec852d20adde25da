-- Characters in double quotes, one behind another, and digits.
use Rattle.std.proofs.Common.{◌≡◌, ℕ, ◌/◌, ◌<◌, Bool, true, false, cond, codes, List, [], ◌∷◌, ◌++◌, encode_utf8, ap, sym, ◌∙◌, append_assoc, append-nil, refl, arith}
use Rattle.std.proofs.lemmas.Str.{encode_ascii}
use Rattle.std.proofs.lemmas.Bool.Decides.{nat_tests}
use Rattle.yaml_styles.specs.Numbered.{is_long_escaped, is_short_escaped, numbered_char}
use Rattle.yaml_spec.specs.Text.{hex2, hex_digit, quoted_char, quoted_chars}

hex_digit-ascii : (n : ℕ) → n < 16 → hex_digit n < 128
hex_digit-ascii n h = grind (arith, nat_tests)

-- a digit is one byte
pub encode-digit : (n : ℕ) → n < 16 → encode_utf8 (hex_digit n) ≡ hex_digit n ∷ []
encode-digit n h = encode_ascii (hex_digit n) (hex_digit-ascii n h)

pub ruleset digits = (encode-digit)

abbrev by_tests : ℕ → Bool → Bool → List ℕ
by_tests c short long = cond short (codes "\\x" ++ hex2 c) (cond long (codes "\\u" ++ (hex2 (c / 256) ++ hex2 c)) (encode_utf8 c))

pub numbered-short : (c : ℕ) → is_short_escaped c ≡ true → numbered_char c ≡ codes "\\x" ++ hex2 c
numbered-short c h = ap (λ b. by_tests c b (is_long_escaped c)) h

pub numbered-itself : (c : ℕ) → is_short_escaped c ≡ false → is_long_escaped c ≡ false → numbered_char c ≡ encode_utf8 c
numbered-itself c h k = ap (λ b. by_tests c b (is_long_escaped c)) h ∙ ap (λ b. by_tests c false b) k

quoted_chars-append : (xs ys : List ℕ) → quoted_chars (xs ++ ys) ≡ quoted_chars xs ++ quoted_chars ys
quoted_chars-append [] ys = refl
quoted_chars-append (x ∷ xs) ys = ap (λ t. quoted_char x ++ t) (quoted_chars-append xs ys) ∙ sym (append_assoc (quoted_char x) (quoted_chars xs) (quoted_chars ys))

-- one more character
pub quoted_chars-next : (xs : List ℕ) (c : ℕ) → quoted_chars (xs ++ c ∷ []) ≡ quoted_chars xs ++ quoted_char c
quoted_chars-next xs c = quoted_chars-append xs (c ∷ []) ∙ ap (λ t. quoted_chars xs ++ t) (append-nil (quoted_char c))
