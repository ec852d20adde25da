-- Characters in double quotes, one behind another.
use Rattle.std.proofs.Common.{◌≡◌, ℕ, List, [], ◌∷◌, ◌++◌, ap, sym, ◌∙◌, append_assoc, append-nil, refl}
use Rattle.yaml_spec.specs.Text.{quoted_char, quoted_chars}

quoted_chars-append : (xs ys : List ℕ) → quoted_chars (xs ++ ys) ≡ quoted_chars xs ++ quoted_chars ys
quoted_chars-append [] ys = refl
quoted_chars-append (x ∷ xs) ys = ap (λ t. quoted_char x ++ t) (quoted_chars-append xs ys) ∙ sym (append_assoc (quoted_char x) (quoted_chars xs) (quoted_chars ys))

-- one more character
pub quoted_chars-next : (start before after : List ℕ) (xs : List ℕ) (c : ℕ) → before ≡ start ++ quoted_chars xs → after ≡ before ++ quoted_char c
    → after ≡ start ++ quoted_chars (xs ++ c ∷ [])
quoted_chars-next start before after xs c h k =
    k ∙ ap (λ t. t ++ quoted_char c) h ∙ append_assoc start (quoted_chars xs) (quoted_char c)
    ∙ ap (λ t. start ++ t) (sym (quoted_chars-append xs (c ∷ []) ∙ ap (λ t. quoted_chars xs ++ t) (append-nil (quoted_char c))))
