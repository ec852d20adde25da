-- The characters in double quotes that have no escape of their own (YAML 1.2.2, 5.7).
use Rattle.std.specs.Prelude.{ℕ, ◌/◌, ◌||◌, nat_lt, if◌then◌else◌, List, [], ◌∷◌, ◌++◌, codes, encode_utf8, Bool}
use Rattle.yaml_spec.specs.Bytes.{is_between, is_one_of}
use Rattle.yaml_spec.specs.Text.{hex2}

-- two hexadecimal digits tell the character
abbrev pub is_short_escaped : ℕ → Bool
is_short_escaped c = nat_lt c 0x20 || is_between 0x7F 0xA0 c

-- four do
abbrev pub is_long_escaped : ℕ → Bool
is_long_escaped c = is_one_of (0x2028 ∷ 0x2029 ∷ 0xFEFF ∷ 0xFFFE ∷ 0xFFFF ∷ []) c

-- by its number where it is none to show, and else as itself
abbrev pub numbered_char : ℕ → List ℕ
numbered_char c =
    if is_short_escaped c then codes "\\x" ++ hex2 c
    else if is_long_escaped c then codes "\\u" ++ (hex2 (c / 256) ++ hex2 c)
    else encode_utf8 c
