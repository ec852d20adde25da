-- Characters between quotes.
use Rattle.std.specs.Prelude.{◌/◌, ◌%◌, ◌||◌, ◌==◌, ◌∷◌, ◌++◌, if◌then◌else◌}
use Rattle.star_steps.specs.Names.{ℕ, nat_lt, List, [], codes, encode_utf8, hex_digit, quoted_bytes}

-- a character as it stands between quotes
abbrev pub quoted_character : ℕ → List ℕ
quoted_character c = quoted_bytes (encode_utf8 c)

-- one that has no short escape: by its number where it isn't printed
abbrev pub unescaped : ℕ → List ℕ
unescaped c = if nat_lt c 32 || c == 127 then codes "\\x" ++ (hex_digit (c / 16) ∷ hex_digit (c % 16) ∷ []) else encode_utf8 c
