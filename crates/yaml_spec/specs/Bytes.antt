-- The bytes that have a meaning in YAML, the blanks between tokens, and words (YAML 1.2.2, 5.3 to 5.5 and 6.1).
use Rattle.std.specs.Prelude.{ℕ, suc, ◌-◌, Bool, true, false, ◌&&◌, ◌||◌, ◌==◌, nat_le, if◌then◌else◌, List, [], ◌∷◌, length, slice_index, bytes_eq, codes}

abbrev pub tab : ℕ
tab = 9

abbrev pub line_feed : ℕ
line_feed = 10

abbrev pub carriage_return : ℕ
carriage_return = 13

abbrev pub space : ℕ
space = 32

abbrev pub quote : ℕ
quote = 34

abbrev pub hash : ℕ
hash = 35

abbrev pub percent : ℕ
percent = 37

abbrev pub apostrophe : ℕ
apostrophe = 39

abbrev pub plus : ℕ
plus = 43

abbrev pub comma : ℕ
comma = 44

abbrev pub dash : ℕ
dash = 45

abbrev pub dot : ℕ
dot = 46

abbrev pub colon : ℕ
colon = 58

abbrev pub greater : ℕ
greater = 62

abbrev pub question : ℕ
question = 63

abbrev pub at_sign : ℕ
at_sign = 64

abbrev pub left_bracket : ℕ
left_bracket = 91

abbrev pub backslash : ℕ
backslash = 92

abbrev pub right_bracket : ℕ
right_bracket = 93

abbrev pub left_brace : ℕ
left_brace = 123

abbrev pub bar : ℕ
bar = 124

abbrev pub right_brace : ℕ
right_brace = 125

-- the byte is one of these
abbrev pub is_one_of : List ℕ → ℕ → Bool
is_one_of [] b = false
is_one_of (x ∷ xs) b = b == x || is_one_of xs b

abbrev pub is_between : ℕ → ℕ → ℕ → Bool
is_between low high b = nat_le low b && nat_le b high

-- white space inside a line (6.1)
abbrev pub is_white : ℕ → Bool
is_white b = b == space || b == tab

-- `, [ ] { }` (5.3, rule 23)
abbrev pub is_flow_indicator : ℕ → Bool
is_flow_indicator b = is_one_of (comma ∷ left_bracket ∷ right_bracket ∷ left_brace ∷ right_brace ∷ []) b

abbrev pub is_digit : ℕ → Bool
is_digit b = is_between 48 57 b

abbrev pub is_octal_digit : ℕ → Bool
is_octal_digit b = is_between 48 55 b

abbrev pub is_hex_digit : ℕ → Bool
is_hex_digit b = is_digit b || is_between 65 70 b || is_between 97 102 b

-- the value of a digit of any base up to 16
abbrev pub digit_value : ℕ → ℕ
digit_value b = if nat_le b 57 then b - 48 else if nat_le b 70 then b - 55 else b - 87

-- an ASCII letter
abbrev pub is_letter : ℕ → Bool
is_letter b = is_between 65 90 b || is_between 97 122 b

abbrev pub is_letter_or_digit : ℕ → Bool
is_letter_or_digit b = is_letter b || is_digit b

-- the first byte; 0, which stands in no text, at the end
abbrev pub first : List ℕ → ℕ
first t = slice_index t 0

abbrev pub is_empty : {A : Type 0} → List A → Bool
is_empty [] = true
is_empty (x ∷ xs) = false

-- the text without the white space at its start
abbrev pub skip_white : List ℕ → List ℕ
skip_white [] = []
skip_white (b ∷ bs) = elim (is_white b) [ true ↦ skip_white bs | false ↦ b ∷ bs ]

-- the text without the white space at its end
abbrev pub trim_end : List ℕ → List ℕ
trim_end [] = []
trim_end (b ∷ bs) = let rest = trim_end bs in if is_white b && is_empty rest then [] else b ∷ rest

-- the number of leading spaces (6.1)
abbrev pub indent : List ℕ → ℕ
indent [] = 0
indent (b ∷ bs) = elim (b == space) [ true ↦ suc (indent bs) | false ↦ 0 ]

-- nothing but spaces and tabs
abbrev pub is_blank : List ℕ → Bool
is_blank t = is_empty (skip_white t)

-- a space follows, or the end: only white space, or white space and a comment, stands before it
abbrev pub is_gap : List ℕ → Bool
is_gap t = first t == space || is_blank t || (first t == tab && first (skip_white t) == hash)

-- how much of `text` was passed over, where `rest` is left of it
abbrev pub passed : List ℕ → List ℕ → ℕ
passed text rest = length text - length rest

-- the text is one of these words
abbrev pub is_word : List (List ℕ) → List ℕ → Bool
is_word [] t = false
is_word (w ∷ ws) t = bytes_eq w t || is_word ws t

-- the texts that are null or a bool (10.3.2)
abbrev pub null_words : List (List ℕ)
null_words = [] ∷ codes "~" ∷ codes "null" ∷ codes "Null" ∷ codes "NULL" ∷ []

abbrev pub true_words : List (List ℕ)
true_words = codes "true" ∷ codes "True" ∷ codes "TRUE" ∷ []

abbrev pub false_words : List (List ℕ)
false_words = codes "false" ∷ codes "False" ∷ codes "FALSE" ∷ []

-- strings that YAML 1.1 reads as booleans
abbrev pub yes_words : List (List ℕ)
yes_words =
    codes "y" ∷ codes "Y" ∷ codes "n" ∷ codes "N" ∷ codes "yes" ∷ codes "Yes" ∷ codes "YES" ∷ codes "no" ∷ codes "No" ∷ codes "NO"
    ∷ codes "on" ∷ codes "On" ∷ codes "ON" ∷ codes "off" ∷ codes "Off" ∷ codes "OFF" ∷ []
