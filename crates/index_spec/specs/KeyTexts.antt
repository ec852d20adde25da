-- The text of a key in the detail of a fault, as `repr` shows it.
use Rattle.std.specs.Prelude.{ℕ, zero, suc, ◌+◌, ◌/◌, ◌%◌, ℤ, pos, negsuc, nat_lt, Bool, true, false, ◌||◌, ◌==◌, List, [], ◌∷◌, ◌++◌, if◌then◌else◌, codes, decimal}
use Rattle.value_spec.specs.Values.{Value, none_value, bool_value, int_value, text_value, tuple_value, Values, no_values, a_value}

abbrev pub hex_digit : ℕ → ℕ
hex_digit n = if nat_lt n 10 then 48 + n else 55 + n

-- a byte between quotes: `"`, `\`, line feed, tab, carriage return, and other bytes that aren't printed, are escaped
abbrev pub quoted_byte : ℕ → List ℕ
quoted_byte b =
    if b == 34 || b == 92 then 92 ∷ b ∷ []
    else if b == 10 then codes "\\n"
    else if b == 9 then codes "\\t"
    else if b == 13 then codes "\\r"
    else if nat_lt b 32 || b == 127 then codes "\\x" ++ (hex_digit (b / 16) ∷ hex_digit (b % 16) ∷ [])
    else b ∷ []

abbrev pub quoted_bytes : List ℕ → List ℕ
quoted_bytes [] = []
quoted_bytes (b ∷ t) = quoted_byte b ++ quoted_bytes t

-- a text in double quotes
abbrev pub quoted : List ℕ → List ℕ
quoted t = 34 ∷ (quoted_bytes t ++ (34 ∷ []))

abbrev pub bool_text : Bool → List ℕ
bool_text true = codes "True"
bool_text false = codes "False"

abbrev pub integer_text : ℤ → List ℕ
integer_text (pos n) = decimal n
integer_text (negsuc n) = 45 ∷ decimal (suc n)

-- a tuple of one member has a comma behind it
abbrev pub closed : Values → List ℕ
closed (a_value v no_values) = codes ",)"
closed _ = codes ")"

abbrev mutual
  pub key_text : Value → List ℕ
  key_text none_value = codes "None"
  key_text (bool_value b) = bool_text b
  key_text (int_value z) = integer_text z
  key_text (text_value t) = quoted t
  key_text (tuple_value vs) = 40 ∷ (key_texts vs ++ closed vs)
  key_text _ = []

  -- the texts of members, with `, ` between them
  pub key_texts : Values → List ℕ
  key_texts no_values = []
  key_texts (a_value v vs) = key_text v ++ more_texts vs

  pub more_texts : Values → List ℕ
  more_texts no_values = []
  more_texts (a_value v vs) = codes ", " ++ (key_text v ++ more_texts vs)

-- a key whose tuples stand in so many levels
abbrev mutual
  pub IsKeyWithin : (levels : ℕ) → Value → Type 0
  IsKeyWithin n none_value = Unit {0}
  IsKeyWithin n (bool_value b) = Unit {0}
  IsKeyWithin n (int_value z) = Unit {0}
  IsKeyWithin n (text_value t) = Unit {0}
  IsKeyWithin zero (tuple_value vs) = ⊥
  IsKeyWithin (suc n) (tuple_value vs) = AreKeysWithin n vs
  IsKeyWithin n _ = ⊥

  pub AreKeysWithin : (levels : ℕ) → Values → Type 0
  AreKeysWithin n no_values = Unit {0}
  AreKeysWithin n (a_value v vs) = IsKeyWithin n v × AreKeysWithin n vs
