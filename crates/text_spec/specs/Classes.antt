-- Letters, digits and white space of ASCII, and the characters of a text.
use Rattle.std.specs.Prelude.{ℕ, ◌+◌, ◌-◌, nat_le, ◌==◌, Bool, true, false, not, ◌&&◌, ◌||◌, List, [], ◌∷◌, if◌then◌else◌}
use Rattle.index_spec.specs.Index.{is_inner}
use Rattle.value_spec.specs.Members.{is_empty}

-- ---- classes of bytes

-- space, tab, line feed, vertical tab, form feed, carriage return
abbrev pub is_space : ℕ → Bool
is_space b = b == 32 || (nat_le 9 b && nat_le b 13)

abbrev pub is_lower : ℕ → Bool
is_lower b = nat_le 97 b && nat_le b 122

abbrev pub is_upper : ℕ → Bool
is_upper b = nat_le 65 b && nat_le b 90

abbrev pub is_digit : ℕ → Bool
is_digit b = nat_le 48 b && nat_le b 57

abbrev pub is_letter : ℕ → Bool
is_letter b = is_lower b || is_upper b

abbrev pub is_letter_or_digit : ℕ → Bool
is_letter_or_digit b = is_letter b || is_digit b

abbrev pub every : (ℕ → Bool) → List ℕ → Bool
every f [] = true
every f (b ∷ t) = f b && every f t

abbrev pub some : (ℕ → Bool) → List ℕ → Bool
some f [] = false
some f (b ∷ t) = f b || some f t

-- not empty, and each byte passes
abbrev pub is_all : (ℕ → Bool) → List ℕ → Bool
is_all f t = not (is_empty t) && every f t

-- a byte of the one class, and none of the other
abbrev pub is_cased : (this other : ℕ → Bool) → List ℕ → Bool
is_cased f g t = some f t && not (some g t)

-- ---- letters

abbrev pub lower_byte : ℕ → ℕ
lower_byte b = if is_upper b then b + 32 else b

abbrev pub upper_byte : ℕ → ℕ
upper_byte b = if is_lower b then b - 32 else b

abbrev pub lowered : List ℕ → List ℕ
lowered [] = []
lowered (b ∷ t) = lower_byte b ∷ lowered t

abbrev pub uppered : List ℕ → List ℕ
uppered [] = []
uppered (b ∷ t) = upper_byte b ∷ uppered t

-- the first letter as a capital, and all others small
abbrev pub capitalized : List ℕ → List ℕ
capitalized [] = []
capitalized (b ∷ t) = upper_byte b ∷ lowered t

-- ---- the front of a text

-- the bytes up to the first that doesn't pass
abbrev pub front : (ℕ → Bool) → List ℕ → List ℕ
front f [] = []
front f (b ∷ t) = if f b then b ∷ front f t else []

-- the bytes from the first on that doesn't pass
abbrev pub behind : (ℕ → Bool) → List ℕ → List ℕ
behind f [] = []
behind f (b ∷ t) = if f b then behind f t else b ∷ t

-- ---- characters

-- a byte to the front of characters: those inside a character go to the byte that it begins with
abbrev pub to_front : ℕ → List (List ℕ) → List (List ℕ)
to_front b [] = (b ∷ []) ∷ []
to_front b ([] ∷ cs) = (b ∷ []) ∷ cs
to_front b ((x ∷ c) ∷ cs) = if is_inner x then (b ∷ x ∷ c) ∷ cs else (b ∷ []) ∷ (x ∷ c) ∷ cs

abbrev pub characters : List ℕ → List (List ℕ)
characters [] = []
characters (b ∷ t) = to_front b (characters t)
