-- What is cut off an end.
use Rattle.std.specs.Prelude.{◌≡◌, ℕ, ◌-◌, ◌<◌, Bool, true, ◌||◌, List, ◌++◌, length, take, drop, Option, Some, None, bytes_eq, option_map, if◌then◌else◌}
use Rattle.std.specs.Borrow.{Bor}
use Rattle.std.specs.HashSet.{HashSet, contains_by}
use Rattle.std.specs.List.{AllByRecursion, list_any}
use Rattle.std.specs.Str.{IsUtf8}
use Rattle.index_spec.specs.Index.{is_inner}
use Rattle.operator_spec.specs.Operators.{begins_with}
use Rattle.text_spec.specs.Cutting.{first_in, last_in, strip_back, strip_front, white_space}
use Rattle.text_spec.specs.Places.{ends_with}
use Rattle.text_spec.specs.Texts.{texts_of}
use Rattle.text_words.specs.declared.runs.End.{End}
use Rattle.text_words.specs.declared.runs.End.TheVariants.{Front, Back}

-- ---- characters

-- each byte stands inside a character
abbrev pub AreInner : List ℕ → Type 0
AreInner bs = AllByRecursion (λ b. is_inner b ≡ true) bs

-- a byte, and behind it such as stand inside a character
abbrev pub IsCharacter : List ℕ → Type 0
IsCharacter c = (0 < length c) × AreInner (drop 1 c)

abbrev pub AreCharacters : List (List ℕ) → Type 0
AreCharacters cs = AllByRecursion IsCharacter cs

-- a text with this one at an end, and the rest
abbrev pub around : End → (part rest : List ℕ) → List ℕ
around Front c r = c ++ r
around Back c r = r ++ c

-- the character at an end of a text, and the rest
abbrev pub IsEdge : End → (character rest text : List ℕ) → Type 0
IsEdge end c r t = IsCharacter c × (t ≡ around end c r)

-- ---- sets of characters

-- the characters of a set, and white space where none is given
abbrev pub set_of : Option (Bor (List (Bor (List ℕ)))) → List (List ℕ)
set_of None = white_space
set_of (Some cs) = texts_of cs.now

-- one of these is this text
abbrev pub is_among : List (List ℕ) → List ℕ → Bool
is_among cs x = list_any (bytes_eq x) cs

-- a set has this text
abbrev pub has : {S : Type 0} → HashSet (Bor (List ℕ)) S → List ℕ → Bool
has set x = contains_by (λ k. bytes_eq x k.now) set

-- a set has what another has, and this text
abbrev pub HasMore : {S : Type 0} → (old : HashSet (Bor (List ℕ)) S) → List ℕ → (new : HashSet (Bor (List ℕ)) S) → Type 0
HasMore old y new = (x : List ℕ) → has new x ≡ (bytes_eq x y || has old x)

-- a set has these, which are in UTF-8, and no others
abbrev pub HasAll : {S : Type 0} → HashSet (Bor (List ℕ)) S → List (List ℕ) → Type 0
HasAll set cs = AllByRecursion IsUtf8 cs × ((x : List ℕ) → has set x ≡ is_among cs x)

-- a set has them, if there is one
abbrev pub HasAllIfAny : {S : Type 0} → Option (HashSet (Bor (List ℕ)) S) → List (List ℕ) → Type 0
HasAllIfAny None cs = Unit {0}
HasAllIfAny (Some set) cs = HasAll set cs

-- ---- what is cut off

-- the text without this one at an end
abbrev pub cut_one : End → (part text : List ℕ) → Option (List ℕ)
cut_one Front c t = if begins_with c t then Some (drop (length c) t) else None
cut_one Back c t = if ends_with c t then Some (take (length t - length c) t) else None

-- the text without the first of these that stands at an end
abbrev pub cut_at : End → (set : List (List ℕ)) → List ℕ → Option (List ℕ)
cut_at Front cs t = option_map (λ k. drop k t) (first_in cs t)
cut_at Back cs t = option_map (λ k. take (length t - k) t) (last_in cs t)

abbrev pub strip_at : End → (count : ℕ) → (set : List (List ℕ)) → List ℕ → List ℕ
strip_at Front n cs t = strip_front n cs t
strip_at Back n cs t = strip_back n cs t
