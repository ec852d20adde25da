-- Tests of the bytes of a text, and its letters.
use Rattle.std.proofs.Common.{◌≡◌, ℕ, ◌<◌, Bool, ◌&&◌, ◌||◌, List, [], ◌∷◌, map, IsUtf8, refl, ap, arith}
use Rattle.std.proofs.lemmas.Bool.Decides.{nat_tests}
use Rattle.std.proofs.lemmas.Str.{IsCharBoundary-after_ascii}
use Rattle.std.specs.Char.{to_ascii_lowercase, to_ascii_uppercase}
use Rattle.std.specs.List.{list_all, list_any}
use Rattle.std.specs.Str.{IsCharBoundary}
use Rattle.text_spec.specs.Classes.{capitalized, every, lower_byte, lowered, some, upper_byte, uppered}

pub every_one : (f : ℕ → Bool) (t : List ℕ) → list_all f t ≡ every f t
every_one f [] = refl
every_one f (b ∷ t) = ap (λ v. f b && v) (every_one f t)

pub some_one : (f : ℕ → Bool) (t : List ℕ) → list_any f t ≡ some f t
some_one f [] = refl
some_one f (b ∷ t) = ap (λ v. f b || v) (some_one f t)

pub ruleset tests = (every_one, some_one)

-- ---- letters

lower_one : (b : ℕ) → to_ascii_lowercase b ≡ lower_byte b
lower_one b = grind (arith, nat_tests)

upper_one : (b : ℕ) → to_ascii_uppercase b ≡ upper_byte b
upper_one b = grind (arith, nat_tests)

pub all_lower : (t : List ℕ) → map to_ascii_lowercase t ≡ lowered t
all_lower [] = refl
all_lower (b ∷ t) = λ i. lower_one b i ∷ all_lower t i

pub all_upper : (t : List ℕ) → map to_ascii_uppercase t ≡ uppered t
all_upper [] = refl
all_upper (b ∷ t) = λ i. upper_one b i ∷ all_upper t i

pub ruleset letters = (all_lower, all_upper)

-- a byte beyond ASCII has no other case, so a first character of such bytes stays
no_letter : (b : ℕ) → (b < 128 → ⊥) → lower_byte b ≡ upper_byte b
no_letter b h = grind (arith, nat_tests)

pub no_first : (t : List ℕ) → IsUtf8 t → (IsCharBoundary t 1 → ⊥) → lowered t ≡ capitalized t
no_first [] utf8 h = refl
no_first (b ∷ t) utf8 h = ap (λ c. c ∷ lowered t) (no_letter b (λ l. h (IsCharBoundary-after_ascii (b ∷ t) 0 utf8 (omega arith) l)))
