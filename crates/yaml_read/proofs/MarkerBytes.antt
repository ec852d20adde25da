-- The bytes that a marker begins with.
use Rattle.std.proofs.Common.{◌≡◌, ℕ, ◌<◌, ◌≤◌, Bool, true, false, ◌&&◌, ◌||◌, List, [], ◌∷◌, length, take, drop, refl, slice_index, arith}
use Rattle.std.specs.Prelude.{bytes_eq}
use Rattle.std.proofs.lemmas.Bool.Decides.{nat_tests}
use Rattle.yaml_spec.specs.Bytes.{is_gap}
use Rattle.yaml_spec.specs.Lines.{Line}
use Rattle.yaml_spec.specs.Read.{begins_with, is_start, is_stop}

-- three bytes of ASCII, at least
pub record IsLong (t : List ℕ) : Type 0 where
  pub three : 3 ≤ length t
  pub ascii : slice_index t 2 < 128

same_bytes : (b : ℕ) (t : List ℕ) → b < 128 → bytes_eq (take 3 t) (b ∷ b ∷ b ∷ []) ≡ true → IsLong t
same_bytes b [] l h = cc
same_bytes b (x ∷ []) l h = grind (arith, nat_tests)
same_bytes b (x ∷ y ∷ []) l h = grind (arith, nat_tests)
same_bytes b (x ∷ y ∷ z ∷ t) l h = record { three = omega arith; ascii = grind (arith, nat_tests) }

begins : (b : ℕ) (t : List ℕ) → b < 128 → begins_with (b ∷ b ∷ b ∷ []) t ≡ true → IsLong t
begins b t l h = by (bytes_eq (take 3 t) (b ∷ b ∷ b ∷ [])) refl h where
  by : (v : Bool) → bytes_eq (take 3 t) (b ∷ b ∷ b ∷ []) ≡ v → (v && is_gap (drop 3 t)) ≡ true → IsLong t
  by true e h = same_bytes b t l e
  by false e h = cc

-- a marker is so long
pub marker_long : (l : Line) → (is_start l || is_stop l) ≡ true → IsLong l.text
marker_long l h = by (is_start l) refl h where
  by : (v : Bool) → is_start l ≡ v → (v || is_stop l) ≡ true → IsLong l.text
  by true e h = begins 45 l.text (omega arith) e
  by false e h = begins 46 l.text (omega arith) h
