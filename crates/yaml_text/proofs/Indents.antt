-- The spaces at the start of a line.
use Rattle.std.proofs.Common.{◌≡◌, ℕ, ◌≤◌, Bool, true, false, ◌==◌, List, [], ◌∷◌, length, refl, arith}
use Rattle.std.proofs.lemmas.List.Sums.{prefix_len-le-length}
use Rattle.std.specs.List.{prefix_len}
use Rattle.yaml_spec.specs.Bytes.{indent, space}

pub indent-run : (t : List ℕ) → prefix_len (λ b. b == space) t ≡ indent t
indent-run [] = refl
indent-run (b ∷ t) = by (b == space) refl (indent-run t) where
  by : (v : Bool) → (b == space) ≡ v → prefix_len (λ b. b == space) t ≡ indent t → prefix_len (λ b. b == space) (b ∷ t) ≡ indent (b ∷ t)
  by true e more = rw (indent, e) (omega (arith, more))
  by false e more = rw (indent, e) refl

pub indent-le : (t : List ℕ) → indent t ≤ length t
indent-le t = rw (← indent-run t) (prefix_len-le-length (λ b. b == space) t)

pub ruleset spaces = (indent-run)
