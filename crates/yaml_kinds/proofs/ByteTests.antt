-- Tests of every byte of a text, and of its first two.
use Rattle.std.proofs.Common.{◌≡◌, ℕ, ◌≤◌, List, [], ◌∷◌, length, refl, arith, Bool, false}
use Rattle.std.proofs.lemmas.Bool.{and_right}
use Rattle.yaml_spec.specs.Scalars.{has_prefix}

-- a text of two bytes or fewer is no prefix of two with digits behind it
pub too_short : (p q : ℕ) (test : ℕ → Bool) (t : List ℕ) → length t ≤ 2 → has_prefix (p ∷ q ∷ []) test t ≡ false
too_short p q test [] h = refl
too_short p q test (a ∷ []) h = and_right _ false refl
too_short p q test (a ∷ b ∷ []) h = and_right _ false refl
too_short p q test (a ∷ b ∷ c ∷ t) h = absurd (omega arith)
