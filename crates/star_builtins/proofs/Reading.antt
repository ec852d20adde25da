-- What is read of the text of an integer.
use Rattle.std.proofs.Common.{◌≡◌, ℕ, Bool, ◌&&◌, List, [], ◌∷◌, refl, ap}
use Rattle.std.specs.List.{list_all}
use Rattle.text_spec.specs.Classes.{every}

-- the library's test of each byte is the definition's
pub every_one : (f : ℕ → Bool) (t : List ℕ) → list_all f t ≡ every f t
every_one f [] = refl
every_one f (b ∷ t) = ap (λ v. f b && v) (every_one f t)
