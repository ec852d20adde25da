-- What stands beside the parameters that were read says of them what is asked.
use Rattle.std.specs.Prelude.{◌≡◌, ℕ, ◌||◌, List, String, bytes_eq}
use Rattle.std.specs.HashSet.{HashSet, contains_text}
use Rattle.star_params.specs.declared.parameters.Parameters.TheInside.{Inside}
use Rattle.star_params.specs.Parameters.{has_name, has_star, has_stars, has_default}

pub record AreTold (p : Inside) : Type 0 where
  pub named : (x : List ℕ) → contains_text p.names x ≡ has_name x p.params
  pub starred : p.starred ≡ has_star p.params
  pub double_starred : p.double_starred ≡ has_stars p.params
  pub with_default : p.with_default ≡ has_default p.params

-- n has the texts of s and this one
abbrev pub IsWithName : {Y S : Type 0} → HashSet (String Y) S → List ℕ → HashSet (String Y) S → Type 0
IsWithName s x n = (y : List ℕ) → contains_text n y ≡ (contains_text s y || bytes_eq x y)
