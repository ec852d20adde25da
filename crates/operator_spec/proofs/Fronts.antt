-- What a text begins with.
use Rattle.std.proofs.Common.{◌≡◌, ℕ, true, ◌==◌, ◌&&◌, List, [], ◌∷◌, ◌++◌, length, drop, refl, sym, eq-eqb, eqb-true}
use Rattle.std.proofs.lemmas.Bool.{and_parts}
use Rattle.operator_spec.specs.Operators.{begins_with}

-- what begins with a text is that text and a rest
pub begins_is : (x t : List ℕ) → begins_with x t ≡ true → t ≡ x ++ drop (length x) t
begins_is [] t h = refl
begins_is (a ∷ x) [] h = cc
begins_is (a ∷ x) (b ∷ t) h =
    let p = and_parts (a == b) (begins_with x t) h in
    λ i. sym (eqb-true a b p.0) i ∷ begins_is x t p.1 i

pub begins : (x b : List ℕ) → begins_with x (x ++ b) ≡ true
begins [] b = refl
begins (x ∷ xs) b = λ i. eq-eqb x x refl i && begins xs b i
