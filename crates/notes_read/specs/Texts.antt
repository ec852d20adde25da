-- The fronts of texts.
use Rattle.std.specs.Prelude.{◌≡◌, ℕ, true, false, List, drop, length, Option, MatchOption}
use Rattle.std.specs.Borrow.{Bor}
use Rattle.template_spec.specs.Comments.{begins}

-- what stands behind this front, if the text begins with it
abbrev pub IsBehind : (text front : List ℕ) → Option (Bor (List ℕ)) → Type 0
IsBehind text front r = MatchOption r (begins text front ≡ false) (λ x. (begins text front ≡ true) × (x.now ≡ drop (length front) text))
