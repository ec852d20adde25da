-- Texts as the program holds them, and how one is cut.
use Rattle.std.specs.Prelude.{◌≡◌, ℕ, ◌+◌, ◌-◌, ◌<◌, Bool, true, false, List, [], ◌∷◌, ◌++◌, length, take, drop, Option, Some, None, MatchOption}
use Rattle.std.specs.Borrow.{Bor}
use Rattle.text_spec.specs.Classes.{characters}
use Rattle.text_spec.specs.Cutting.{cut_behind, pieces, pieces_back}

-- two texts, or none
abbrev pub Parts : Type 0
Parts = Option (Bor (List ℕ) × Bor (List ℕ))

-- the two are the text before a place and behind the part that occurs there; there are none where there is no place
abbrev pub StandAround : (part text : List ℕ) → (place : Option ℕ) → Parts → Type 0
StandAround x t place r = MatchOption r (place ≡ None) (λ p. (i : ℕ) × (place ≡ Some i) × (p.0.now ≡ take i t) × (p.1.now ≡ drop (i + length x) t))

-- what is left of a text, just where a test holds
abbrev pub IsLeft : (test : Bool) → (left : List ℕ) → Option (Bor (List ℕ)) → Type 0
IsLeft test left r = MatchOption r (test ≡ false) (λ t. (test ≡ true) × (t.now ≡ left))

-- what a text is cut into behind each character where the separator is empty, and else at the separator
abbrev pub pieces_on : (separator : List ℕ) → (cuts : ℕ) → List ℕ → List (List ℕ)
pieces_on [] n t = cut_behind n (characters t)
pieces_on (x ∷ xs) n t = pieces (x ∷ xs) n t

-- these make the next piece and what is left to be cut; there are none where all that is left is one piece
abbrev pub AreNext : (separator : List ℕ) → (cuts : ℕ) → List ℕ → Parts → Type 0
AreNext x n t r = MatchOption r (pieces_on x n t ≡ t ∷ []) (λ p. (0 < n) × (pieces_on x n t ≡ p.0.now ∷ pieces_on x (n - 1) p.1.now))

-- these make what is left to be cut and the last piece; there are none where all that is left is one piece
abbrev pub AreLast : (separator : List ℕ) → (cuts : ℕ) → List ℕ → Parts → Type 0
AreLast x n t r = MatchOption r (pieces_back x n t ≡ t ∷ []) (λ p. (0 < n) × (pieces_back x n t ≡ pieces_back x (n - 1) p.0.now ++ p.1.now ∷ []))
