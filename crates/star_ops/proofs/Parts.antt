-- A text that stands in another.
use Rattle.star_steps.proofs.Names.{◌≡◌, ℕ, Bool, true, false, ◌||◌, inl, inr, List, [], ◌∷◌, ◌++◌, length, drop, refl, sym, ap, subst, HasSubslice, begins_with, is_part}
use Rattle.std.proofs.lemmas.Bool.{or_cases, or_right}
use Rattle.operator_spec.proofs.Fronts.{begins, begins_is}

pub shown : (x t : List ℕ) → is_part x t ≡ true → HasSubslice t x
shown [] [] h = ([], [], refl)
shown (x ∷ xs) [] h = cc
shown x (b ∷ t) h = elim (or_cases (begins_with x (b ∷ t)) (is_part x t) h) [
  | inl e ↦ ([], drop (length x) (b ∷ t), begins_is x (b ∷ t) e)
  | inr e ↦ let r = shown x t e in (b ∷ r.0, r.1, ap (λ l. b ∷ l) r.2)
]

part_at_front : (x b : List ℕ) → is_part x (x ++ b) ≡ true
part_at_front [] [] = refl
part_at_front [] (c ∷ b) = refl
part_at_front (x ∷ xs) b = ap (λ v. v || is_part (x ∷ xs) (xs ++ b)) (begins (x ∷ xs) b)

part_behind : (x a b : List ℕ) → is_part x (a ++ (x ++ b)) ≡ true
part_behind x [] b = part_at_front x b
part_behind x (c ∷ a) b = or_right (begins_with x (c ∷ a ++ (x ++ b))) (is_part x (a ++ (x ++ b))) (part_behind x a b)

pub found : (x t : List ℕ) → HasSubslice t x → is_part x t ≡ true
found x t h = subst (λ t. is_part x t ≡ true) (sym h.2) (part_behind x h.0 h.1)

-- a test that holds just where the text stands there
pub tests_part : (r : Bool) (x t : List ℕ) → (r ≡ true → HasSubslice t x) → (HasSubslice t x → r ≡ true) → r ≡ is_part x t
tests_part true x t h k = sym (found x t (h refl))
tests_part false x t h k = as_false (is_part x t) (λ e. k (shown x t e))
  where
    as_false : (b : Bool) → (b ≡ true → false ≡ true) → false ≡ b
    as_false true h = h refl
    as_false false h = refl
