-- Lists that are seen with their last member first.
use Rattle.std.proofs.Common.{◌≡◌, ◌∙◌, ℕ, ◌≤◌, suc, List, [], ◌∷◌, ◌++◌, map as each, get_or, length, reverse, take, ap, sym, arith}
use Rattle.std.proofs.Math.Seq.{take-suc}
use Rattle.std.proofs.lemmas.List.{map-append, reverse-append}

module _ {A B : Type 0} (f : A → B) where
  pub last_first : (xs : List A) (x : A) → reverse (each f (xs ++ x ∷ [])) ≡ f x ∷ reverse (each f xs)
  last_first xs x = ap (λ (ys : List B). reverse ys) (map-append f xs (x ∷ [])) ∙ reverse-append (each f xs) (f x ∷ [])

  -- the members up to a place, one of them less
  pub one_less : (xs : List A) (j k : ℕ) (x : A) → k ≡ suc j → k ≤ length xs → x ≡ get_or xs j x → reverse (each f (take k xs)) ≡ f x ∷ reverse (each f (take j xs))
  one_less xs j k x e within here =
      ap (λ (n : ℕ). reverse (each f (take n xs))) e
      ∙ ap (λ (ys : List A). reverse (each f ys)) (take-suc xs j x (omega (arith, within, e)))
      ∙ last_first (take j xs) (get_or xs j x)
      ∙ ap (λ (y : A). f y ∷ reverse (each f (take j xs))) (sym here)
