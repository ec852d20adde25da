-- The places of names, and one more name behind them.
use Rattle.std.proofs.Common.{◌≡◌, ℕ, suc, Bool, true, false, cond, List, [], ◌∷◌, ◌++◌, length, Option, Some, None, refl, ap, ◌∙◌, bytes_eq, if◌then◌else◌}
use Rattle.std.specs.Option.{option_map, is_some}
use Rattle.std.proofs.lemmas.Slice.Eq.{bytes_eq-Decides}
use Rattle.ytt_laws.proofs.Lists.{bytes_eq-sym}
use Rattle.schema_check.specs.First.{or_else}
use Rattle.schema_check.specs.Places.{place_of}

abbrev here_if : Bool → ℕ → Option ℕ
here_if b n = if b then Some n else None

further : (b : Bool) (n : ℕ) → option_map suc (here_if b n) ≡ here_if b (suc n)
further true n = refl
further false n = refl

one-further : (b : Bool) (o q : Option ℕ) → elim b as (λ _. Option ℕ) [ true ↦ Some 0 | false ↦ option_map suc (or_else o q) ] ≡ or_else (elim b as (λ _. Option ℕ) [ true ↦ Some 0 | false ↦ option_map suc o ]) (option_map suc q)
one-further true o q = refl
one-further false None q = refl
one-further false (Some i) q = refl

place_of-last : (x y : List ℕ) (ys : List (List ℕ)) → place_of x (ys ++ y ∷ []) ≡ or_else (place_of x ys) (here_if (bytes_eq x y) (length ys))
place_of-last x y [] = at-first (bytes_eq x y)
  where
    at-first : (b : Bool) → elim b as (λ _. Option ℕ) [ true ↦ Some 0 | false ↦ None ] ≡ here_if b 0
    at-first true = refl
    at-first false = refl
place_of-last x y (z ∷ ys) =
    ap (λ o. elim (bytes_eq x z) as (λ _. Option ℕ) [ true ↦ Some 0 | false ↦ option_map suc o ]) (place_of-last x y ys)
    ∙ one-further (bytes_eq x z) (place_of x ys) (here_if (bytes_eq x y) (length ys))
    ∙ ap (or_else (place_of x (z ∷ ys))) (further (bytes_eq x y) (length ys))

same-name : (x y : List ℕ) (ys : List (List ℕ)) (b : Bool) → is_some (place_of y ys) ≡ b → bytes_eq x y ≡ true → is_some (place_of x ys) ≡ b
same-name x y ys b e same = ap (λ n. is_some (place_of n ys)) ((bytes_eq-Decides x y).0 same) ∙ e

stays : (o : Option ℕ) (b : Bool) (n : ℕ) → (b ≡ true → is_some o ≡ true) → or_else o (here_if b n) ≡ o
stays (Some i) b n h = refl
stays None true n h = let wrong : false ≡ true = h refl in cc
stays None false n h = refl

-- a name that is there already keeps its place
pub place_of-known : (x y : List ℕ) (ys : List (List ℕ)) → is_some (place_of y ys) ≡ true → place_of x (ys ++ y ∷ []) ≡ place_of x ys
place_of-known x y ys e = place_of-last x y ys ∙ stays (place_of x ys) (bytes_eq x y) (length ys) (same-name x y ys true e)

comes : (o : Option ℕ) (b : Bool) (n : ℕ) → (b ≡ true → is_some o ≡ false) → or_else o (here_if b n) ≡ cond b (Some n) o
comes (Some i) true n h = let wrong : true ≡ false = h refl in cc
comes (Some i) false n h = refl
comes None true n h = refl
comes None false n h = refl

-- a new name stands behind the others
pub place_of-new : (x y : List ℕ) (ys : List (List ℕ)) → is_some (place_of y ys) ≡ false → place_of x (ys ++ y ∷ []) ≡ cond (bytes_eq y x) (Some (length ys)) (place_of x ys)
place_of-new x y ys e =
    place_of-last x y ys ∙ comes (place_of x ys) (bytes_eq x y) (length ys) (same-name x y ys false e)
    ∙ ap (λ b. cond b (Some (length ys)) (place_of x ys)) (bytes_eq-sym x y)
