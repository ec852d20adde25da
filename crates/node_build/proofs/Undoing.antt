-- Items that are taken out again.
use Rattle.std.proofs.Common.{◌≡◌, ◌<◌, ◌-◌, ℕ, zero, suc, List, [], ◌∷◌, ◌++◌, length, get_or, slice_set, refl, ap, ◌∙◌, arith, length-append}
use Rattle.star_values.specs.declared.value.BuiltItem.{BuiltItem}
use Rattle.node_build.specs.Positions.{undone, undone_one}
use Rattle.node_build.specs.declared.place.Undo.{Undo}

pub undone_last : (us : List Undo) (u : Undo) (is : List BuiltItem) → undone (us ++ u ∷ []) is ≡ undone us (undone_one u is)
undone_last [] u is = refl
undone_last (v ∷ us) u is = ap (undone_one v) (undone_last us u is)

set_last : {A : Type 0} (us : List A) (n : ℕ) (u v : A) → n ≡ length us → slice_set (us ++ u ∷ []) n v ≡ us ++ v ∷ []
set_last [] n u v e = ap (λ n. slice_set (u ∷ []) n v) e
set_last (w ∷ us) n u v e = ap (λ n. slice_set (w ∷ (us ++ u ∷ [])) n v) e ∙ ap (λ vs. w ∷ vs) (set_last us (length us) u v refl)

-- a last step, and another in its place
pub undone_set : (us vs ws : List Undo) (n : ℕ) (u v : Undo) (is old : List BuiltItem) → vs ≡ us ++ u ∷ [] → n ≡ length vs → ws ≡ slice_set vs (n - 1) v → undone_one v is ≡ old → undone ws is ≡ undone us old
undone_set us vs ws n u v is old e f g h =
    let count : n - 1 ≡ length us = grind (arith, f ∙ ap length e, length-append us (u ∷ [])) in
    ap (λ ws. undone ws is) (g ∙ ap (λ vs. slice_set vs (n - 1) v) e ∙ set_last us (n - 1) u v count) ∙ undone_last us v is ∙ ap (undone us) h

-- an item put back where it stood
pub set_back : {A : Type 0} (xs : List A) (i : ℕ) (x y : A) → i < length xs → x ≡ get_or xs i x → slice_set (slice_set xs i y) i x ≡ xs
set_back [] i x y lt e = refl
set_back (z ∷ xs) zero x y lt e = ap (λ x. x ∷ xs) e
set_back (z ∷ xs) (suc i) x y lt e = ap (λ xs. z ∷ xs) (set_back xs i x y (omega (arith, lt)) e)
