-- The box of a name in a new environment is the name's number.
use Rattle.std.proofs.Common.{◌≡◌, ℕ, zero, suc, ◌+◌, ◌<◌, Bool, true, false, cond, List, [], ◌∷◌, ◌++◌, length, Some, None, if◌then◌else◌, nat_lt, refl, sym, ap, ◌∙◌, arith}
use Rattle.std.proofs.lemmas.Bool.Decides.{nat_tests}
use Rattle.std.specs.List.{list_any, position, position_or_len, slice_get}
use Rattle.std.specs.Prelude.{bytes_eq}
use Rattle.code_spec.specs.Code.{Name}
use Rattle.star_spec.specs.Names.{box_of}
use Rattle.star_resolve.specs.Frames.{box_in, boxed, counted}
use Rattle.star_resolve.specs.Variables.{each_once, with_name}
use Rattle.star_resolve.proofs.Frames.{each_behind, one_each}

-- a number among numbers
counted_at : (first n k : ℕ) → k < n → slice_get (counted first n) k ≡ Some (first + k)
counted_at first zero k h = absurd (omega (arith, h))
counted_at first (suc n) zero h = ap Some (omega arith)
counted_at first (suc n) (suc k) h = counted_at (suc first) n k (omega (arith, h)) ∙ ap Some (omega arith)

number_if : (n i : ℕ) (b : Bool) → nat_lt i n ≡ b → box_in (counted 0 n) (cond b (Some i) None) ≡ cond b (Some i) None
number_if n i true e = counted_at 0 n i (grind (arith, nat_tests, e)) ∙ ap Some (omega arith)
number_if n i false e = refl

pub place_of_box : (x : Name) (names : List Name) → each_once names ≡ names → position (bytes_eq x) names ≡ box_of x (boxed 0 names [])
place_of_box x names once =
    sym (number_if (length names) (position_or_len (bytes_eq x) names) (nat_lt (position_or_len (bytes_eq x) names) (length names)) refl)
    ∙ sym (λ i. box_in (counted 0 (length (once i))) (position (bytes_eq x) (once i)))
    ∙ sym (one_each x names)
    ∙ ap (λ ns. box_of x (boxed 0 ns [])) once

kept_by : (names : List Name) (x : Name) (b : Bool) → list_any (bytes_eq x) names ≡ b → each_once names ≡ names →
    each_once (if b then names else names ++ x ∷ []) ≡ (if b then names else names ++ x ∷ [])
kept_by names x true e h = h
kept_by names x false e h = each_behind [] names (x ∷ []) ∙ ap (λ ns. with_name ns x) h ∙ ap (λ b. if b then names else names ++ x ∷ []) e

-- names that stand once each do so with one more
pub once_kept : (names : List Name) (x : Name) → each_once names ≡ names → each_once (with_name names x) ≡ with_name names x
once_kept names x h = kept_by names x (list_any (bytes_eq x) names) refl h
