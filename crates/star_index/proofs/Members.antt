-- Members of fragments, by their keys and places.
use Rattle.star_steps.proofs.Names.{◌≡◌, ℕ, ℤ, Option, Some, None, is_some, true, option_and_then, refl, ap, ◌∙◌, Place, Scalar, State, or_fail, then_do, int_value, Body, Children, if_one, as_scalar, body_at, body_under, body_value, by_place, child_count, element_at, entry_of, found_body, missing, other_key, place_among}
use Rattle.ytt_base.specs.declared.fault.FaultKind.TheVariants as kind
use Rattle.value_spec.specs.Values.{Value}
use Rattle.star_index.specs.Cuts.{absent}

-- only a key that pairs have is found
pub scalar_of : (o : Option Scalar) (r : Option ℕ) (i : ℕ) → r ≡ Some i → (o ≡ None → r ≡ None) → (x : Scalar) × (o ≡ Some x)
scalar_of None r i e h = let none : r ≡ None = h refl in absurd cc
scalar_of (Some x) r i e h = (x, refl)

module _ (p : Place) (cs : Children) (s : State (Unit {0})) where
  pub entry_row : (v : Value) (x : Scalar) (b : Body) → as_scalar v ≡ Some x → body_under x cs ≡ Some b → entry_of p cs v s ≡ body_value p b s
  entry_row v x b e h = ap (λ o. if_one o (λ x. found_body p v (body_under x cs)) (other_key p v) s) e ∙ ap (λ o. found_body p v o s) h

  none_under : (v : Value) (o : Option Scalar) → ((x : Scalar) → o ≡ Some x → body_under x cs ≡ None) → if_one o (λ x. found_body p v (body_under x cs)) (other_key p v) s ≡ if_one o (λ x. found_body p v None) (other_key p v) s
  none_under v None h = refl
  none_under v (Some x) h = ap (λ o. found_body p v o s) (h x refl)

  pub absent_row : (v : Value) → ((x : Scalar) → as_scalar v ≡ Some x → body_under x cs ≡ None) → entry_of p cs v s ≡ absent p v s
  absent_row v h = none_under v (as_scalar v) h

  pub element_row : (v : Value) (z : ℤ) (i : ℕ) (b : Body) → v ≡ int_value z → place_among (child_count cs) z ≡ Some i → body_at i cs ≡ Some b → by_place p (element_at p cs) v s ≡ body_value p b s
  element_row v z i b e f g =
      ap (λ v. by_place p (element_at p cs) v s) e
      ∙ ap (λ o. then_do (or_fail kind.IndexRange p (option_and_then (λ i. body_at i cs) o) s) (body_value p)) f
      ∙ ap (λ o. then_do (or_fail kind.IndexRange p o s) (body_value p)) g

-- ---- keys that pairs have

by_scalar : (p : Place) (v : Value) (o : Option Scalar) (s : State (Unit {0})) → is_some o ≡ true → if_one o (λ x. missing p v) (other_key p v) s ≡ missing p v s
by_scalar p v None s h = absurd cc
by_scalar p v (Some x) s h = refl

pub absent_scalar : (p : Place) (v : Value) (s : State (Unit {0})) → is_some (as_scalar v) ≡ true → absent p v s ≡ missing p v s
absent_scalar p v s h = by_scalar p v (as_scalar v) s h
