-- Ranges by the number of their arguments.
use Rattle.std.proofs.Common.{◌≡◌, ℕ, suc, nat_le, ℤ, pos, false, ◌&&◌, List, [], ◌∷◌, length, Option, Some, None, Err, refl, ap, arith, subst, sym, ◌∙◌}
use Rattle.std.proofs.lemmas.Bool.{le-leb, lt-leb}
use Rattle.ytt_base.specs.declared.fault.FaultKind.TheVariants as kind
use Rattle.ytt_base.specs.declared.fault.Place.{Place}
use Rattle.ytt_base.specs.declared.fault.Stop.{Stop}
use Rattle.ytt_base.specs.declared.fault.Stop.TheVariants as stop
use Rattle.ytt_base.specs.Outcomes.{fault_at}
use Rattle.builtin_spec.specs.Builtins.{all_integers, integer_in_front, range_from, range_row}
use Rattle.star_steps.specs.Meets.{Gives, state_in}
use Rattle.star_values.proofs.Growing.{grows_same}
use Rattle.star_values.specs.View.{View}
use Rattle.text_spec.specs.Signatures.{value_at}
use Rattle.value_spec.specs.Members.{as_int}
use Rattle.value_spec.specs.Outcomes.{State, bad, need, or_fail, then_do, ◌>>=◌}
use Rattle.value_spec.specs.Values.{Value, int_value, values_from, values_in, no_fields, arguments}
use Rattle.star_builtins.specs.View.{Here, of_integers}

module _ (p : Place) (s : State Here) where
  by_one : (o : Option ℤ) → then_do (or_fail kind.ValueKind p (integer_in_front o (Some [])) s) (range_from p) ≡ then_do (or_fail kind.ValueKind p (integer_in_front (Some (pos 0)) (integer_in_front o (integer_in_front (Some (pos 1)) (Some [])))) s) (range_from p)
  by_one None = refl
  by_one (Some z) = refl

  by_two : (o q : Option ℤ) → then_do (or_fail kind.ValueKind p (integer_in_front o (integer_in_front q (Some []))) s) (range_from p) ≡ then_do (or_fail kind.ValueKind p (integer_in_front o (integer_in_front q (integer_in_front (Some (pos 1)) (Some [])))) s) (range_from p)
  by_two None q = refl
  by_two (Some y) None = refl
  by_two (Some y) (Some z) = refl

  pub of_one : (ws : List Value) → length ws ≡ 1 → range_row p (arguments (values_from ws) no_fields) s ≡ of_integers p (int_value (pos 0)) (value_at 0 ws) (int_value (pos 1)) s
  of_one [] h = absurd (omega (arith, h))
  of_one (v ∷ []) h = by_one (as_int v)
  of_one (v ∷ w ∷ ws) h = absurd (omega (arith, h))

  pub of_two : (ws : List Value) → length ws ≡ 2 → range_row p (arguments (values_from ws) no_fields) s ≡ of_integers p (value_at 0 ws) (value_at 1 ws) (int_value (pos 1)) s
  of_two [] h = absurd (omega (arith, h))
  of_two (v ∷ []) h = absurd (omega (arith, h))
  of_two (v ∷ w ∷ []) h = by_two (as_int v) (as_int w)
  of_two (v ∷ w ∷ x ∷ ws) h = absurd (omega (arith, h))

  pub of_three : (ws : List Value) → length ws ≡ 3 → range_row p (arguments (values_from ws) no_fields) s ≡ of_integers p (value_at 0 ws) (value_at 1 ws) (value_at 2 ws) s
  of_three [] h = absurd (omega (arith, h))
  of_three (v ∷ []) h = absurd (omega (arith, h))
  of_three (v ∷ w ∷ []) h = absurd (omega (arith, h))
  of_three (v ∷ w ∷ x ∷ []) h = refl
  of_three (v ∷ w ∷ x ∷ y ∷ ws) h = absurd (omega (arith, h))

  as_many : (ws : List Value) → length (values_in (values_from ws)) ≡ length ws
  as_many [] = refl
  as_many (w ∷ ws) = ap suc (as_many ws)

  -- none, or too many
  pub of_others : (ws : List Value) → (length ws ≡ 1 → ⊥) → (length ws ≡ 2 → ⊥) → (length ws ≡ 3 → ⊥) → range_row p (arguments (values_from ws) no_fields) s ≡ bad (fault_at kind.ArgBind p) s
  of_others [] f g h = refl
  of_others (v ∷ []) f g h = absurd (f refl)
  of_others (v ∷ w ∷ []) f g h = absurd (g refl)
  of_others (v ∷ w ∷ x ∷ []) f g h = absurd (h refl)
  of_others (v ∷ w ∷ x ∷ y ∷ ws) f g h =
      let vs = values_in (values_from (v ∷ w ∷ x ∷ y ∷ ws)) in
      let many : (nat_le 1 (length vs) && nat_le (length vs) 3) ≡ false = ap (λ b. b && nat_le (length vs) 3) (le-leb 1 (length vs) (omega arith)) ∙ lt-leb (length vs) 3 (omega arith) in
      ap (λ b. then_do (need {H = Here} kind.ArgBind p b s) (λ u. or_fail kind.ValueKind p (all_integers vs) >>= range_from p)) many

-- the refusal of arguments
pub refused : (p : Place) (a : View) (n : ℕ) (e : Stop) → e ≡ stop.Fault (fault_at kind.ArgBind p) → Gives (bad (fault_at kind.ArgBind p) (state_in a n)) (Err e) a a n
refused p a n e is = subst (λ e. Gives (bad (fault_at kind.ArgBind p) (state_in a n)) (Err e) a a n) (sym is) (record { meaning = refl; owns = tt; grows = grows_same a })

-- what has no member is empty
pub none : {A : Type 0} (xs : List A) → length xs ≡ 0 → xs ≡ []
none [] e = refl
none (x ∷ xs) e = absurd (omega (arith, e))
