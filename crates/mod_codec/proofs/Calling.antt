-- The call of a native, from the value of its parameter.
use Rattle.std.proofs.Common.{◌≡◌, ℕ, List, [], ◌∷◌, Result, Err, sym, ap, ◌∙◌}
use Rattle.ytt_base.specs.declared.fault.Place.{Place}
use Rattle.ytt_base.specs.declared.fault.Stop.{Stop}
use Rattle.code_spec.specs.Code.{Name}
use Rattle.star_steps.proofs.Meeting.{gives_same, gives_stop}
use Rattle.star_steps.specs.Meets.{Gives, Meets, state_in}
use Rattle.star_values.specs.View.{View, values_of}
use Rattle.star_values.specs.declared.value.Value.{Value}
use Rattle.text_spec.specs.Signatures.{value_at}
use Rattle.value_spec.specs.Binding.{bound_values, none_for_each, parameters_named}
use Rattle.value_spec.specs.Outcomes.{Ending, done, then_do}
use Rattle.value_spec.specs.Values as plain
use Rattle.value_spec.specs.Values.{Arguments}
use Rattle.mod_codec.specs.View.{answer_of, parameter_of, value_row_of}
use Rattle.mod_codec.specs.declared.table.Codec.{Codec}

module _ (c : Codec) (p : Place) (args : Arguments) (a : View) (n : ℕ) (x : Name) (named : x ≡ parameter_of c) where
  abbrev bound : Name → Ending (Unit {0}) (List plain.Value)
  bound y = bound_values p (parameters_named (y ∷ []) []) (none_for_each []) args (state_in a n)

  -- the argument doesn't fit
  pub unbound : (e : Stop) (r : Result Value Stop) → Meets (values_of a) (Err e) (state_in a n) (bound_values p (parameters_named (x ∷ []) []) (none_for_each []) args (state_in a n)) → r ≡ Err e → Gives (value_row_of c p args (state_in a n)) r a a n
  unfolding value_row_of
  unbound e r m is = gives_stop (values_of a) e a n (bound x) (λ vs. answer_of c p (value_at 0 vs)) r _ (ap (λ y. then_do (bound y) (λ vs. answer_of c p (value_at 0 vs))) (sym named)) m is

  pub called : (vs : List Value) (v : plain.Value) (r : Result Value Stop) (b : View) (k : ℕ) → bound_values p (parameters_named (x ∷ []) []) (none_for_each []) args (state_in a n) ≡ done (values_of a vs) (state_in a n) →
      v ≡ value_at 0 (values_of a vs) → Gives (answer_of c p v (state_in a n)) r a b k → Gives (value_row_of c p args (state_in a n)) r a b k
  unfolding value_row_of
  called vs v r b k e is g = gives_same _ _ r a b k
      (ap (λ y. then_do (bound y) (λ vs. answer_of c p (value_at 0 vs))) (sym named)
      ∙ ap (λ o. then_do o (λ vs. answer_of c p (value_at 0 vs))) e
      ∙ ap (λ v. answer_of c p v (state_in a n)) (sym is)) g
