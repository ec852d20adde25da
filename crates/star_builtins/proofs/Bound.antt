-- A call from the values of its parameters.
use Rattle.std.proofs.Common.{◌≡◌, ℕ, List, Result, Err, ap, subst, sym, ◌∙◌}
use Rattle.ytt_base.specs.declared.fault.Place.{Place}
use Rattle.ytt_base.specs.declared.fault.Stop.{Stop}
use Rattle.ytt_base.specs.declared.fault.Stop.TheVariants as stop
use Rattle.builtin_spec.specs.Binding.{taking}
use Rattle.code_spec.specs.Code.{Name}
use Rattle.star_steps.specs.Meets.{Gives, Meets, state_in}
use Rattle.star_values.proofs.Growing.{grows_same}
use Rattle.star_values.specs.View.{View}
use Rattle.star_values.specs.declared.value.Value.{Value as Held}
use Rattle.value_spec.specs.Binding.{bound_values, none_for_each, parameters_named}
use Rattle.value_spec.specs.Outcomes.{Computation, Ending, State, done, then_do}
use Rattle.value_spec.specs.Values.{Arguments, Value}

module _ (p : Place) (f : Place → List Value → Computation (Unit {0}) Value) (args : Arguments) (a : View) (n : ℕ) (xs ys us vs : List Name) (needed : us ≡ xs) (optional : vs ≡ ys) where
  abbrev before : State (Unit {0})
  before = state_in a n

  -- its parameters are these
  abbrev given : Ending (Unit {0}) (List Value)
  given = bound_values p (parameters_named us vs) (none_for_each vs) args before

  begins : taking xs ys f p args before ≡ then_do given (f p)
  begins = λ i. then_do (bound_values p (parameters_named (sym needed i) (sym optional i)) (none_for_each (sym optional i)) args before) (f p)

  -- the arguments can't be bound
  pub unbound : (view : List Held → List Value) (x : Stop) → Meets view (Err x) before given → Gives (taking xs ys f p args before) (Err x) a a n
  unbound view (stop.Fault d) e = record { meaning = begins ∙ ap (λ o. then_do o (f p)) e; owns = tt; grows = grows_same a }
  unbound view stop.Memory e = record { meaning = tt; owns = tt; grows = grows_same a }

  -- it goes on with their values
  pub goes_on : (ws : List Value) (b : View) (k : ℕ) (result : Result Held Stop) → given ≡ done ws before → Gives (f p ws before) result a b k → Gives (taking xs ys f p args before) result a b k
  goes_on ws b k result is g = subst (λ o. Gives o result a b k) (sym (begins ∙ ap (λ o. then_do o (f p)) is)) g
