-- The scope of a call, of the values that its parameters get.
use Rattle.std.specs.Prelude.{List, [], ◌∷◌, ◌++◌, Some}
use Rattle.ytt_base.specs.declared.fault.Place.{Place}
use Rattle.code_spec.specs.Allowed.{parameter_names}
use Rattle.code_spec.specs.Code.{Name, Parameters}
use Rattle.value_spec.specs.Binding.{bound_values}
use Rattle.value_spec.specs.Values.{Value, Arguments, Env, of_box}
use Rattle.value_spec.specs.Outcomes.{Computation, give, new_object, ◌>>=◌}
use Rattle.star_spec.specs.Names.{with_boxes}

-- a new box for each name, with its value
abbrev pub boxes_for : {H : Type 0} → List Name → List Value → Computation H Env
boxes_for (x ∷ xs) (v ∷ vs) = do
  r ← new_object (of_box (Some v))
  env ← boxes_for xs vs
  give ((x, r) ∷ env)
boxes_for _ _ = give []

-- the scope of a call: boxes for its parameters and for the names that its block binds, before the function's own scope
abbrev pub scope_of_call : {H : Type 0} → Place → Parameters → (names : List Name) → (defaults : List Value) → Arguments → Env → Computation H Env
scope_of_call p ps names ds vs env = do
  all ← bound_values p ps ds vs
  own ← boxes_for (parameter_names ps) all
  scope ← with_boxes names own
  give (scope ++ env)
