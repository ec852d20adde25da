-- What the language's own functions and methods take.
use Rattle.std.specs.Prelude.{ℕ, nat_lt, Bool, ◌||◌, List, [], ◌∷◌, length, Option, Some, None, bytes_eq, if◌then◌else◌}
use Rattle.ytt_base.specs.declared.fault.Place.{Place}
use Rattle.code_spec.specs.Code.{Name}
use Rattle.value_spec.specs.Binding.{bound_values, has_field, none_for_each, parameters_named}
use Rattle.value_spec.specs.Outcomes.{Computation, ◌>>=◌}
use Rattle.value_spec.specs.Values.{Value, values_in, Arguments, arguments}

-- a function or a method, by what it gives for its arguments
abbrev pub Own : Type 0 → Type 0
Own H = Place → Arguments → Computation H Value

-- one of these parameters: those that must be given, and those that may be, which are None where they aren't; it gives this for their values
abbrev pub taking : {H : Type 0} → (needed optional : List Name) → (Place → List Value → Computation H Value) → Own H
taking xs ys f p args = bound_values p (parameters_named xs ys) (none_for_each ys) args >>= f p

-- an argument is given by position, or by name
abbrev pub is_given : (position : ℕ) → Name → Arguments → Bool
is_given i x (arguments vs fs) = nat_lt i (length (values_in vs)) || has_field x fs

-- the one of a name
abbrev pub own_in : {H : Type 0} → Name → List (Name × Own H) → Option (Own H)
own_in x [] = None
own_in x (f ∷ fs) = if bytes_eq x f.0 then Some f.1 else own_in x fs
