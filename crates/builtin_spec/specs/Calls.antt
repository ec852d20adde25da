-- Calls of the language's own functions and methods.
use Rattle.std.specs.Prelude.{Option, Some, None}
use Rattle.ytt_base.specs.declared.fault.FaultKind.TheVariants as kind
use Rattle.ytt_base.specs.declared.fault.Place.{Place}
use Rattle.code_spec.specs.Code.{Name}
use Rattle.builtin_spec.specs.Binding.{own_in}
use Rattle.builtin_spec.specs.Builtins.{own_function, row_of}
use Rattle.builtin_spec.specs.Dicts.{dict_methods}
use Rattle.builtin_spec.specs.Lists.{list_methods}
use Rattle.builtin_spec.specs.Sorting.{Keyed, keyed_builtin, without_keys}
use Rattle.text_spec.specs.Methods.{text_method}
use Rattle.value_spec.specs.Outcomes.{Computation, fail, give, ◌>>=◌}
use Rattle.value_spec.specs.Values.{Value, text_value, list_value, dict_value, native_value, builtin, method, Arguments}

-- a method, of what it holds
abbrev pub own_method : {H : Type 0} → Place → Name → (of : Value) → Arguments → Computation H Value
own_method p x (text_value t) args = text_method p x t args
own_method p x (list_value r) args = row_of p (own_in x (list_methods r)) args
own_method p x (dict_value r) args = row_of p (own_in x (dict_methods r)) args
own_method p x _ args = fail kind.ValueKind p

-- a function or a method of the language; nothing else is one
abbrev pub own_row : {H : Type 0} → Place → (called : Value) → Arguments → Computation H Value
own_row p (native_value (builtin x)) args = own_function p x args
own_row p (native_value (method x v)) args = own_method p x v args
own_row p _ args = fail kind.ValueKind p

-- ---- with keys

-- a function that may ask for keys, or what a call gives
abbrev pub keyed_or : {H : Type 0} → Place → (called : Value) → Arguments → Option (Place → Arguments → Computation H Keyed) → Computation H Keyed
keyed_or p f args None = own_row p f args >>= λ v. give (without_keys v)
keyed_or p f args (Some row) = row p args

-- a call of a function or a method of the language, which may ask for keys
abbrev pub asked_row : {H : Type 0} → Place → (called : Value) → Arguments → Computation H Keyed
asked_row p (native_value (builtin x)) args = keyed_or p (native_value (builtin x)) args (keyed_builtin x)
asked_row p f args = own_row p f args >>= λ v. give (without_keys v)
