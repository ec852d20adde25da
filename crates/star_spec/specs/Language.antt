-- What templates and programs take from the language of their code, and how a block is left before its end. A call of
-- a value is a parameter of each.
use Rattle.std.specs.Prelude.{ℕ, Bool, List, Option, Some, None}
use Rattle.ytt_base.specs.declared.fault.Place.{Place}
use Rattle.builtin_spec.specs.Sorting.{Keyed, Wanted}
use Rattle.code_spec.specs.Code.{Name, Expr, Exprs, BinaryOperator, Parameters, Statement, evaluate, assign, augment, load, return, break, continue, pass}
use Rattle.value_spec.specs.Values.{Value, function_value, Arguments, Env, of_function}
use Rattle.value_spec.specs.Outcomes.{Computation, paid, give, new_object, ◌>>=◌}

-- a call of a value with arguments, at a place
abbrev pub Call : Type 0 → Type 0
Call H = Place → Value → Arguments → Computation H Value

pub record Language (H : Type 0) : Type 0 where
  pub eval : Call H → Expr → Env → Computation H Value
  -- the arguments of a note or of a call, in their order
  pub arguments : Call H → Exprs → Env → Computation H Arguments
  -- a value to a target, in a statement or a clause at a place
  pub assign : Call H → Place → Expr → Value → Env → Computation H (Unit {0})
  -- a target with the operation of an operator, at its place, on what it had and the value of an expression
  pub augment : Call H → Place → BinaryOperator → (operator_place : Place) → (target value : Expr) → Env → Computation H (Unit {0})
  -- a value to a name
  pub bind_name : Place → Name → Value → Env → Computation H (Unit {0})
  pub truth : Value → Computation H Bool
  -- the members that a loop goes over, as they stand at its start
  pub members : Place → Value → Computation H (List Value)
  -- the values of the parameters that have a default
  pub defaults : Call H → Parameters → Env → Computation H (List Value)
  -- the scope of a call: its parameters, and the names that its block binds, which have no value yet
  pub bind : Place → Parameters → (names : List Name) → (defaults : List Value) → Arguments → Env → Computation H Env
  -- a call of one of the language's own functions and methods, and what it gives of members with the keys that it asked for
  pub own_call : Place → Value → Arguments → Computation H Keyed
  pub own_call_keyed : Place → Wanted → (members keys : List Value) → Computation H Value

-- how a block is left before its end
pub data Word : Type 0 where
  breaks : Word
  continues : Word
  returns : Value → Word

-- a new function, by its position, after the values of its defaults
abbrev pub new_function : {H : Type 0} → Language H → Call H → Place → Name → (number : ℕ) → Parameters → Env → Computation H Value
new_function language call p x number parameters env = do
  ds ← language.defaults call parameters env
  r ← new_object (of_function (record { name = x; file = p.file; number = number; env = env; defaults = ds }))
  give (function_value r)

-- A simple statement takes its step; it may leave its block. The names of a load are bound before the first item, so
-- there is nothing left to do.
abbrev pub execute : {H : Type 0} → Language H → Call H → Statement → Env → Computation H (Option Word)
execute language call (evaluate p e) env = paid p (language.eval call e env >>= λ v. give None)
execute language call (assign p x e) env = paid p (language.eval call e env >>= λ v. language.assign call p x v env >>= λ u. give None)
execute language call (augment p o q x e) env = paid p (language.augment call p o q x e env >>= λ u. give None)
execute language call (load p path names) env = paid p (give None)
execute language call (return p e) env = paid p (language.eval call e env >>= λ v. give (Some (returns v)))
execute language call (break p) env = paid p (give (Some breaks))
execute language call (continue p) env = paid p (give (Some continues))
execute language call (pass p) env = paid p (give None)

-- a `def`: its name is bound to a function with its code's number
abbrev pub define : {H : Type 0} → Language H → Call H → Place → (number : ℕ) → Name → Parameters → Env → Computation H (Option Word)
define language call p number x parameters env = paid p (new_function language call p x number parameters env >>= λ f. language.bind_name p x f env >>= λ u. give None)
