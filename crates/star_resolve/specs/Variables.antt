-- The variables of names, as the program numbers them.
use Rattle.std.specs.Prelude.{ℕ, zero, suc, List, [], ◌∷◌, ◌++◌, Option, Some, None, Result, Ok, Err, if◌then◌else◌, bytes_eq, map as each}
use Rattle.std.specs.List.{list_any, position_or_len}
use Rattle.ytt_base.specs.declared.fault.Fault.{Fault}
use Rattle.ytt_base.specs.declared.fault.FaultKind.TheVariants as kind
use Rattle.ytt_base.specs.declared.fault.Place.{Place}
use Rattle.ytt_base.specs.declared.fault.Stop.{Stop}
use Rattle.ytt_base.specs.declared.fault.Stop.TheVariants as stop
use Rattle.code_spec.specs.Code.{Name}
use Rattle.code_spec.specs.Program.{Instruction}
use Rattle.code_spec.specs.Scopes.{Around, Use, Home, local, global, builtin, unknown, home_of, program_names, program_uses, unknown_first}
use Rattle.star_resolve.specs.declared.levels.Variable.{Variable}
use Rattle.star_resolve.specs.declared.levels.Variable.TheVariants as variable

-- ---- numbers

abbrev pub with_name : List Name → Name → List Name
with_name names x = if list_any (bytes_eq x) names then names else names ++ x ∷ []

abbrev pub with_each : List Name → List Name → List Name
with_each names [] = names
with_each names (x ∷ xs) = with_each (with_name names x) xs

-- the names of a scope, each once, in the order in which it first binds them
abbrev pub each_once : List Name → List Name
each_once xs = with_each [] xs

-- the number of a name of a scope: how many others it binds first
abbrev pub number_in : List Name → Name → ℕ
number_in names x = position_or_len (bytes_eq x) (each_once names)

-- ---- variables

abbrev pub scope_at : ℕ → Around → List Name
scope_at n [] = []
scope_at zero (names ∷ around) = names
scope_at (suc n) (names ∷ around) = scope_at n around

-- the variable of a name by what it is: its scope, and its number there
abbrev pub variable_at : Home → (globals builtins : List Name) → Use → Option Variable
variable_at (local n) globals builtins u = Some (variable.Local n (number_in (scope_at n u.around) u.name))
variable_at global globals builtins u = Some (variable.Global (number_in globals u.name))
variable_at builtin globals builtins u = Some (variable.Builtin (number_in builtins u.name))
variable_at unknown globals builtins u = None

abbrev pub variable_of : (globals builtins : List Name) → Use → Option Variable
variable_of globals builtins u = variable_at (home_of globals builtins u) globals builtins u

-- ---- what is told

abbrev pub unknown_name : Place → Name → Fault
unknown_name p x = record { kind = kind.NameUnknown; place = Some p; detail = x }

abbrev pub fault_of_use : Option Use → Option Fault
fault_of_use None = None
fault_of_use (Some u) = Some (unknown_name u.place u.name)

-- ---- of a program

-- the variable of each name, in text order
abbrev pub program_variables : (builtins : List Name) → List Instruction → List (Option Variable)
program_variables builtins is = each (variable_of (program_names is) builtins) (program_uses is)

-- that a name is bound nowhere, by the first one that is, if there is one
abbrev pub program_fault : (builtins : List Name) → List Instruction → Option Fault
program_fault builtins is = fault_of_use (unknown_first (program_names is) builtins (program_uses is))

-- ---- what a call that may refuse gives; want of memory says nothing

abbrev pub IfFault : Stop → (Fault → Type 0) → Type 0
IfFault (stop.Fault f) P = P f
IfFault stop.Memory P = Unit {0}

abbrev pub IfRefused : {A : Type 0} → Result A Stop → (Fault → Type 0) → Type 0
IfRefused (Ok a) P = Unit {0}
IfRefused (Err s) P = IfFault s P
