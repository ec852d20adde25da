-- What a call does that makes the value of a module, or a part of it.
use Rattle.std.specs.Prelude.{◌≡◌, ◌++◌, ◌∷◌, [], List, Option, Some, None, Result, IfOk, option_map}
use Rattle.ytt_base.specs.declared.text.Memory.{Memory}
use Rattle.code_spec.specs.Code.{Name}
use Rattle.module_spec.specs.Modules.{calls_of, module_in, modules}
use Rattle.module_spec.specs.Rows.{native}
use Rattle.star_values.specs.Owns.{Grows, OwnsField, OwnsFields}
use Rattle.star_values.specs.View.{View, fields_in, value_of}
use Rattle.star_values.specs.declared.value.NamedValue.{NamedValue}
use Rattle.template_meaning.specs.Files.{Globals}
use Rattle.value_spec.specs.Values.{Fields, no_fields, a_field}
use Rattle.load_names.specs.Loads.{globals_of}

-- fields behind others
abbrev pub fields_behind : Fields → Fields → Fields
fields_behind no_fields gs = gs
fields_behind (a_field x v fs) gs = a_field x v (fields_behind fs gs)

-- It gives a call of this name of a module, which the arena owns, and leaves the store.
pub record MakesCall (of call : Name) (result : Result NamedValue Memory) (a b : View) : Type 0 where
  pub name : IfOk result (λ f. f.name ≡ call)
  pub value : IfOk result (λ f. value_of b f.value ≡ native (of ++ 46 ∷ call))
  pub owns : IfOk result (OwnsField b)
  pub store : b.store ≡ a.store
  pub grows : Grows a b

-- It gives all calls of a module, which the arena owns, and leaves the store.
pub record MakesCalls (of : Name) (calls : List Name) (result : Result (List NamedValue) Memory) (a b : View) : Type 0 where
  pub fields : IfOk result (λ fs. fields_in b.held fs ≡ calls_of of calls)
  pub owns : IfOk result (OwnsFields b)
  pub store : b.store ≡ a.store
  pub grows : Grows a b

-- ---- a module

-- the names of a module, if there is one, which exports its own
abbrev pub module_globals : Name → Option Globals
module_globals x = option_map (λ m. m ∷ []) (module_in x modules)

-- the names that were made
abbrev pub globals_made : View → Option (List NamedValue) → Option Globals
globals_made a None = None
globals_made a (Some gs) = Some (globals_of a gs)

abbrev pub OwnsMade : View → Option (List NamedValue) → Type 0
OwnsMade a None = Unit {0}
OwnsMade a (Some gs) = OwnsFields a gs

-- It gives the names of the module of a name, if there is one, which the arena owns, and leaves the store.
pub record MakesModule (x : Name) (result : Result (Option (List NamedValue)) Memory) (a b : View) : Type 0 where
  pub gives : IfOk result (λ gs. globals_made b gs ≡ module_globals x)
  pub owns : IfOk result (OwnsMade b)
  pub store : b.store ≡ a.store
  pub grows : Grows a b
