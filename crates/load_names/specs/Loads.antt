-- The names that a load statement binds, and how what a call returned stands to what they mean.
use Rattle.std.specs.Prelude.{◌≡◌, ◌++◌, ℕ, List, map as each, Some, Result, Ok, Err}
use Rattle.ytt_base.specs.declared.fault.FaultKind.{FaultKind}
use Rattle.ytt_base.specs.declared.fault.Place.{Place}
use Rattle.ytt_base.specs.declared.fault.Stop.{Stop}
use Rattle.ytt_base.specs.declared.fault.Stop.TheVariants as stop
use Rattle.code_spec.specs.Code.{LoadedNames}
use Rattle.star_values.specs.Owns.{OwnsFields}
use Rattle.star_values.specs.View.{View, value_of}
use Rattle.star_values.specs.declared.value.NamedValue.{NamedValue}
use Rattle.template_meaning.specs.Files.{Globals, names_loaded}
use Rattle.value_spec.specs.Outcomes.{State, done, bad}
use Rattle.world_spec.specs.Worlds.{Kept}

-- what a run keeps besides its objects and its steps, where modules answer, which keep nothing
abbrev pub World : Type 0
World = Kept (Unit {0})

-- names with values, as plain data
abbrev pub globals_of : View → List NamedValue → Globals
globals_of a vs = each (λ v. (v.name, value_of a v.value)) vs

-- a fault of this kind at a place with this detail, or want of memory
abbrev pub FaultsWith : FaultKind → Place → (detail : List ℕ) → Stop → Type 0
FaultsWith k p d (stop.Fault f) = f ≡ record { kind = k; place = Some p; detail = d }
FaultsWith k p d stop.Memory = Unit {0}

-- A load statement's names, where what is loaded has these, come behind those that there were; or it is refused with this fault. No state
-- matters, and none is changed; want of memory says nothing.
abbrev pub NamesLoaded : Place → (globals : Globals) → LoadedNames → Result (Unit {0}) Stop → (new old : Globals) → Type 0
NamesLoaded p gs xs (Ok u) new old = (here : Globals) × ((s : State World) → names_loaded p gs xs s ≡ done here s) × (new ≡ old ++ here)
NamesLoaded p gs xs (Err (stop.Fault f)) new old = (s : State World) → names_loaded p gs xs s ≡ bad f s
NamesLoaded p gs xs (Err stop.Memory) new old = Unit {0}

-- the same over an arena, which owns them all
pub record LoadsNames (a : View) (p : Place) (xs : LoadedNames) (globals : List NamedValue) (result : Result (Unit {0}) Stop) (new old : List NamedValue) : Type 0 where
  pub meaning : NamesLoaded p (globals_of a globals) xs result (globals_of a new) (globals_of a old)
  pub owned : OwnsFields a globals → OwnsFields a old → OwnsFields a new
