-- How what a call over an arena returned stands to how a computation of the definitions ends.
use Rattle.std.specs.Prelude.{◌≡◌, ℕ, Result, Ok, Err, IfOk}
use Rattle.ytt_base.specs.declared.fault.Stop.{Stop}
use Rattle.ytt_base.specs.declared.fault.Stop.TheVariants as stop
use Rattle.ytt_base.specs.declared.fault.FaultKind.TheVariants as kind
use Rattle.ytt_base.specs.declared.fault.Place.{Place}
use Rattle.ytt_base.specs.Outcomes.{fault_at}
use Rattle.star_values.specs.declared.object.ArenaStop.{ArenaStop}
use Rattle.star_values.specs.declared.object.ArenaStop.TheVariants as arena_stop
use Rattle.value_spec.specs.Outcomes.{State, Ending, done, bad}
use Rattle.value_spec.specs.Values as plain
use Rattle.star_values.specs.Owns.{Owns, Grows}
use Rattle.star_values.specs.View.{View, value_of}
use Rattle.star_values.specs.declared.value.Value.{Value}

-- the state with an arena's objects and so many steps left, which no host takes part in
abbrev pub state_in : View → (steps : ℕ) → State (Unit {0})
state_in a n = record { store = a.store; steps = n; host = tt }

-- What a call returned, seen by view, in the state that it leaves, is how the computation ends; want of memory says
-- nothing.
abbrev pub Meets : {A B : Type 0} → (A → B) → Result A Stop → State (Unit {0}) → Ending (Unit {0}) B → Type 0
Meets view (Ok x) state ending = ending ≡ done (view x) state
Meets view (Err (stop.Fault f)) state ending = ending ≡ bad f state
Meets view (Err stop.Memory) state ending = Unit {0}

-- what is returned is seen as it is
abbrev pub as_is : {A : Type 0} → A → A
as_is x = x

-- the refusal of an arena's call, at a place
abbrev pub stop_of : Place → ArenaStop → Stop
stop_of p arena_stop.Frozen = stop.Fault (fault_at kind.Frozen p)
stop_of p arena_stop.Iterating = stop.Fault (fault_at kind.Iterating p)
stop_of p arena_stop.IndexRange = stop.Fault (fault_at kind.IndexRange p)
stop_of p arena_stop.KeyMissing = stop.Fault (fault_at kind.KeyMissing p)
stop_of p arena_stop.Memory = stop.Memory

-- The computation ends so: its value is owned by the arena that is left, which has grown from the one that was.
pub record Gives (ending : Ending (Unit {0}) plain.Value) (result : Result Value Stop) (a b : View) (steps : ℕ) : Type 0 where
  pub meaning : Meets (value_of b) result (state_in b steps) ending
  pub owns : IfOk result (Owns b)
  pub grows : Grows a b
