-- The state that a run is in, and what a call does to it.
use Rattle.std.specs.Prelude.{◌≡◌, ℕ, Result, Ok, Err, Some}
use Rattle.ytt_base.specs.declared.fault.Stop.{Stop}
use Rattle.ytt_base.specs.declared.fault.Stop.TheVariants as stop
use Rattle.value_spec.specs.Outcomes.{State, Computation, on_store}
use Rattle.value_spec.specs.Store.{begin_loop, end_loop}
use Rattle.value_spec.specs.Values as plain
use Rattle.star_values.specs.Objects.{seen}
use Rattle.star_values.specs.Owns.{Grows}
use Rattle.star_values.specs.View.{View}
use Rattle.star_values.specs.declared.value.Value.{Value}
use Rattle.star_steps.specs.Meets.{Gives, Meets, as_is, state_in}
use Rattle.star_eval.specs.declared.session.Session.{Session}

-- no host takes part in what the machine does: where one is asked, its loop asks it
abbrev pub Here : Type 0
Here = Unit {0}

-- the state without objects and with so many steps left
abbrev pub in_store : plain.Store → (steps : ℕ) → State Here
in_store store n = record { store = store; steps = n; host = tt }

-- what is seen of a session's arena
abbrev pub arena_of : Session → View
arena_of session = seen session.arena

-- the state that a session is
abbrev pub state_of : Session → State Here
state_of session = state_in (arena_of session) session.work.steps

-- What a call returned, seen by view, in the session that it leaves, is how the computation ends in the one before it;
-- want of memory says nothing.
abbrev pub Does : {A B : Type 0} → (A → B) → Result A Stop → (after before : Session) → Computation Here B → Type 0
Does view result after before m = Meets view result (state_of after) (m (state_of before))

-- a call gives the value of a computation, or ends as it does
abbrev pub GivesFrom : Computation Here plain.Value → Result Value Stop → (after before : Session) → Type 0
GivesFrom m result after before = Gives (m (state_of before)) result (arena_of before) (arena_of after) after.work.steps

-- what holds of each result but want of memory
abbrev pub UnlessMemory : {A : Type 0} → Result A Stop → Type 0 → Type 0
UnlessMemory (Ok x) holds = holds
UnlessMemory (Err (stop.Fault f)) holds = holds
UnlessMemory (Err stop.Memory) holds = Unit {0}

-- a call does what a computation does, and what is held in the arena stays the same
pub record Acts (m : Computation Here Here) (result : Result Here Stop) (after before : Session) : Type 0 where
  pub meaning : Does as_is result after before m
  pub held : (arena_of after).held ≡ (arena_of before).held
  pub grows : Grows (arena_of before) (arena_of after)

-- one more loop walks an object, and what is held in the arena stays the same
pub record Begins (object : ℕ) (after before : Session) : Type 0 where
  pub state : state_of after ≡ on_store (begin_loop (Some object)) (state_of before)
  pub held : (arena_of after).held ≡ (arena_of before).held
  pub grows : Grows (arena_of before) (arena_of after)

-- one loop less does
pub record Ends (object : ℕ) (after before : Session) : Type 0 where
  pub state : state_of after ≡ on_store (end_loop (Some object)) (state_of before)
  pub held : (arena_of after).held ≡ (arena_of before).held
  pub grows : Grows (arena_of before) (arena_of after)
