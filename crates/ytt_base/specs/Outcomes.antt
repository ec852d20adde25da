-- What reading a part gives: a value, or the first fault.
use Rattle.std.specs.Prelude.{◌≡◌, ℕ, [], Some, None, Result, Ok, Err}
use Rattle.ytt_base.specs.declared.fault.Fault.{Fault}
use Rattle.ytt_base.specs.declared.fault.FaultKind.{FaultKind}
use Rattle.ytt_base.specs.declared.fault.Place.{Place}
use Rattle.ytt_base.specs.declared.fault.Stop.{Stop}
use Rattle.ytt_base.specs.declared.fault.Stop.TheVariants as stop

abbrev pub Outcome : Type 0 → Type 0
Outcome A = Result A Fault

abbrev pub and_then : {A B : Type 0} → (A → Outcome B) → Outcome A → Outcome B
and_then f (Ok x) = f x
and_then f (Err e) = Err e

infixl 10 ◌>>=◌
-- what is read next; the first fault is the answer
abbrev pub ◌>>=◌ : {A B : Type 0} → Outcome A → (A → Outcome B) → Outcome B
o >>= f = and_then f o

abbrev pub place_at : ℕ → ℕ → Place
place_at file line = record { file = file; line = line }

-- where the first file begins
abbrev pub first_place : Place
first_place = place_at 1 1

-- a fault at a place, without a detail
abbrev pub fault_at : FaultKind → Place → Fault
fault_at kind place = record { kind = kind; place = Some place; detail = [] }

-- a fault of no place, without a detail
abbrev pub fault_of : FaultKind → Fault
fault_of kind = record { kind = kind; place = None; detail = [] }

-- What a call returned, seen by view, is the outcome; want of memory says nothing.
abbrev pub Gives : {X Y : Type 0} → (X → Y) → Result X Stop → Outcome Y → Type 0
Gives view (Ok x) outcome = outcome ≡ Ok (view x)
Gives view (Err (stop.Fault f)) outcome = outcome ≡ Err f
Gives view (Err stop.Memory) outcome = Unit {0}
