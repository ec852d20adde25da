-- Refusals of a reader: a kind of fault at a place, without a detail.
use Rattle.std.specs.Prelude.{ℕ, ◌+◌, Err}
use Rattle.ytt_base.specs.declared.fault.FaultKind.{FaultKind}
use Rattle.ytt_base.specs.declared.fault.Place.{Place}
use Rattle.ytt_base.specs.Outcomes.{Outcome, fault_at, first_place, place_at}

-- nothing but a fault of this kind at this place
abbrev pub refused : {A : Type 0} → FaultKind → Place → Outcome A
refused kind place = Err (fault_at kind place)

-- the place so many lines below
abbrev pub place_below : Place → ℕ → Place
place_below place n = place_at place.file (place.line + n)

-- a place that shows in nothing, where only one line is looked at and no fault of it counts
abbrev pub nowhere : Place
nowhere = first_place
