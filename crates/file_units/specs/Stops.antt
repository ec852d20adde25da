-- Why there are no units, by why the files were not found or read.
use Rattle.std.specs.Prelude.{◌≡◌, ℕ, List, Result, Ok, Err}
use Rattle.ytt_outside.specs.Counts.{Rose}
use Rattle.file_find.specs.declared.found.FindStop.{FindStop}
use Rattle.file_find.specs.declared.found.FindStop.TheVariants as find_stop
use Rattle.file_units.specs.declared.units.RenderStop.{RenderStop}
use Rattle.file_units.specs.declared.units.RenderStop.TheVariants as stop

-- a fault may stand in the files of these names
abbrev pub stop_with : (names : List (List ℕ)) → FindStop → RenderStop
stop_with names (find_stop.Fault f) = stop.Refused f names
stop_with names (find_stop.ReadFailed path) = stop.ReadFailed path
stop_with names find_stop.Memory = stop.Memory

-- the files' count rose where they failed, at such a path, and else stands as it was
abbrev pub FailsAt : {A : Type 0} → (At : List ℕ → Type 0) → (before now : ℕ) → Result A FindStop → Type 0
FailsAt At before now (Ok a) = now ≡ before
FailsAt At before now (Err (find_stop.Fault f)) = now ≡ before
FailsAt At before now (Err (find_stop.ReadFailed path)) = Rose before now × At path
FailsAt At before now (Err find_stop.Memory) = Unit {0}

abbrev pub EndsAt : {A : Type 0} → (At : List ℕ → Type 0) → (before now : ℕ) → Result A RenderStop → Type 0
EndsAt At before now (Ok a) = now ≡ before
EndsAt At before now (Err (stop.Refused f names)) = now ≡ before
EndsAt At before now (Err (stop.ReadFailed path)) = Rose before now × At path
EndsAt At before now (Err stop.Memory) = Unit {0}
