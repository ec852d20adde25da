-- What the call for a request answers.
use Rattle.std.specs.Prelude.{◌≡◌, List, ℕ, Result, Ok, Err}
use Rattle.ytt_base.specs.View.{trees_of}
use Rattle.ytt_base.specs.declared.tree.Tree.{Tree}
use Rattle.file_units.specs.declared.units.RenderStop.{RenderStop}
use Rattle.file_units.specs.declared.units.RenderStop.TheVariants as stop
use Rattle.world_spec.specs.Parts.{Budget, units_meaning}
use Rattle.world_spec.specs.Units.{FileUnit}
use Rattle.ytt_spec.specs.Meaning.{Meant, documents}

-- What was answered is a meaning of which this holds, unless the files failed or there was no room.
abbrev pub Renders : (Meant → Type 0) → Result (List Tree) RenderStop → Type 0
Renders IsMeaning (Ok trees) = IsMeaning (Ok (documents (trees_of trees)))
Renders IsMeaning (Err (stop.Refused f names)) = IsMeaning (Err (record { fault = f; names = names }))
Renders IsMeaning (Err (stop.ReadFailed path)) = Unit {0}
Renders IsMeaning (Err stop.Memory) = Unit {0}

-- the documents of units, or their first fault with these names, unless there was no room
abbrev pub RendersUnits : Budget → List FileUnit → (names : List (List ℕ)) → Result (List Tree) RenderStop → Type 0
RendersUnits budget us names (Ok trees) = units_meaning budget us ≡ Ok (trees_of trees)
RendersUnits budget us names (Err (stop.Refused f held)) = (units_meaning budget us ≡ Err f) × (held ≡ names)
RendersUnits budget us names (Err (stop.ReadFailed path)) = ⊥
RendersUnits budget us names (Err stop.Memory) = Unit {0}
