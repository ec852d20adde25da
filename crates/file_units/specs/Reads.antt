-- What finding and reading answers.
use Rattle.std.specs.Prelude.{◌≡◌, ℕ, Bool, List, Option, Result, Ok, Err, IfSome}
use Rattle.ytt_outside.specs.Counts.{Rose}
use Rattle.ytt_outside.specs.Standing.{Standing}
use Rattle.file_spec.specs.Reading.{IsPathOfRun}
use Rattle.star_grammar.specs.CodeReaders.{IsCodeReader, MeansCode}
use Rattle.code_spec.specs.CodeReading.{CodeReader}
use Rattle.world_spec.specs.Units.{FileUnit, names_of}
use Rattle.ytt_spec.specs.Meaning.{AreRead, run_asks, units_found}
use Rattle.file_units.specs.Held.{AreHeld}
use Rattle.file_units.specs.declared.units.RenderStop.{RenderStop}
use Rattle.file_units.specs.declared.units.RenderStop.TheVariants as stop
use Rattle.file_units.specs.declared.units.Units.{Units}

abbrev pub Tree : Type 0
Tree = List ℕ → Standing

-- what is held is held of units that were read, which are those of the request where the tree is told
pub record HasUnits (ignore : Bool) (paths : List (List ℕ)) (tree : Option Tree) (held : Units) : Type 0 where
  pub units : List FileUnit
  pub read : AreRead ignore 1 units
  pub are_held : AreHeld 1 units held.files held.contents
  pub names_are : held.names ≡ names_of units
  pub found : IfSome tree (λ t. MeansCode (λ r. units_found r ignore paths t) (Ok units))

-- the units of these paths, or the first fault with the names of the files; a failure and want of memory say nothing
abbrev pub ReadsUnits : (ignore_unknown : Bool) → (paths : List (List ℕ)) → (tree : Option Tree) → Result Units RenderStop → Type 0
ReadsUnits ignore paths tree (Ok held) = HasUnits ignore paths tree held
ReadsUnits ignore paths tree (Err (stop.Refused f names)) = IfSome tree (λ t. MeansCode (λ r. units_found r ignore paths t) (Err (record { fault = f; names = names })))
ReadsUnits ignore paths tree (Err (stop.ReadFailed path)) = Unit {0}
ReadsUnits ignore paths tree (Err stop.Memory) = Unit {0}

-- the files' count rose where they failed, at a path that the run asks for, and else stands as it was
abbrev pub HasCause : {A : Type 0} → (ignore_unknown : Bool) → (paths : List (List ℕ)) → (tree : Option Tree) → (before now : ℕ) → Result A RenderStop → Type 0
HasCause ignore paths tree before now (Ok held) = now ≡ before
HasCause ignore paths tree before now (Err (stop.Refused f names)) = now ≡ before
HasCause ignore paths tree before now (Err (stop.ReadFailed path)) = Rose before now × ((r : CodeReader) → IsCodeReader r → IsPathOfRun paths (run_asks r ignore paths) tree path)
HasCause ignore paths tree before now (Err stop.Memory) = Unit {0}
