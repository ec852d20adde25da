-- The line that reports a fault: `error: KIND at FILE:LINE: DETAIL`.
use Rattle.std.specs.Prelude.{ℕ, ◌-◌, ◌==◌, List, [], ◌∷◌, ◌++◌, Option, Some, None, codes, decimal, slice_get, if◌then◌else◌}
use Rattle.std.specs.Option.{option_map_or}
use Rattle.ytt_base.specs.declared.fault.Place.{Place}
use Rattle.ytt_base.specs.declared.fault.Fault.{Fault}
use Rattle.ytt_base.specs.declared.fault.FaultKind.{FaultKind}
use Rattle.ytt_base.specs.declared.fault.FaultKind.TheVariants as kind

-- a kind is shown by its name
abbrev pub kind_name : FaultKind → List ℕ
kind_name kind.FileMissing = codes "FileMissing"
kind_name kind.FileTooLarge = codes "FileTooLarge"
kind_name kind.TooManyFiles = codes "TooManyFiles"
kind_name kind.NotUtf8 = codes "NotUtf8"
kind_name kind.BadChar = codes "BadChar"
kind_name kind.YamlForm = codes "YamlForm"
kind_name kind.YamlTab = codes "YamlTab"
kind_name kind.YamlDepth = codes "YamlDepth"
kind_name kind.KeyTwice = codes "KeyTwice"
kind_name kind.FloatScalar = codes "FloatScalar"
kind_name kind.IntWide = codes "IntWide"
kind_name kind.YamlOut = codes "YamlOut"
kind_name kind.PlainComment = codes "PlainComment"
kind_name kind.NoteForm = codes "NoteForm"
kind_name kind.NoteUnknown = codes "NoteUnknown"
kind_name kind.BlockOpen = codes "BlockOpen"
kind_name kind.BlockCrossed = codes "BlockCrossed"
kind_name kind.BlockStray = codes "BlockStray"
kind_name kind.CodeForm = codes "CodeForm"
kind_name kind.NameUnknown = codes "NameUnknown"
kind_name kind.NameUnset = codes "NameUnset"
kind_name kind.ValueKind = codes "ValueKind"
kind_name kind.IndexRange = codes "IndexRange"
kind_name kind.KeyMissing = codes "KeyMissing"
kind_name kind.IntOverflow = codes "IntOverflow"
kind_name kind.DivideZero = codes "DivideZero"
kind_name kind.FloatRefused = codes "FloatRefused"
kind_name kind.Frozen = codes "Frozen"
kind_name kind.Iterating = codes "Iterating"
kind_name kind.ArgBind = codes "ArgBind"
kind_name kind.Failed = codes "Failed"
kind_name kind.AssertFailed = codes "AssertFailed"
kind_name kind.TooDeep = codes "TooDeep"
kind_name kind.Steps = codes "Steps"
kind_name kind.Depth = codes "Depth"
kind_name kind.LoadMissing = codes "LoadMissing"
kind_name kind.LoadCycle = codes "LoadCycle"
kind_name kind.LoadPrivate = codes "LoadPrivate"
kind_name kind.NotYaml = codes "NotYaml"
kind_name kind.FragmentMixed = codes "FragmentMixed"
kind_name kind.SchemaForm = codes "SchemaForm"
kind_name kind.DataMismatch = codes "DataMismatch"
kind_name kind.DataUnknownKey = codes "DataUnknownKey"
kind_name kind.OverlayForm = codes "OverlayForm"
kind_name kind.OverlayExpects = codes "OverlayExpects"
kind_name kind.OverlayAssert = codes "OverlayAssert"
kind_name kind.CutsCharacter = codes "CutsCharacter"
kind_name kind.TextForm = codes "TextForm"
kind_name kind.MixedFile = codes "MixedFile"
kind_name kind.CodecForm = codes "CodecForm"
kind_name kind.NotBuilt = codes "NotBuilt"
kind_name kind.ValidationFailed = codes "ValidationFailed"
kind_name kind.AliasForm = codes "AliasForm"
kind_name kind.AliasWide = codes "AliasWide"
kind_name kind.LibraryMissing = codes "LibraryMissing"

-- the name of a file, by its number from 1; a number of no file has none
abbrev pub name_at : List (List ℕ) → ℕ → Option (List ℕ)
name_at names file = if file == 0 then None else slice_get names (file - 1)

-- the file's name and the line, where the file has a name
abbrev pub line_text : List (List ℕ) → Place → List ℕ
line_text names p = option_map_or (λ name. codes " at " ++ name ++ codes ":" ++ decimal p.line) (name_at names p.file) []

-- the place, where there is one
abbrev pub place_text : List (List ℕ) → Option Place → List ℕ
place_text names None = []
place_text names (Some p) = line_text names p

-- the detail, where there is one
abbrev pub detail_text : List ℕ → List ℕ
detail_text [] = []
detail_text (b ∷ bs) = codes ": " ++ b ∷ bs

-- the line, with its line break
abbrev pub fault_line : List (List ℕ) → Fault → List ℕ
fault_line names f = codes "error: " ++ kind_name f.kind ++ place_text names f.place ++ detail_text f.detail ++ 10 ∷ []
