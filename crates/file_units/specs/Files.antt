-- What reading one file, and one file after another, answers.
use Rattle.std.specs.Prelude.{◌≡◌, ℕ, ◌-◌, Bool, List, length, if◌then◌else◌, Option, Some, None, Result, Ok, Err, IfSome}
use Rattle.ytt_base.specs.declared.fault.Stop.{Stop}
use Rattle.ytt_base.specs.declared.fault.Stop.TheVariants as plain_stop
use Rattle.ytt_base.specs.Outcomes.{Outcome, ◌>>=◌}
use Rattle.code_spec.specs.CodeReading.{CodeReader}
use Rattle.file_find.specs.Comes.{HasPath}
use Rattle.file_find.specs.declared.found.FindStop.{FindStop}
use Rattle.file_find.specs.declared.found.FindStop.TheVariants as find_stop
use Rattle.file_spec.specs.Asked.{AsksFor}
use Rattle.file_spec.specs.Finding.{FoundFile}
use Rattle.file_spec.specs.Reading.{bytes_within, limit_of}
use Rattle.star_functions.specs.declared.programs.FileBlock.{FileBlock}
use Rattle.star_grammar.specs.CodeReaders.{IsCodeReader, MeansCode}
use Rattle.template_spec.specs.Template.{no_items}
use Rattle.world_spec.specs.Held.{Holds}
use Rattle.world_spec.specs.Units.{FileUnit, Role, Source, code, code_source, loaded, names_of, plain, template, template_items, unit_of, unit_read}
use Rattle.yaml_spec.specs.Noted.{Documents, has_code}
use Rattle.yaml_spec.specs.Read.{plain_trees}
use Rattle.ytt_spec.specs.Meaning.{AreRead, files_read, found_names}
use Rattle.file_units.specs.Held.{AreHeld, IsHeld, IsWhole, code_in, role_in}
use Rattle.file_units.specs.declared.units.Content.{Content}
use Rattle.file_units.specs.declared.units.Content.TheVariants as content
use Rattle.file_units.specs.declared.units.HeldFile.{HeldFile}
use Rattle.file_units.specs.declared.units.HeldFiles.{HeldFiles}
use Rattle.file_units.specs.declared.units.RenderStop.{RenderStop}
use Rattle.file_units.specs.declared.units.RenderStop.TheVariants as stop
use Rattle.file_units.specs.declared.units.Units.{Units}
use Rattle.file_units.specs.Reads.{Tree}

-- ---- the source of a file

-- a library of YAML is only loaded
abbrev pub role_for : (is_library : Bool) → Role
role_for b = if b then loaded else template

-- what code gives, whose scope has these names
abbrev pub content_for : (is_library : Bool) → List (List ℕ) → Content
content_for b names = if b then content.Library names else content.Template names

-- YAML without code
abbrev pub plain_for : (is_library : Bool) → Documents → Outcome Source
plain_for b ds = if b then Ok (code no_items) else (plain_trees ds >>= λ ts. Ok (plain ts))

-- YAML
abbrev pub yaml_for : CodeReader → (ignore_unknown : Bool) → (number : ℕ) → (is_library : Bool) → Documents → Outcome Source
yaml_for r ignore n b ds = if has_code ds then code_source (template_items r ignore n ds) else plain_for b ds

-- what is held is held of what each reader of code gives, and is for this; or the fault is that which each gives
abbrev pub ReadsSource : (n : ℕ) → Role → Result HeldFile Stop → (CodeReader → Outcome Source) → Type 0
ReadsSource n role (Ok h) outcome = (s : Source) × MeansCode outcome (Ok s) × (role_in h.content ≡ role) × Holds n s (code_in h.block h.content)
ReadsSource n role (Err (plain_stop.Fault f)) outcome = MeansCode outcome (Err f)
ReadsSource n role (Err plain_stop.Memory) outcome = Unit {0}

-- a file has its number, and is whole
abbrev pub IsWholeAs : (n : ℕ) → HeldFile → Type 0
IsWholeAs n h = (h.block.file ≡ n) × IsWhole h.block h.content

-- ---- one file

-- what was read within what was left, and what is left behind it
pub record IsRead (ignore : Bool) (n : ℕ) (f : FoundFile) (before now : ℕ) (tree : Option Tree) (h : HeldFile) : Type 0 where
  pub bytes : List ℕ
  pub source : Source
  pub told : IfSome tree (λ t. bytes_within (limit_of before) f.path (t f.path) ≡ Ok bytes)
  pub left : now ≡ before - length bytes
  pub means : MeansCode (λ r. unit_read r ignore n f bytes) (Ok (unit_of f source))
  pub held : IsHeld n (unit_of f source) h.block h.content

-- its bytes, and what they mean
abbrev pub file_read : CodeReader → (ignore_unknown : Bool) → (n : ℕ) → FoundFile → (left : ℕ) → Tree → Outcome FileUnit
file_read r ignore n f left t = bytes_within (limit_of left) f.path (t f.path) >>= unit_read r ignore n f

abbrev pub ReadsFile : (ignore_unknown : Bool) → (n : ℕ) → FoundFile → (before now : ℕ) → Option Tree → Result HeldFile FindStop → Type 0
ReadsFile ignore n f before now tree (Ok h) = IsRead ignore n f before now tree h
ReadsFile ignore n f before now tree (Err (find_stop.Fault e)) = IfSome tree (λ t. MeansCode (λ r. file_read r ignore n f before t) (Err e))
ReadsFile ignore n f before now tree (Err (find_stop.ReadFailed path)) = Unit {0}
ReadsFile ignore n f before now tree (Err find_stop.Memory) = Unit {0}

-- ---- one after another

-- what is held is held of units that were read of these files
pub record AreFilesRead (ignore : Bool) (fs : List FoundFile) (tree : Option Tree) (blocks : List FileBlock) (contents : List Content) : Type 0 where
  pub units : List FileUnit
  pub read : AreRead ignore 1 units
  pub are_held : AreHeld 1 units blocks contents
  pub names_are : names_of units ≡ found_names fs
  pub told : IfSome tree (λ t. MeansCode (λ r. (files_read r ignore t fs).outcome) (Ok units))

abbrev pub RefusesFiles : (ignore_unknown : Bool) → List FoundFile → Option Tree → Outcome (List FileUnit) → Type 0
RefusesFiles ignore fs tree o = IfSome tree (λ t. MeansCode (λ r. (files_read r ignore t fs).outcome) o)

abbrev pub ReadsFiles : (ignore_unknown : Bool) → List FoundFile → Option Tree → Result HeldFiles FindStop → Type 0
ReadsFiles ignore fs tree (Ok held) = AreFilesRead ignore fs tree held.blocks held.contents
ReadsFiles ignore fs tree (Err (find_stop.Fault e)) = RefusesFiles ignore fs tree (Err e)
ReadsFiles ignore fs tree (Err (find_stop.ReadFailed path)) = Unit {0}
ReadsFiles ignore fs tree (Err find_stop.Memory) = Unit {0}

-- the same with the names of the files
abbrev pub ReadsFound : (ignore_unknown : Bool) → List FoundFile → Option Tree → Result Units RenderStop → Type 0
ReadsFound ignore fs tree (Ok held) = AreFilesRead ignore fs tree held.files held.contents × (held.names ≡ found_names fs)
ReadsFound ignore fs tree (Err (stop.Refused f names)) = (names ≡ found_names fs) × RefusesFiles ignore fs tree (Err f)
ReadsFound ignore fs tree (Err (stop.ReadFailed path)) = Unit {0}
ReadsFound ignore fs tree (Err stop.Memory) = Unit {0}

-- where the tree is told, reading asks for this path; and where it isn't, a file was found at it
abbrev pub IsReached : (ignore_unknown : Bool) → List FoundFile → Option Tree → (path : List ℕ) → Type 0
IsReached ignore fs None path = HasPath path fs
IsReached ignore fs (Some t) path = (r : CodeReader) → IsCodeReader r → AsksFor path (files_read r ignore t fs).asks
