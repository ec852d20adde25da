-- What listing a file answers.
use Rattle.std.specs.Prelude.{◌≡◌, ℕ, Bool, true, List, [], ◌∷◌, Option, Result, Ok, Err, IfSome}
use Rattle.ytt_base.specs.declared.fault.Stop.{Stop}
use Rattle.ytt_base.specs.declared.fault.Stop.TheVariants as plain_stop
use Rattle.ytt_base.specs.Outcomes.{Outcome}
use Rattle.ytt_outside.specs.Counts.{Rose}
use Rattle.ytt_outside.specs.Standing.{Standing}
use Rattle.code_spec.specs.CodeReading.{CodeReader}
use Rattle.compile_spec.specs.Compiling.{is_compiled, items_asked, listing_of}
use Rattle.file_find.specs.declared.found.FindStop.{FindStop}
use Rattle.file_find.specs.declared.found.FindStop.TheVariants as find_stop
use Rattle.file_spec.specs.Names.{last_part}
use Rattle.file_spec.specs.Reading.{IsPathOfRun}
use Rattle.file_units.specs.declared.units.RenderStop.{RenderStop}
use Rattle.file_units.specs.declared.units.RenderStop.TheVariants as stop
use Rattle.star_grammar.specs.CodeReaders.{IsCodeReader, MeansCode}
use Rattle.template_spec.specs.ControlWords.{WordsStand, free}
use Rattle.template_spec.specs.Template.{Items}

abbrev pub Tree : Type 0
Tree = List ℕ → Standing

-- A text is the listing of the program of these items, in which no word leaves a node.
pub record IsListingOf (t : Items) (text : List ℕ) : Type 0 where
  pub text_is : text ≡ listing_of t
  pub words_stand : WordsStand free t

-- What a call returned is the listing of what each reader of code gives, or the fault that each gives; want of memory says nothing.
abbrev pub Lists : Result (List ℕ) Stop → (CodeReader → Outcome Items) → Type 0
Lists (Ok text) outcome = (t : Items) × MeansCode outcome (Ok t) × IsListingOf t text
Lists (Err (plain_stop.Fault f)) outcome = MeansCode outcome (Err f)
Lists (Err plain_stop.Memory) outcome = Unit {0}

-- ---- a file

-- the items of the file at a path, as each reader gives them
abbrev pub items_at : (ignore_unknown : Bool) → (path : List ℕ) → Tree → CodeReader → Outcome Items
items_at ignore path tree r = (items_asked r ignore path tree).outcome

-- a listing is that of the file's items; where the tree is told, each reader gives these
abbrev pub ListsAt : (ignore_unknown : Bool) → (path : List ℕ) → Option Tree → List ℕ → Type 0
ListsAt ignore path tree text = (t : Items) × IfSome tree (λ s. MeansCode (items_at ignore path s) (Ok t)) × IsListingOf t text

abbrev pub ListsFile : (ignore_unknown : Bool) → (path : List ℕ) → Option Tree → Result (List ℕ) FindStop → Type 0
ListsFile ignore path tree (Ok text) = ListsAt ignore path tree text
ListsFile ignore path tree (Err (find_stop.Fault f)) = IfSome tree (λ s. MeansCode (items_at ignore path s) (Err f))
ListsFile ignore path tree (Err (find_stop.ReadFailed at)) = is_compiled (last_part path) ≡ true
ListsFile ignore path tree (Err find_stop.Memory) = Unit {0}

-- the same with the name of the file
abbrev pub ListsFound : (ignore_unknown : Bool) → (path : List ℕ) → Option Tree → Result (List ℕ) RenderStop → Type 0
ListsFound ignore path tree (Ok text) = ListsAt ignore path tree text
ListsFound ignore path tree (Err (stop.Refused f names)) = (names ≡ last_part path ∷ []) × IfSome tree (λ s. MeansCode (items_at ignore path s) (Err f))
ListsFound ignore path tree (Err (stop.ReadFailed at)) = Unit {0}
ListsFound ignore path tree (Err stop.Memory) = Unit {0}

-- the files' count rose where they failed, at a path that the command asks for, and else stands as it was
abbrev pub HasListCause : (ignore_unknown : Bool) → (path : List ℕ) → Option Tree → (before now : ℕ) → Result (List ℕ) RenderStop → Type 0
HasListCause ignore path tree before now (Ok text) = now ≡ before
HasListCause ignore path tree before now (Err (stop.Refused f names)) = now ≡ before
HasListCause ignore path tree before now (Err (stop.ReadFailed at)) = Rose before now × ((r : CodeReader) → IsCodeReader r → IsPathOfRun (path ∷ []) (λ s. (items_asked r ignore path s).asks) tree at)
HasListCause ignore path tree before now (Err stop.Memory) = Unit {0}
