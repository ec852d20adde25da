-- What it says that programs that load one another run as their files are built.
use Rattle.std.specs.Prelude.{◌≡◌, ℕ, List, Option, Some, Ok}
use Rattle.star_grammar.specs.CodeReaders.{ReadsFileAs}
use Rattle.code_spec.specs.Blocks.{Ops, blocks}
use Rattle.code_spec.specs.Program.{Instruction}
use Rattle.star_spec.specs.Hosts.{Answers}
use Rattle.template_meaning.specs.Meaning.{AllStand}
use Rattle.template_spec.specs.Compiled.{compiled}
use Rattle.template_spec.specs.ControlWords.{WordsStand, free}
use Rattle.template_spec.specs.Numbered.{numbered_program}
use Rattle.template_spec.specs.Template.{Items}
use Rattle.value_spec.specs.Outcomes.{State}
use Rattle.world_spec.specs.Held.{AreUnits, HeldUnit, blocks_held, units_seen}
use Rattle.world_spec.specs.Parts.{Budget, units_meaning, units_run}
use Rattle.world_spec.specs.StarFiles.{AreCode, ops_items}
use Rattle.world_spec.specs.Units.{FileUnit, items_at}
use Rattle.world_spec.specs.Worlds.{Kept, table_of, unit_meaning, unit_run}

-- The blocks of each file's program are those of its items compiled, in which no word leaves a node.
pub record AreProgramsOf (files : ℕ → Items) (blocks_at : ℕ → Option Ops) : Type 0 where
  pub blocks_are : (f : ℕ) → blocks_at f ≡ blocks (compiled (files f))
  pub words_stand : AllStand files

-- Files that load one another run as they are built, for each host and every state of it.
abbrev pub LoadsRunAsBuilt : Type 0 → Type 0
LoadsRunAsBuilt G =
    (answers : Answers G) (names : List (List ℕ)) (files : ℕ → Items) (blocks_at : ℕ → Option Ops) → AreProgramsOf files blocks_at →
    (d n f : ℕ) (s : State (Kept G)) → unit_run answers names (table_of blocks_at) blocks_at d n f s ≡ unit_meaning answers names files d n f s

-- So do the units of a request.
abbrev pub UnitsRunAsBuilt : Type 0
UnitsRunAsBuilt = (budget : Budget) (us : List FileUnit) (blocks_at : ℕ → Option Ops) → AreProgramsOf (items_at us) blocks_at → units_run budget blocks_at us ≡ units_meaning budget us

-- ---- files of code

-- The items of blocks of code have these blocks as their program.
abbrev pub CodeIsCompiled : Type 0
CodeIsCompiled = (os : Ops) → AreCode os → blocks (compiled (ops_items os)) ≡ Some os

-- No word leaves a node in them, whatever they are.
abbrev pub CodeStands : Type 0
CodeStands = (os : Ops) → WordsStand free (ops_items os)

-- what the statements of a file are
pub record AreCodeBlocks (is : List Instruction) : Type 0 where
  pub ops : Ops
  pub blocks_are : blocks (numbered_program is) ≡ Some ops
  pub code : AreCode ops

-- what the grammar reads of a file has blocks of code
abbrev pub ReadFilesAreCode : Type 0
ReadFilesAreCode = (n : ℕ) (text : List ℕ) (is : List Instruction) → ReadsFileAs n text (Ok is) → AreCodeBlocks is

-- ---- reading, and then running

-- Units that are held run as the files mean that they are read from.
abbrev pub HeldRunAsMeant : Type 0
HeldRunAsMeant = (budget : Budget) (us : List FileUnit) (hs : List HeldUnit) → AreUnits 1 us hs → units_run budget (blocks_held hs) (units_seen hs) ≡ units_meaning budget us
