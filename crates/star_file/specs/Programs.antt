-- What reading a file of code gives.
use Rattle.std.specs.Prelude.{◌≡◌, ℕ, Result, Some, Ok, Err}
use Rattle.ytt_base.specs.declared.fault.Stop.{Stop}
use Rattle.ytt_base.specs.declared.fault.Stop.TheVariants as stop
use Rattle.ytt_base.specs.Outcomes.{Outcome}
use Rattle.code_spec.specs.Blocks.{Ops, blocks}
use Rattle.code_spec.specs.CodeReading.{CodeReader}
use Rattle.code_spec.specs.Scopes.{ops_names}
use Rattle.star_blocks.specs.Nested.{ops_of}
use Rattle.star_file.specs.declared.program.FileProgram.{FileProgram}
use Rattle.star_grammar.specs.CodeReaders.{MeansCode}
use Rattle.star_resolve.specs.Variables.{each_once}
use Rattle.star_tree.specs.declared.code.Program.{Program}
use Rattle.star_tree.specs.Whole.{program_of}
use Rattle.template_spec.specs.Template.{Items}
use Rattle.world_spec.specs.Held.{IsProgramFor}
use Rattle.world_spec.specs.StarFiles.{AreCode, ops_items}

-- the blocks of a file's program
abbrev pub blocks_in : FileProgram → Ops
blocks_in p = ops_of p.block.file p.block.block

-- A program of a file with this number, whose blocks are those of these items compiled, and whose scope has each name that the file
-- binds, once, in the order in which it first binds them.
pub record IsFileProgram (n : ℕ) (t : Items) (p : FileProgram) : Type 0 where
  pub program : IsProgramFor n t p.block.file (blocks_in p)
  pub globals : p.globals ≡ each_once (ops_names (blocks_in p))

-- What a call returned is a program of what each reader of code gives, or the fault that each gives; want of memory says nothing.
abbrev pub ReadsProgram : (n : ℕ) → Result FileProgram Stop → (CodeReader → Outcome Items) → Type 0
ReadsProgram n (Ok p) outcome = (t : Items) × MeansCode outcome (Ok t) × IsFileProgram n t p
ReadsProgram n (Err (stop.Fault f)) outcome = MeansCode outcome (Err f)
ReadsProgram n (Err stop.Memory) outcome = Unit {0}

-- Before the passes over names, the program has blocks of code, whose items each reader of code gives.
abbrev pub ReadsItems : Result Program Stop → (CodeReader → Outcome Items) → Type 0
ReadsItems (Ok p) outcome = (os : Ops) × AreCode os × (blocks (program_of p) ≡ Some os) × MeansCode outcome (Ok (ops_items os))
ReadsItems (Err (stop.Fault f)) outcome = MeansCode outcome (Err f)
ReadsItems (Err stop.Memory) outcome = Unit {0}
