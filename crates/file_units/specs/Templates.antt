-- What compiling a template's documents answers.
use Rattle.std.specs.Prelude.{◌≡◌, ℕ, Result, Ok, Err}
use Rattle.ytt_base.specs.declared.fault.Stop.{Stop}
use Rattle.ytt_base.specs.declared.fault.Stop.TheVariants as stop
use Rattle.ytt_base.specs.Outcomes.{Outcome}
use Rattle.code_spec.specs.CodeReading.{CodeReader}
use Rattle.code_spec.specs.Scopes.{program_names}
use Rattle.star_grammar.specs.CodeReaders.{MeansCode}
use Rattle.star_resolve.specs.Variables.{each_once}
use Rattle.star_resolve.specs.declared.binding.Resolved.{Resolved}
use Rattle.star_tree.specs.Whole.{program_of}
use Rattle.template_spec.specs.Compiled.{compiled}
use Rattle.template_spec.specs.ControlWords.{WordsStand, free}
use Rattle.template_spec.specs.Template.{Items}

-- A program in the file of this number that is these items compiled, in which no word leaves a node; its scope has each name that they
-- bind, once.
pub record IsCompiled (n : ℕ) (t : Items) (q : Resolved) : Type 0 where
  pub file_is : q.program.file ≡ n
  pub code : program_of q.program ≡ compiled t
  pub words_stand : WordsStand free t
  pub globals : q.globals ≡ each_once (program_names (program_of q.program))

-- What a call returned is the program of what each reader of code gives, or the fault that each gives; want of memory says nothing.
abbrev pub CompilesItems : (n : ℕ) → Result Resolved Stop → (CodeReader → Outcome Items) → Type 0
CompilesItems n (Ok q) outcome = (t : Items) × MeansCode outcome (Ok t) × IsCompiled n t q
CompilesItems n (Err (stop.Fault f)) outcome = MeansCode outcome (Err f)
CompilesItems n (Err stop.Memory) outcome = Unit {0}
