-- The programs of a template, pass by pass.
use Rattle.std.specs.Prelude.{◌≡◌, List, Result, Ok, Err}
use Rattle.ytt_base.specs.declared.fault.Stop.{Stop}
use Rattle.ytt_base.specs.declared.fault.Stop.TheVariants as stop
use Rattle.ytt_base.specs.Outcomes.{and_then}
use Rattle.code_spec.specs.Program.{Instruction}
use Rattle.passes_spec.specs.Passes.{all_built, bound, texts_passed}
use Rattle.star_grammar.specs.CodeReaders.{MeansCode}
use Rattle.star_resolve.specs.declared.binding.Resolved.{Resolved}
use Rattle.star_spec.specs.Calls.{Host}
use Rattle.star_spec.specs.Eval.{starlark}
use Rattle.star_tree.specs.declared.code.Program.{Program}
use Rattle.star_tree.specs.Whole.{program_of}
use Rattle.template_meaning.specs.Meaning.{Agrees}
use Rattle.template_spec.specs.Compiled.{compiled}
use Rattle.template_spec.specs.ControlWords.{WordsStand, free}
use Rattle.template_spec.specs.Numbered.{numbered}
use Rattle.template_spec.specs.Template.{Items}
use Rattle.text_template_spec.specs.TextTemplates.{with_texts}

-- The instructions are those of a template with its text templates, whichever reader reads their code.
pub record IsCode (t : Items) (is : List Instruction) : Type 0 where
  pub whole : Items
  pub texts : MeansCode (λ r. with_texts r t) (Ok whole)
  pub code : is ≡ compiled (numbered whole)

-- they are; or the fault is the first of its text templates. Want of memory says nothing.
abbrev pub HasCode : Items → Result Program Stop → Type 0
HasCode t (Ok p) = IsCode t (program_of p)
HasCode t (Err (stop.Fault f)) = MeansCode (λ r. with_texts r t) (Err f)
HasCode t (Err stop.Memory) = Unit {0}

-- so where all names are bound
pub record IsBound (t : Items) (is : List Instruction) : Type 0 where
  pub code : IsCode t is
  pub known : bound code.whole ≡ Ok code.whole

abbrev pub HasNames : Items → Result Resolved Stop → Type 0
HasNames t (Ok q) = IsBound t (program_of q.program)
HasNames t (Err (stop.Fault f)) = MeansCode (λ r. and_then bound (with_texts r t)) (Err f)
HasNames t (Err stop.Memory) = Unit {0}

-- So where all is built too. The program runs as the template is built, in which no control word leaves a node where none did before.
pub record IsProgramOf (t : Items) (is : List Instruction) : Type 0 where
  pub code : IsCode t is
  pub passes : and_then all_built (bound code.whole) ≡ Ok code.whole
  pub words : WordsStand free t → WordsStand free code.whole
  pub runs : (host : Host (Unit {0})) → WordsStand free code.whole → Agrees starlark host is (numbered code.whole)

abbrev pub Compiles : Items → Result Resolved Stop → Type 0
Compiles t (Ok q) = IsProgramOf t (program_of q.program)
Compiles t (Err (stop.Fault f)) = MeansCode (λ r. texts_passed r t) (Err f)
Compiles t (Err stop.Memory) = Unit {0}
