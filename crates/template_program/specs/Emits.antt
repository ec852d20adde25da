-- What is put behind the instructions of a program, with the numbers of its functions.
use Rattle.std.specs.Prelude.{◌≡◌, ℕ, List, ◌∷◌, ◌++◌, Option, Result, Ok, Err}
use Rattle.ytt_base.specs.declared.fault.Stop.{Stop}
use Rattle.ytt_base.specs.declared.fault.Stop.TheVariants as stop
use Rattle.ytt_base.specs.Outcomes.{Outcome}
use Rattle.code_spec.specs.CodeReading.{CodeReader}
use Rattle.code_spec.specs.Program.{Instruction}
use Rattle.star_grammar.specs.CodeReaders.{IsCodeReader}
use Rattle.star_tree.specs.declared.code.Expr.{Expr}
use Rattle.star_tree.specs.declared.code.Stmt.{Stmt}
use Rattle.star_tree.specs.Whole.{instruction_of, instructions_of}
use Rattle.template_spec.specs.Numbered.{number_instruction, number_program}
use Rattle.template_spec.specs.Template.{Content}
use Rattle.template_tree.specs.declared.tree.TContent.{TContent}
use Rattle.template_tree.specs.View.{content_of, in_content}

-- a statement is this instruction with the numbers of its functions, from `first` on, and `next` is the number behind them
abbrev pub Numbered : (file : ℕ) → Stmt → (first next : ℕ) → Instruction → Type 0
Numbered file s first next i = record { result = instruction_of file s; next = next } ≡ number_instruction i first

-- instructions in a file of this number, and behind them others with the numbers of their functions, from `next` on
abbrev pub followed : (file : ℕ) → List Stmt → (next : ℕ) → List Instruction → List Instruction
followed file code next is = instructions_of file code ++ (number_program is next).result

-- Behind the old instructions, in a file of this number, are those that `code` puts in front of any that follow, with the numbers of
-- their functions, from `first` on; in what follows the numbers go on from `next`.
pub record Emits (file : ℕ) (old new : List Stmt) (first next : ℕ) (code : List Instruction → List Instruction) : Type 0 where
  pub emitted : (is : List Instruction) → followed file new next is ≡ followed file old first (code is)

-- one instruction, in front of what follows
abbrev pub EmitsOne : (file : ℕ) → (old new : List Stmt) → (first next : ℕ) → Instruction → Type 0
EmitsOne file old new first next i = Emits file old new first next (λ is. i ∷ is)

-- Behind the old instructions are those of what each reader of code gives, with the numbers of their functions; or the fault is the first
-- that each meets. Want of memory says nothing.
abbrev pub EmitsBy : {A : Type 0} → (file : ℕ) → (old new : List Stmt) → (first next : ℕ) → (code : A → List Instruction → List Instruction) → Result (Unit {0}) Stop → Outcome A → Type 0
EmitsBy {A} file old new first next code (Ok u) outcome = (x : A) × (outcome ≡ Ok x) × Emits file old new first next (code x)
EmitsBy file old new first next code (Err (stop.Fault f)) outcome = outcome ≡ Err f
EmitsBy file old new first next code (Err stop.Memory) outcome = Unit {0}

abbrev pub EmitsCode : {A : Type 0} → (file : ℕ) → (old new : List Stmt) → (first next : ℕ) → (code : A → List Instruction → List Instruction) → Result (Unit {0}) Stop → (CodeReader → Outcome A) → Type 0
EmitsCode file old new first next code result outcome = (r : CodeReader) → IsCodeReader r → EmitsBy file old new first next code result (outcome r)

-- what stands in a node of a file: what is written there, or the value expression beside it
abbrev pub content_in : (file : ℕ) → Option Expr → TContent → Content
content_in file value written = in_content file value (content_of file written)
