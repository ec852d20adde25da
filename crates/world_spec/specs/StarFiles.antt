-- A file of code is a template without nodes: its statements and blocks are items.
use Rattle.std.specs.Prelude.{◌≡◌, ℕ, List, [], ◌∷◌, ◌++◌, Option, Some, None, Ok, Err}
use Rattle.ytt_base.specs.declared.fault.FaultKind.TheVariants as kind
use Rattle.ytt_base.specs.declared.fault.Place.{Place}
use Rattle.ytt_base.specs.Outcomes.{Outcome, ◌>>=◌, fault_of}
use Rattle.code_spec.specs.Blocks.{Op, op_part, op_statement, op_if, op_for, op_def, Ops, no_ops, an_op, Arms, no_arm, else_arm, arm, blocks}
use Rattle.code_spec.specs.CodeReading.{CodeReader}
use Rattle.code_spec.specs.Program.{document_item, Instruction}
use Rattle.template_spec.specs.Numbered.{numbered_program}
use Rattle.template_spec.specs.Template.{code, if_block, for_block, def_block, Items, no_items, an_item, Branches, no_branch, else_branch, elif_branch}
use Rattle.yaml_spec.specs.Lines.{Line, Lines}

-- ---- blocks as items

-- a part of a node is no statement; there is none in a file of code
abbrev mutual
  pub op_item : Op → Items → Items
  op_item (op_part o) is = is
  op_item (op_statement s) is = an_item (code s) is
  op_item (op_if p arms) is = if_item p arms is
  op_item (op_for p x e body) is = an_item (for_block p x e (ops_items body)) is
  op_item (op_def p number fragment x ps body) is = an_item (def_block p number x ps document_item (ops_items body)) is

  pub ops_items : Ops → Items
  ops_items no_ops = no_items
  ops_items (an_op o os) = op_item o (ops_items os)

  pub if_item : Place → Arms → Items → Items
  if_item p no_arm is = is
  if_item p (else_arm os) is = is
  if_item p (arm e os more) is = an_item (if_block p e (ops_items os) (arms_branches p more)) is

  pub arms_branches : Place → Arms → Branches
  arms_branches p no_arm = no_branch
  arms_branches p (else_arm os) = else_branch p (ops_items os)
  arms_branches p (arm e os more) = elif_branch p e (ops_items os) (arms_branches p more)

-- the grammar closes each block
abbrev pub items_in : Option Ops → Outcome Items
items_in None = Err (fault_of kind.CodeForm)
items_in (Some os) = Ok (ops_items os)

-- the items of a program, whose functions have their numbers
abbrev pub program_items : List Instruction → Outcome Items
program_items is = items_in (blocks (numbered_program is))

-- ---- a text

-- each line with a line feed behind it
abbrev pub lines_text : List Line → List ℕ
lines_text [] = []
lines_text (l ∷ ls) = l.text ++ 10 ∷ lines_text ls

-- the items of the bytes of a file of code: lines and their characters come first, then tokens and the grammar
abbrev pub star_items : CodeReader → (number : ℕ) → (bytes : List ℕ) → Outcome Items
star_items r n bytes = Lines n bytes >>= (λ ls. r.file n (lines_text ls) >>= program_items)

-- ---- what blocks of a file of code are

-- Statements and blocks alone: no part of a node, no `if` without its first branch, and no function that builds items.
abbrev mutual
  pub IsCode : Op → Type 0
  IsCode (op_part o) = ⊥
  IsCode (op_statement s) = Unit {0}
  IsCode (op_if p arms) = AreBranches arms
  IsCode (op_for p x e body) = AreCode body
  IsCode (op_def p number fragment x ps body) = (fragment ≡ None) × AreCode body

  pub AreCode : Ops → Type 0
  AreCode no_ops = Unit {0}
  AreCode (an_op o os) = IsCode o × AreCode os

  pub AreBranches : Arms → Type 0
  AreBranches no_arm = ⊥
  AreBranches (else_arm os) = ⊥
  AreBranches (arm e os more) = AreCode os × AreFurther more

  pub AreFurther : Arms → Type 0
  AreFurther no_arm = Unit {0}
  AreFurther (else_arm os) = AreCode os
  AreFurther (arm e os more) = AreCode os × AreFurther more
