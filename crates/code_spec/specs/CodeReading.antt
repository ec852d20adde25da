-- What is read of code: of each text of a comment, whose first line is this place's, and of the text of each file with a
-- number, whose lines end with line feeds, what it is or its first fault.
use Rattle.std.specs.Prelude.{ℕ, Bool, List}
use Rattle.ytt_base.specs.declared.fault.Place.{Place}
use Rattle.ytt_base.specs.Outcomes.{Outcome}
use Rattle.code_spec.specs.Code.{Name, Expr, Exprs, Parameters}
use Rattle.code_spec.specs.Program.{Instruction}

-- the head or the end of a block in a template
pub data Header : Type 0 where
  if_header : Expr → Header
  elif_header : Expr → Header
  else_header : Header
  for_header : (target members : Expr) → Header
  def_header : Name → Parameters → Header
  end_header : Header

-- An expression, the arguments of a note, the simple statements of a line, the head or the end of a block; whether
-- brackets are open at the text's end; and the statements and blocks of a file.
pub record CodeReader : Type 0 where
  pub expr : Place → List ℕ → Outcome Expr
  pub args : Place → List ℕ → Outcome Exprs
  pub simple : Place → List ℕ → Outcome (List Instruction)
  pub header : Place → List ℕ → Outcome Header
  pub is_open : Place → List ℕ → Bool
  pub file : (number : ℕ) → List ℕ → Outcome (List Instruction)
