-- What a statement of a file becomes as a simple one, and the number behind it.
use Rattle.std.specs.Prelude.{ℕ}
use Rattle.code_spec.specs.Code.{Statement, pass}
use Rattle.code_spec.specs.Numbering.{Pass, number_statement, over_one}
use Rattle.code_spec.specs.Program.{Instruction, statement}
use Rattle.star_tree.specs.Whole.{instruction_of}
use Rattle.star_tree.specs.declared.code.Stmt.{Stmt}
use Rattle.ytt_base.specs.Outcomes.{place_at}

-- a statement; the head or the end of a block is none, and does nothing
abbrev pub simple_of : (file : ℕ) → Instruction → Statement
simple_of file (statement s) = s
simple_of file i = pass (place_at file 0)

abbrev pub number_stmt : (file : ℕ) → Stmt → Pass Instruction
number_stmt file s = over_one statement (number_statement (simple_of file (instruction_of file s)))
