use Rattle.std.proofs.Common.{◌≡◌, drop}
use Rattle.star_tree.specs.Whole.{instructions_of}
use Rattle.template_pass.specs.Levels.{statements_fault}
use Rattle.template_checks.specs.Held.{opens_of}
use Rattle.template_checks.proofs.statements.statements_fault.Given as goal

abbrev pub invariant-loop-stmt : goal.invariant-loop-stmt
invariant-loop-stmt l = statements_fault (opens_of l.blocks) l.level (instructions_of l.file (drop l.stmt-index l.stmts)) ≡ statements_fault (opens_of l.blocks) l.level (instructions_of l.file l.stmts)
