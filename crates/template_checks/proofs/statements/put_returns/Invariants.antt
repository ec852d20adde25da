use Rattle.std.proofs.Common.{◌≡◌, ◌++◌, drop, Some}
use Rattle.star_tree.specs.Whole.{instructions_of}
use Rattle.template_pass.specs.Levels.{returned_in}
use Rattle.template_checks.specs.Held.{open_of, returned_of}
use Rattle.template_checks.proofs.statements.put_returns.Given as goal

abbrev pub invariant-loop-stmt : goal.invariant-loop-stmt
invariant-loop-stmt l =
    returned_of l.returned ++ returned_in (Some (open_of l.block)) (instructions_of l.file (drop l.stmt-index l.stmts)) ≡ returned_of l.initial.returned ++ returned_in (Some (open_of l.block)) (instructions_of l.file l.stmts)
