use Rattle.std.proofs.Common.{List, ap, sym, ◌∙◌}
use Rattle.star_tree.specs.declared.code.Stmt.{Stmt}
use Rattle.star_tree.specs.Whole.{instructions_of}
use Rattle.template_spec.specs.Nesting.{put_statements}
use Rattle.template_tree.specs.Nests.{nested_of}
use Rattle.template_tree.proofs.Nesting.{statements_on}
use Rattle.template_tree.proofs.nest.put_statements.Goals as goal

pub loop-stmt-preserved : goal.loop-stmt-preserved
loop-stmt-preserved c = λ file. statements_on file _ _ _ _ _ _ c.in-Some.ensures (c.in_ok-put_statement.ensures file) (c.loop-stmt.invariant file)

pub returns : goal.returns
returns c = λ file. ap (λ (ss : List Stmt). put_statements (instructions_of file ss) (nested_of file c.loop-stmt.nested)) (sym c.in_default.ensures.0) ∙ c.loop-stmt.invariant file
