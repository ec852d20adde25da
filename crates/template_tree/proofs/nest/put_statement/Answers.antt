use Rattle.template_tree.specs.Nests.{nested_of}
use Rattle.template_tree.proofs.Nesting.{done_same, statement_same}
use Rattle.template_tree.proofs.nest.put_statement.Goals as goal

pub returns-then-is_statement : goal.returns-then-is_statement
returns-then-is_statement c = λ file. done_same _ _ _ _ (c.put_item.ensures file) (statement_same file c.args.stmt (nested_of file c.args.nested.now) (c.if-is_statement.ensures file))
