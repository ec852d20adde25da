use Rattle.std.proofs.Common.{true, false, refl, ◌∙◌}
use Rattle.template_tree.proofs.Nesting.{elif_is, last_is}
use Rattle.template_tree.proofs.nest.is_nothing.Goals as goal

pub returns-then-is_empty : goal.returns-then-is_empty
returns-then-is_empty c = λ file. last_is file c.args.elifs.now c.args.last.now true c.is_none.result c.if-is_empty.ensures refl c.is_none.ensures

pub returns-else-is_empty : goal.returns-else-is_empty
returns-else-is_empty c = λ file. c.if-is_empty.false ∙ elif_is file c.args.elifs.now c.args.last.now false c.if-is_empty.ensures refl
