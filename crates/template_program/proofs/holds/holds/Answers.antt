use Rattle.std.proofs.Common.{sym, ◌∙◌}
use Rattle.template_program.proofs.Items.{list_holds, map_holds}
use Rattle.template_program.proofs.holds.holds.Goals as goal

pub returns-then-is_void : goal.returns-then-is_void
returns-then-is_void c = λ file. map_holds file c.args.node.now.value c.args.node.now.content _ _ c.in-None.is c.in-Map.is (sym c.if-is_void.true ∙ c.is_void.ensures file)

pub returns-else-is_void : goal.returns-else-is_void
returns-else-is_void c = λ file. map_holds file c.args.node.now.value c.args.node.now.content _ _ c.in-None.is c.in-Map.is (sym c.if-is_void.false ∙ c.is_void.ensures file)

pub returns-then-is_void-2 : goal.returns-then-is_void-2
returns-then-is_void-2 c = λ file. list_holds file c.args.node.now.value c.args.node.now.content _ _ c.in-None.is c.in-List.is (sym c.if-is_void-2.true ∙ c.is_void-in-List.ensures file)

pub returns-else-is_void-2 : goal.returns-else-is_void-2
returns-else-is_void-2 c = λ file. list_holds file c.args.node.now.value c.args.node.now.content _ _ c.in-None.is c.in-List.is (sym c.if-is_void-2.false ∙ c.is_void-in-List.ensures file)
