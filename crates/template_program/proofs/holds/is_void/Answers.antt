use Rattle.std.proofs.Common.{◌&&◌, not, ap, sym, ◌∙◌}
use Rattle.template_spec.specs.Template.{has_nodes}
use Rattle.template_tree.specs.View.{items_of}
use Rattle.template_program.proofs.holds.is_void.Goals as goal

pub returns-then-has_written : goal.returns-then-has_written
returns-then-has_written c = λ file. λ i. (sym c.if-has_written.true ∙ c.has_written.ensures file) i && not (c.has_nodes.ensures file i)

pub returns-else-has_written : goal.returns-else-has_written
returns-else-has_written c = λ file.
    c.if-has_written.false ∙ ap (λ b. b && not (has_nodes (items_of file c.args.items.now))) (sym c.if-has_written.false ∙ c.has_written.ensures file)
