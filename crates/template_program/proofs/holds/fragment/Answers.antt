use Rattle.std.proofs.Common.{Some, None, ap, sym, ◌∙◌, if◌then◌else◌}
use Rattle.star_tree.specs.View.{item_kind_of}
use Rattle.template_program.proofs.holds.fragment.Goals as goal

pub returns-then-has_nodes : goal.returns-then-has_nodes
returns-then-has_nodes c = λ file. ap (λ b. if b then Some (item_kind_of c.args.kind) else None) (sym c.if-has_nodes.true ∙ c.has_nodes.ensures file)

pub returns-else-has_nodes : goal.returns-else-has_nodes
returns-else-has_nodes c = λ file. ap (λ b. if b then Some (item_kind_of c.args.kind) else None) (sym c.if-has_nodes.false ∙ c.has_nodes.ensures file)
