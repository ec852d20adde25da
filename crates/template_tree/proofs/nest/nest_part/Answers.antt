use Rattle.std.proofs.Common.{ap, sym}
use Rattle.star_tree.specs.View.{item_kind_of}
use Rattle.template_tree.specs.declared.nest.Part.{Part}
use Rattle.template_tree.specs.Nests.{nest_step, nested_of, part_of}
use Rattle.template_tree.proofs.Nesting.{done_same}
use Rattle.template_tree.proofs.nest.nest_part.Goals as goal

pub returns-in-Node : goal.returns-in-Node
returns-in-Node c =
    done_same _ _ _ _ (c.put_item.ensures c.args.file)
    (ap (λ (p : Part). nest_step c.args.file (item_kind_of c.args.kind) (part_of c.args.file p) (nested_of c.args.file c.args.nested.now)) (sym c.in-Node.is))

pub returns-in-Mark : goal.returns-in-Mark
returns-in-Mark c =
    done_same _ _ _ _ (c.nest_said.ensures c.args.file)
    (ap (λ (p : Part). nest_step c.args.file (item_kind_of c.args.kind) (part_of c.args.file p) (nested_of c.args.file c.args.nested.now)) (sym c.in-Mark.is))
