use Rattle.std.proofs.Common.{◌∙◌, ap}
use Rattle.star_tree.specs.View.{item_kind_of}
use Rattle.template_spec.specs.Template as plain
use Rattle.template_tree.proofs.Slotting.{key_is, value_is}
use Rattle.template_tree.proofs.Views.{item_of-Node, node_of-node}
use Rattle.template_tree.specs.View.{in_content}
use Rattle.ytt_base.specs.Outcomes.{place_at}
use Rattle.template_tree.proofs.slots.item_with.Goals as goal

pub returns : goal.returns
returns c =
    let file = c.args.file in
    item_of-Node file _ ∙ node_of-node file _
    ∙ (λ i. plain.node (place_at file c.args.start.line) (item_kind_of c.args.start.kind) (c.in_ok-notes.ensures file i) (key_is c.args.start.key i) ((ap (in_content file c.args.slot.value) (c.in_ok-content.ensures) ∙ value_is file c.args.slot.value _) i))
