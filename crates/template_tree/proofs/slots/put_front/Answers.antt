use Rattle.template_tree.specs.View.{item_of}
use Rattle.template_tree.proofs.Slotting.{front_beside, front_item, on_ok}
use Rattle.template_tree.proofs.slots.put_front.Goals as goal

pub returns-in_ok-item-in-Ok : goal.returns-in_ok-item-in-Ok
returns-in_ok-item-in-Ok c =
    let file = c.args.file in
    on_ok c.put_part.result _ _
    (front_item file c.args.put c.in-Item.start c.in-Item.notes c.args.slots.now.items c.cut-slot.new.slots.items c.put_part.new.slots.items c.cut-slot.result c.in-Ok.deeper (item_of file c.in_ok-item-in-Ok.item) c.in-Item.is
    (c.in-Ok.ensures) (c.cut-slot.ensures.slot file) (c.cut-slot.ensures.rest file) (c.in_ok-item-in-Ok.ensures)) (c.put_part.ensures file)

pub returns-in-Ok-below : goal.returns-in-Ok-below
returns-in-Ok-below c =
    let file = c.args.file in
    on_ok c.put_beside.result _ _
    (front_beside file c.args.put c.in-Beside.level c.in-Beside.line c.in-Beside.comment c.args.slots.now.items c.put_beside.new.slots.items c.in-Ok-below.deeper c.in-Beside.is (c.in-Ok-below.ensures))
    (c.put_beside.ensures file)
