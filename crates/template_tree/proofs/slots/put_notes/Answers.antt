use Rattle.std.proofs.Common.{refl}
use Rattle.template_tree.specs.Slots.{with_notes}
use Rattle.template_tree.specs.View.{notes_of}
use Rattle.template_tree.proofs.Slotting.{slot_changed}
use Rattle.template_tree.proofs.slots.put_notes.Goals as goal

pub returns : goal.returns
returns c = λ file.
    let f = with_notes (notes_of file c.args.notes) in
    slot_changed file c.args.level f c.reach.new.slots.items c.args.slots.now.items _ c.index_mut-slot.result.now c.in_ok-reach.ensures.long c.index_mut-slot.ensures.value refl (c.in_ok-reach.ensures.same file f)
