use Rattle.std.proofs.Common.{◌∙◌, ap}
use Rattle.template_pass.specs.Building as build
use Rattle.template_tree.specs.Nests.{part_of, parts_of}
use Rattle.template_tree.specs.Slots.{slot_of}
use Rattle.template_tree.proofs.Nesting.{parts_behind}
use Rattle.template_tree.proofs.Slotting.{slot_changed}
use Rattle.template_tree.proofs.slots.put_part.Goals as goal

pub returns-in_ok-push-in-Ok : goal.returns-in_ok-push-in-Ok
returns-in_ok-push-in-Ok c = λ file.
    let here = c.index_mut-slot.result.now in
    let parts = ap (parts_of file) c.in_ok-push-in-Ok.ensures.items ∙ parts_behind file here.parts.items c.args.part in
    slot_changed file c.args.level (build.with_part (part_of file c.args.part)) c.reach.new.slots.items c.args.slots.now.items _ here c.in-Ok.ensures.long c.index_mut-slot.ensures.value
    (λ i. record (slot_of file here) { parts = parts i }) (c.in-Ok.ensures.same file (build.with_part (part_of file c.args.part)))
