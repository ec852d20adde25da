use Rattle.std.proofs.Common.{rules, ◌≡◌, ◌<◌, ◌∷◌, length, [], ◌++◌}
use Rattle.template_tree.proofs.Slotting.{cut_begins, cut_goes_on}
use Rattle.template_tree.proofs.slots.cut.Goals as goal

pub loop-slots-init : goal.loop-slots-init
loop-slots-init c = λ file. cut_begins file c.args.level c.args.slots.now.items c.fresh-taken.result (c.fresh-taken.ensures file)

pub loop-slots-preserved-in-Some : goal.loop-slots-preserved-in-Some
loop-slots-preserved-in-Some c = λ file.
    let more : c.args.level < length c.loop-slots.slots.items = search rules in
    let popped : c.loop-slots.slots.items ≡ c.pop.new.self.items ++ c.in-Some.slot ∷ [] = search rules in
    cut_goes_on file c.args.level c.args.slots.now.items c.loop-slots.slots.items c.pop.new.self.items c.loop-slots.taken c.in-Some.slot (c.loop-slots.invariant file) more popped
