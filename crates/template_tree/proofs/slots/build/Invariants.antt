use Rattle.std.proofs.Common.{length}
use Rattle.template_tree.specs.Slots.{slots_of}
use Rattle.template_tree.proofs.Slotting.{IsBuilding}
use Rattle.template_tree.proofs.slots.build.Given as goal

abbrev pub invariant-loop-put : goal.invariant-loop-put
invariant-loop-put l = IsBuilding l.file l.fn.puts l.left (slots_of l.file l.slots.items)

abbrev pub decreases-loop-put : goal.decreases-loop-put
decreases-loop-put l = length l.left
