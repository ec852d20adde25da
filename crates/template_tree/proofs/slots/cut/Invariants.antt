use Rattle.std.proofs.Common.{ℕ, length}
use Rattle.template_tree.proofs.Slotting.{IsCut}
use Rattle.template_tree.proofs.slots.cut.Given as goal

abbrev pub invariant-loop-slots : goal.invariant-loop-slots
invariant-loop-slots l = (file : ℕ) → IsCut file l.level l.initial.slots.items l.slots.items l.taken

abbrev pub decreases-loop-slots : goal.decreases-loop-slots
decreases-loop-slots l = length l.slots.items
