use Rattle.std.proofs.Common.{◌≡◌, ℕ, ◌+◌, ◌-◌, length}
use Rattle.template_pass.specs.Building as build
use Rattle.template_tree.specs.Slots.{slots_of}
use Rattle.template_tree.proofs.slots.reach.Given as goal

abbrev pub invariant-loop-alloc : goal.invariant-loop-alloc
invariant-loop-alloc l = (file : ℕ) (f : build.Slot → build.Slot) → build.changed l.level f (slots_of file l.slots.items) ≡ build.changed l.level f (slots_of file l.initial.slots.items)

abbrev pub decreases-loop-alloc : goal.decreases-loop-alloc
decreases-loop-alloc l = l.level + 1 - length l.slots.items
