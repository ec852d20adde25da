use Rattle.star_steps.proofs.Names.{◌≡◌, take}
use Rattle.star_fragments.proofs.copies.+copies.Given as goal

abbrev pub invariant-copy_items-loop-item : goal.invariant-copy_items-loop-item
invariant-copy_items-loop-item l = l.copies ≡ take l.item-index l.items
