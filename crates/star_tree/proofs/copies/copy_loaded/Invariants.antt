use Rattle.std.proofs.Common.{◌≡◌, take}
use Rattle.star_tree.proofs.copies.copy_loaded.Given as goal

abbrev pub invariant-loop-name : goal.invariant-loop-name
invariant-loop-name l = l.copies ≡ take l.name-index l.loaded
