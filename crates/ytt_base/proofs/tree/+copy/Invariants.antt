use Rattle.std.proofs.Common.{◌≡◌, take}
use Rattle.ytt_base.proofs.tree.+copy.Given as goal

abbrev pub invariant-copy_trees-loop-tree : goal.invariant-copy_trees-loop-tree
invariant-copy_trees-loop-tree l = l.copies ≡ take l.tree-index l.trees

abbrev pub invariant-copy_pairs-loop-key : goal.invariant-copy_pairs-loop-key
invariant-copy_pairs-loop-key l = l.copies ≡ take l.key-index l.pairs
