use Rattle.std.proofs.Common.{◌≡◌, ℕ, drop, map as each}
use Rattle.star_tree.specs.Whole.{instruction_of}
use Rattle.star_resolve.specs.Gathered.{gathered, gathered_of}
use Rattle.star_resolve.proofs.gather.gather_all.Given as goal

abbrev pub invariant-loop-at : goal.invariant-loop-at
invariant-loop-at l = (file : ℕ) → gathered_of l.blocks ≡ gathered (each (instruction_of file) (drop l.at l.code))
