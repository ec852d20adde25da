use Rattle.std.proofs.Common.{◌≡◌, ◌++◌, ℕ, drop}
use Rattle.star_blocks.specs.Nested.{arms_of, ops_of}
use Rattle.star_functions.specs.Numbered.{arms_functions, ops_functions}
use Rattle.star_functions.specs.View.{all_of}
use Rattle.star_functions.proofs.blocks.+blocks.Given as goal

abbrev pub invariant-find_in_arms-loop-arm : goal.invariant-find_in_arms-loop-arm
invariant-find_in_arms-loop-arm l =
    (file : ℕ) → all_of file l.found ++ arms_functions (arms_of file (drop l.arm-index l.arms)) ≡ all_of file l.initial.found ++ arms_functions (arms_of file l.arms)

abbrev pub invariant-find_in_block-loop-op : goal.invariant-find_in_block-loop-op
invariant-find_in_block-loop-op l =
    (file : ℕ) → all_of file l.found ++ ops_functions (ops_of file (drop l.op-index l.block)) ≡ all_of file l.initial.found ++ ops_functions (ops_of file l.block)
