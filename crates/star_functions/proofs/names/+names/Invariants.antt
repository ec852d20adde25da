use Rattle.std.proofs.Common.{◌≡◌, ◌++◌, ℕ, drop}
use Rattle.code_spec.specs.Scopes.{arms_names, ops_names}
use Rattle.star_blocks.specs.Nested.{arms_of, ops_of}
use Rattle.star_functions.proofs.names.+names.Given as goal

abbrev pub invariant-put_arms_names-loop-arm : goal.invariant-put_arms_names-loop-arm
invariant-put_arms_names-loop-arm l =
    (file : ℕ) → l.names ++ arms_names (arms_of file (drop l.arm-index l.arms)) ≡ l.initial.names ++ arms_names (arms_of file l.arms)

abbrev pub invariant-put_block_names-loop-op : goal.invariant-put_block_names-loop-op
invariant-put_block_names-loop-op l =
    (file : ℕ) → l.names ++ ops_names (ops_of file (drop l.op-index l.block)) ≡ l.initial.names ++ ops_names (ops_of file l.block)
