use Rattle.std.proofs.Common.{◌≡◌, ℕ, length}
use Rattle.star_tree.specs.Whole.{instructions_of}
use Rattle.template_spec.specs.Nesting.{put_statements}
use Rattle.template_tree.specs.Nests.{nested_of}
use Rattle.template_tree.proofs.nest.put_statements.Given as goal

abbrev pub invariant-loop-stmt : goal.invariant-loop-stmt
invariant-loop-stmt l = (file : ℕ) → put_statements (instructions_of file l.left) (nested_of file l.nested) ≡ put_statements (instructions_of file l.initial.left) (nested_of file l.initial.nested)

abbrev pub decreases-loop-stmt : goal.decreases-loop-stmt
decreases-loop-stmt l = length l.left
