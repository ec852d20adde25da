use Rattle.std.proofs.Common.{length}
use Rattle.star_tree.specs.View.{item_kind_of}
use Rattle.template_tree.proofs.Nesting.{IsNesting}
use Rattle.template_tree.proofs.nest.nest.Given as goal

abbrev pub invariant-loop-part : goal.invariant-loop-part
invariant-loop-part l = IsNesting l.file (item_kind_of l.kind) l.fn.parts.items l.left.items l.nested

abbrev pub decreases-loop-part : goal.decreases-loop-part
decreases-loop-part l = length l.left.items
