use Rattle.std.proofs.Common.{◌≡◌, ℕ, length}
use Rattle.star_tree.specs.Whole.{parameters_of}
use Rattle.star_values.specs.View.{View, values_of}
use Rattle.star_calls.specs.Left.{need_nothing}
use Rattle.star_calls.proofs.filling.need_nothing.Given as goal

abbrev pub invariant-loop-param : goal.invariant-loop-param
invariant-loop-param l = (a : View) (file : ℕ) → need_nothing (parameters_of file l.params) (values_of a l.defaults) ≡ need_nothing (parameters_of file l.rest) (values_of a l.left)

abbrev pub decreases-loop-param : goal.decreases-loop-param
decreases-loop-param l = length l.rest
