use Rattle.std.proofs.Common.{◌≡◌, ℕ, length}
use Rattle.star_tree.specs.Whole.{parameters_of}
use Rattle.star_eval.specs.Doing.{next_default}
use Rattle.star_eval.proofs.functions.next_default.Given as goal

abbrev pub invariant-loop-param : goal.invariant-loop-param
invariant-loop-param l = (file : ℕ) → next_default (parameters_of file l.rest) ≡ next_default (parameters_of file l.params)

abbrev pub decreases-loop-param : goal.decreases-loop-param
decreases-loop-param l = length l.rest
