use Rattle.std.proofs.Common.{◌≡◌, ℕ, length}
use Rattle.code_spec.specs.Allowed.{parameter_names}
use Rattle.star_tree.specs.Whole.{parameters_of}
use Rattle.star_calls.proofs.own.next_named.Given as goal

abbrev pub invariant-loop-param : goal.invariant-loop-param
invariant-loop-param l = (file : ℕ) → parameter_names (parameters_of file l.params) ≡ parameter_names (parameters_of file l.rest)

abbrev pub decreases-loop-param : goal.decreases-loop-param
decreases-loop-param l = length l.rest
