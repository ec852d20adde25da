use Rattle.std.proofs.Common.{◌≡◌, ℕ, ◌++◌, drop}
use Rattle.code_spec.specs.Allowed.{parameter_names}
use Rattle.star_tree.specs.Whole.{parameters_of}
use Rattle.star_resolve.proofs.names.parameter_names.Given as goal

abbrev pub invariant-loop-param : goal.invariant-loop-param
invariant-loop-param l = (file : ℕ) → l.names ++ parameter_names (parameters_of file (drop l.param-index l.params)) ≡ parameter_names (parameters_of file l.params)
