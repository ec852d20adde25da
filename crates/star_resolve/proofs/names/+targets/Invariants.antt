use Rattle.std.proofs.Common.{◌≡◌, ℕ, ◌++◌, drop}
use Rattle.code_spec.specs.Names.{targets_names}
use Rattle.star_tree.specs.Whole.{exprs_of}
use Rattle.star_resolve.proofs.names.+targets.Given as goal

abbrev pub invariant-put_targets-loop-target : goal.invariant-put_targets-loop-target
invariant-put_targets-loop-target l = (file : ℕ) → l.names ++ targets_names (exprs_of file (drop l.target-index l.targets)) ≡ l.initial.names ++ targets_names (exprs_of file l.targets)
