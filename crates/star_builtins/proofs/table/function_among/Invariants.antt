use Rattle.std.proofs.Common.{◌≡◌, drop}
use Rattle.builtin_spec.specs.Binding.{own_in}
use Rattle.star_builtins.specs.View.{named_functions}
use Rattle.star_builtins.proofs.table.function_among.Given as goal

abbrev pub invariant-loop-function : goal.invariant-loop-function
invariant-loop-function l = own_in l.name (named_functions l.functions) ≡ own_in l.name (named_functions (drop l.function-index l.functions))
