use Rattle.std.proofs.Common.{◌≡◌, ◌++◌, drop}
use Rattle.code_spec.specs.Names.{loaded_names}
use Rattle.star_tree.specs.Whole.{loaded_names_of}
use Rattle.star_functions.proofs.names.put_loaded.Given as goal

abbrev pub invariant-loop-each : goal.invariant-loop-each
invariant-loop-each l = l.names ++ loaded_names (loaded_names_of (drop l.each-index l.loaded)) ≡ l.initial.names ++ loaded_names (loaded_names_of l.loaded)
