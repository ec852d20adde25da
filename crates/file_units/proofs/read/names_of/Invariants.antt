use Rattle.std.proofs.Common.{◌≡◌, ◌++◌, drop, map as each}
use Rattle.file_find.specs.Finds.{file_of}
use Rattle.ytt_spec.specs.Meaning.{found_names}
use Rattle.file_units.proofs.read.names_of.Given as goal

abbrev pub invariant-loop-file : goal.invariant-loop-file
invariant-loop-file l = l.names ++ found_names (each file_of (drop l.file-index l.found)) ≡ found_names (each file_of l.fn.found)
