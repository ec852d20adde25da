use Rattle.std.proofs.Common.{◌≡◌, ◌++◌, map, string_bytes}
use Rattle.std.specs.BTreeSet.{keys}
use Rattle.ytt_outside.proofs.names.texts_of.Given as goal

abbrev pub invariant-loop-string : goal.invariant-loop-string
invariant-loop-string l = l.names ++ map string_bytes l.string-iterator ≡ map string_bytes (keys l.fn.strings)
