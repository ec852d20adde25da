-- What the program read of a plain scalar, as plain data.
use Rattle.std.specs.Prelude.{Result, Ok, Err}
use Rattle.ytt_base.specs.declared.fault.FaultKind.{FaultKind}
use Rattle.ytt_base.specs.declared.tree.Key.{Key}
use Rattle.ytt_base.specs.Trees.{Scalar}
use Rattle.ytt_base.specs.View.{key_of}

-- a scalar, or why it is none
abbrev pub key_or_fault : Result Key FaultKind → Result Scalar FaultKind
key_or_fault (Ok k) = Ok (key_of k)
key_or_fault (Err f) = Err f
