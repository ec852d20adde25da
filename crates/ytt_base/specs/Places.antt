-- The places of kinds of faults in the order in which they are declared.
use Rattle.std.specs.Prelude.{ℕ}
use Rattle.ytt_base.specs.declared.fault.FaultKind.{FaultKind}
use Rattle.ytt_base.specs.contracts.fault.FaultKind as kind
use denote.Enum.Declared.{tag_of}

abbrev pub kind_place : FaultKind → ℕ
kind_place k = tag_of kind.the_type k
