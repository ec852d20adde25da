use Rattle.std.proofs.Common.{drop}
use Rattle.ytt_base.specs.View.{pairs_of}
use Rattle.value_spec.specs.Outcomes.{State}
use Rattle.schema_check.specs.View.{IsWhole, types_of}
use Rattle.schema_spec.specs.Reading.{example_pairs}
use Rattle.schema_read.proofs.Turning.{SoFar}
use Rattle.schema_read.proofs.example.+example.Given as goal

abbrev pub invariant-example_pairs-loop-key : goal.invariant-example_pairs-loop-key
invariant-example_pairs-loop-key l =
    IsWhole l.types
    × ((s : State (Unit {0})) → SoFar (example_pairs l.place (pairs_of l.pairs) s) (types_of l.types) (example_pairs l.place (pairs_of (drop l.key-index l.pairs))) s)
