use Rattle.schema_check.specs.View.{IsWhole}
use Rattle.test_schema.proofs.notation.+types.Given as goal

abbrev pub invariant-types_of-loop-key : goal.invariant-types_of-loop-key
invariant-types_of-loop-key l = IsWhole l.types
