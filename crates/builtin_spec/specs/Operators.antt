-- The whole table of operators: `%` with a text at its left fills the text, and all else is as without it.
use Rattle.ytt_base.specs.declared.fault.Place.{Place}
use Rattle.code_spec.specs.Code.{BinaryOperator, remainder}
use Rattle.operator_spec.specs.Operators.{augment_row, binary_row}
use Rattle.text_spec.specs.Percent.{percent_row}
use Rattle.value_spec.specs.Outcomes.{Computation}
use Rattle.value_spec.specs.Values.{Value, text_value}

-- a text is filled where the operator is `%`
abbrev pub filled_or : {H : Type 0} → Place → BinaryOperator → (left right : Value) → Computation H Value → Computation H Value
filled_or p remainder (text_value t) b otherwise = percent_row p t b
filled_or p o a b otherwise = otherwise

-- an operator between two values
abbrev pub operator_row : {H : Type 0} → Place → BinaryOperator → (left right : Value) → Computation H Value
operator_row p o a b = filled_or p o a b (binary_row p o a b)

-- the same in an assignment
abbrev pub assignment_row : {H : Type 0} → Place → BinaryOperator → (left right : Value) → Computation H Value
assignment_row p o a b = filled_or p o a b (augment_row p o a b)
