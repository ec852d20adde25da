-- What an operator gives for two integers: a number, or why there is none.
use Rattle.std.specs.Prelude.{ℤ, ◌+ℤ◌, ◌-ℤ◌, ◌*ℤ◌, Result, Ok, Err, if◌then◌else◌}
use Rattle.std.specs.Int.{w128, int_bit_and, int_bit_or, int_bit_xor}
use Rattle.ytt_base.specs.declared.fault.FaultKind.{FaultKind}
use Rattle.ytt_base.specs.declared.fault.FaultKind.TheVariants as kind
use Rattle.ytt_base.specs.declared.fault.Place.{Place}
use Rattle.code_spec.specs.Code.{BinaryOperator, addition, subtraction, multiplication, floor_division, remainder, bit_and, bit_or, bit_xor, shift_left, shift_right}
use Rattle.value_spec.specs.Numbers.{at_least_zero, fits, floor_quotient, floor_remainder, is_negative, is_zero, shifted_left, shifted_right}
use Rattle.value_spec.specs.Outcomes.{Computation, give, fail}
use Rattle.value_spec.specs.Values.{Value, int_value}
use Rattle.star_integers.specs.declared.operators.IntegerOp.{IntegerOp}
use Rattle.star_integers.specs.declared.operators.IntegerOp.TheVariants as integer

pub data Answer : Type 0 where
  number : ℤ → Answer
  refused : FaultKind → Answer

-- the integer, where it has 128 bits
abbrev pub fitting : ℤ → Answer
fitting z = if fits z then number z else refused kind.IntOverflow

-- by 0 nothing is divided
abbrev pub unless_zero : ℤ → Answer → Answer
unless_zero y answer = if is_zero y then refused kind.DivideZero else answer

-- so many places, from 0 on
abbrev pub unless_negative : ℤ → Answer → Answer
unless_negative y answer = if is_negative y then refused kind.ValueKind else answer

abbrev pub integer_answer : IntegerOp → (left right : ℤ) → Answer
integer_answer integer.Add x y = fitting (x +ℤ y)
integer_answer integer.Subtract x y = fitting (x -ℤ y)
integer_answer integer.Multiply x y = fitting (x *ℤ y)
integer_answer integer.FloorDivide x y = unless_zero y (fitting (floor_quotient x y))
integer_answer integer.Remainder x y = unless_zero y (fitting (floor_remainder x y))
integer_answer integer.BitAnd x y = number (int_bit_and w128 x y)
integer_answer integer.BitOr x y = number (int_bit_or w128 x y)
integer_answer integer.BitXor x y = number (int_bit_xor w128 x y)
integer_answer integer.ShiftLeft x y = unless_negative y (fitting (shifted_left x (at_least_zero y)))
integer_answer integer.ShiftRight x y = unless_negative y (fitting (shifted_right x (at_least_zero y)))

-- what a call returned, as an answer
abbrev pub answer_of : Result ℤ FaultKind → Answer
answer_of (Ok z) = number z
answer_of (Err k) = refused k

-- ---- in the language

-- the operator of the language
abbrev pub operator_of : IntegerOp → BinaryOperator
operator_of integer.Add = addition
operator_of integer.Subtract = subtraction
operator_of integer.Multiply = multiplication
operator_of integer.FloorDivide = floor_division
operator_of integer.Remainder = remainder
operator_of integer.BitAnd = bit_and
operator_of integer.BitOr = bit_or
operator_of integer.BitXor = bit_xor
operator_of integer.ShiftLeft = shift_left
operator_of integer.ShiftRight = shift_right

-- the answer as a computation: the integer, or the fault, which stands at the place
abbrev pub answered : {H : Type 0} → Place → Answer → Computation H Value
answered p (number z) = give (int_value z)
answered p (refused k) = fail k p
