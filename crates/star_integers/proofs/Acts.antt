-- What an operator gives for integers is its row of the table of operators.
use Rattle.std.proofs.Common.{◌≡◌, Bool, true, false, ℕ, ℤ, neg_ℤ, ◌+ℤ◌, ◌-ℤ◌, ◌*ℤ◌, refl}
use Rattle.std.specs.Prelude.{if◌then◌else◌}
use Rattle.ytt_base.specs.declared.fault.FaultKind.{FaultKind}
use Rattle.ytt_base.specs.declared.fault.FaultKind.TheVariants as kind
use Rattle.ytt_base.specs.declared.fault.Place.{Place}
use Rattle.code_spec.specs.Code.{negation}
use Rattle.value_spec.specs.Numbers.{fits, is_negative, is_zero, at_least_zero, floor_quotient, floor_remainder, shifted_left, shifted_right}
use Rattle.value_spec.specs.Outcomes.{State, Computation, give, fail}
use Rattle.value_spec.specs.Values.{Value, int_value}
use Rattle.operator_spec.specs.Operators.{int_of, divided, shifted, binary_row, unary_row}
use Rattle.star_integers.specs.declared.operators.IntegerOp.{IntegerOp}
use Rattle.star_integers.specs.declared.operators.IntegerOp.TheVariants as integer
use Rattle.star_integers.specs.Answers.{Answer, number, refused, fitting, unless_zero, unless_negative, integer_answer, operator_of, answered}

int_when : {H : Type 0} (whole : Bool) (p : Place) (z : ℤ) (s : State H) →
    (if whole then give (int_value z) else fail kind.IntOverflow p) s ≡ answered p (if whole then number z else refused kind.IntOverflow) s
int_when true p z s = refl
int_when false p z s = refl

pub int_act : {H : Type 0} (p : Place) (z : ℤ) (s : State H) → int_of p z s ≡ answered p (fitting z) s
int_act p z s = int_when (fits z) p z s

-- where it is refused first
refused_when : {H : Type 0} (first : Bool) (k : FaultKind) (p : Place) (m : Computation H Value) (answer : Answer) (s : State H) → m s ≡ answered p answer s →
    (if first then fail k p else m) s ≡ answered p (if first then refused k else answer) s
refused_when true k p m answer s same = refl
refused_when false k p m answer s same = same

pub divided_act : {H : Type 0} (f : ℤ → ℤ → ℤ) (p : Place) (x y : ℤ) (s : State H) → divided f p x y s ≡ answered p (unless_zero y (fitting (f x y))) s
divided_act f p x y s = refused_when (is_zero y) kind.DivideZero p (int_of p (f x y)) (fitting (f x y)) s (int_act p (f x y) s)

pub shifted_act : {H : Type 0} (f : ℤ → ℕ → ℤ) (p : Place) (x y : ℤ) (s : State H) → shifted f p x y s ≡ answered p (unless_negative y (fitting (f x (at_least_zero y)))) s
shifted_act f p x y s = refused_when (is_negative y) kind.ValueKind p (int_of p (f x (at_least_zero y))) (fitting (f x (at_least_zero y))) s (int_act p (f x (at_least_zero y)) s)

-- each operator's row
pub integer_row : {H : Type 0} (op : IntegerOp) (p : Place) (x y : ℤ) (s : State H) → binary_row p (operator_of op) (int_value x) (int_value y) s ≡ answered p (integer_answer op x y) s
integer_row integer.Add p x y s = int_act p (x +ℤ y) s
integer_row integer.Subtract p x y s = int_act p (x -ℤ y) s
integer_row integer.Multiply p x y s = int_act p (x *ℤ y) s
integer_row integer.FloorDivide p x y s = divided_act floor_quotient p x y s
integer_row integer.Remainder p x y s = divided_act floor_remainder p x y s
integer_row integer.BitAnd p x y s = refl
integer_row integer.BitOr p x y s = refl
integer_row integer.BitXor p x y s = refl
integer_row integer.ShiftLeft p x y s = shifted_act shifted_left p x y s
integer_row integer.ShiftRight p x y s = shifted_act shifted_right p x y s

-- the rows of one integer
pub negation_row : {H : Type 0} (p : Place) (z : ℤ) (s : State H) → unary_row p negation (int_value z) s ≡ answered p (fitting (neg_ℤ z)) s
negation_row p z s = int_act p (neg_ℤ z) s
