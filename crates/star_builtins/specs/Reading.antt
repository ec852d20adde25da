-- What is read of the text of an integer.
use Rattle.std.specs.Prelude.{ℕ, ℤ, pos, neg_ℤ, Bool, true, false, Option}
use Rattle.ytt_base.specs.declared.fault.FaultKind.TheVariants as kind
use Rattle.ytt_base.specs.declared.fault.Place.{Place}
use Rattle.operator_spec.specs.Operators.{int_of}
use Rattle.value_spec.specs.Outcomes.{Computation, or_fail, ◌>>=◌}
use Rattle.value_spec.specs.Values.{Value}

-- a number behind a sign
abbrev pub signed : (negative : Bool) → ℕ → ℤ
signed true n = neg_ℤ (pos n)
signed false n = pos n

-- what was read, if that is an integer, and it has 128 bits
abbrev pub integer_told : Place → Option ℤ → Computation (Unit {0}) Value
integer_told p o = or_fail kind.ValueKind p o >>= int_of p
