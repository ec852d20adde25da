-- The operators that are for integers alone, and values that have members.
use Rattle.std.specs.Prelude.{◌∷◌}
use Rattle.star_steps.specs.Names.{ℤ, Bool, true, false, List, [], Result, Ok, Err, FaultKind, Stop, fault_at, Value as Held, Place, as_int, Computation, fail, if_both, BinOp}
use Rattle.ytt_base.specs.declared.fault.Stop.TheVariants as stop
use Rattle.star_values.specs.declared.value.Value.TheVariants as value
use Rattle.ytt_base.specs.declared.fault.FaultKind.TheVariants as kind
use Rattle.value_spec.specs.Values.{Value}
use Rattle.star_tree.specs.declared.code.BinOp.TheVariants as binary
use Rattle.star_integers.specs.Answers.{answered, integer_answer}
use Rattle.star_integers.specs.declared.operators.IntegerOp.{IntegerOp}

-- what such an operator gives for two values
abbrev pub integer_row : IntegerOp → Place → Value → Value → Computation (Unit {0}) Value
integer_row o p a b = if_both (as_int a) (as_int b) (λ x y. answered p (integer_answer o x y)) (fail kind.ValueKind p)

-- an integer, or its refusal at a place
abbrev pub placed : Place → Result ℤ FaultKind → Result Held Stop
placed p (Ok z) = Ok (value.Int z)
placed p (Err k) = Err (stop.Fault (fault_at k p))

-- values that have members to go through
abbrev pub is_iterable : Held → Bool
is_iterable (value.Tuple r) = true
is_iterable (value.List r) = true
is_iterable (value.Dict r) = true
is_iterable (value.Range r) = true
is_iterable _ = false

-- the keys of pairs
abbrev pub first_parts : List (Held × Held) → List Held
first_parts [] = []
first_parts (p ∷ ps) = p.0 ∷ first_parts ps

-- operators that test
abbrev pub is_test : BinOp → Bool
is_test binary.Equal = true
is_test binary.Unequal = true
is_test binary.In = true
is_test binary.NotIn = true
is_test binary.Less = true
is_test binary.Greater = true
is_test binary.AtMost = true
is_test binary.AtLeast = true
is_test _ = false
