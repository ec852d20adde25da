-- The rows of operators where an operand is an integer.
use Rattle.star_steps.proofs.Names.{ℕ, Bool, true, false, Result, Ok, Err, Stop, View, Gives, state_in, grows_same, gives_same, ap, give, unary_row, neg_ℤ, if◌then◌else◌, ◌≡◌, ℤ, Option, Some, None, FitsSigned, to_z, of_z, refl, sym, subst, ◌∙◌, to_z-of_z, w128, Place, as_int, State, Computation, fail, int_value, if_both, sum_row, product_row, remainder_row, union_row, binary_row}
use Rattle.ytt_base.specs.declared.fault.FaultKind.TheVariants as kind
use Rattle.value_spec.specs.Values.{Value}
use Rattle.star_integers.specs.Answers.{number, refused, answer_of, answered, fitting, integer_answer, operator_of}
use Rattle.star_integers.specs.declared.operators.IntegerOp.{IntegerOp}
use Rattle.star_integers.specs.declared.operators.IntegerOp.TheVariants as integer
use Rattle.star_integers.proofs.Acts as acts
use Rattle.ytt_base.specs.declared.fault.FaultKind.{FaultKind}
use Rattle.code_spec.specs.Code as code
use Rattle.star_values.specs.declared.value.Value as held
use Rattle.star_ops.specs.Acts.{integer_row, placed}

-- what follows from two numbers, where each is one
both_as : (o q : Option ℤ) (f g : ℤ → ℤ → Computation (Unit {0}) Value) (m : Computation (Unit {0}) Value) (s : State (Unit {0})) → ((x y : ℤ) → f x y s ≡ g x y s) → if_both o q f m s ≡ if_both o q g m s
both_as (Some x) (Some y) f g m s h = h x y
both_as None q f g m s h = refl
both_as (Some x) None f g m s h = refl

-- where the left is an integer, the sum is that of integers
pub sum_of_int : (p : Place) (z : ℤ) (w : Value) (s : State (Unit {0})) → sum_row p (int_value z) w s ≡ integer_row integer.Add p (int_value z) w s
sum_of_int p z w s = both_as (Some z) (as_int w) _ (λ x y. answered p (integer_answer integer.Add x y)) (fail kind.ValueKind p) s (λ x y. acts.integer_row integer.Add p x y s)

pub product_of_ints : (p : Place) (v w : Value) (x y : ℤ) (s : State (Unit {0})) → v ≡ int_value x → w ≡ int_value y → product_row p v w s ≡ integer_row integer.Multiply p v w s
product_of_ints p v w x y s e f = (λ i. product_row p (e i) (f i) s) ∙ acts.integer_row integer.Multiply p x y s ∙ (λ i. integer_row integer.Multiply p (sym e i) (sym f i) s)

-- a number that is passed to a call
pub one_passed : (P : ℤ → Type 0) (z : ℤ) → FitsSigned w128 z → P (to_z w128 (of_z w128 z)) → P z
one_passed P z f h = subst P (to_z-of_z w128 z f) h

-- the rows that are for integers alone
abbrev pub IsInteger : IntegerOp → Type 0
IsInteger integer.Add = ⊥
IsInteger integer.Multiply = ⊥
IsInteger integer.Remainder = ⊥
IsInteger integer.BitOr = ⊥
IsInteger _ = Unit {0}

pub row_of_ints : (o : IntegerOp) (p : Place) (v w : Value) (s : State (Unit {0})) → IsInteger o → binary_row p (operator_of o) v w s ≡ integer_row o p v w s
row_of_ints integer.Subtract p v w s h = both_as (as_int v) (as_int w) _ _ (fail kind.ValueKind p) s (λ x y. acts.integer_row integer.Subtract p x y s)
row_of_ints integer.FloorDivide p v w s h = both_as (as_int v) (as_int w) _ _ (fail kind.ValueKind p) s (λ x y. acts.integer_row integer.FloorDivide p x y s)
row_of_ints integer.BitAnd p v w s h = both_as (as_int v) (as_int w) _ _ (fail kind.ValueKind p) s (λ x y. acts.integer_row integer.BitAnd p x y s)
row_of_ints integer.BitXor p v w s h = both_as (as_int v) (as_int w) _ _ (fail kind.ValueKind p) s (λ x y. acts.integer_row integer.BitXor p x y s)
row_of_ints integer.ShiftLeft p v w s h = both_as (as_int v) (as_int w) _ _ (fail kind.ValueKind p) s (λ x y. acts.integer_row integer.ShiftLeft p x y s)
row_of_ints integer.ShiftRight p v w s h = both_as (as_int v) (as_int w) _ _ (fail kind.ValueKind p) s (λ x y. acts.integer_row integer.ShiftRight p x y s)
row_of_ints integer.Add p v w s h = absurd h
row_of_ints integer.Multiply p v w s h = absurd h
row_of_ints integer.Remainder p v w s h = absurd h
row_of_ints integer.BitOr p v w s h = absurd h

-- `%` where the left is an integer
pub rest_of_int : (p : Place) (z : ℤ) (w : Value) (s : State (Unit {0})) → remainder_row p (int_value z) w s ≡ integer_row integer.Remainder p (int_value z) w s
rest_of_int p z w s = both_as (Some z) (as_int w) _ _ (fail kind.ValueKind p) s (λ x y. acts.integer_row integer.Remainder p x y s)

-- `|` where the left is an integer
pub union_of_int : (p : Place) (z : ℤ) (w : Value) (s : State (Unit {0})) → union_row p (int_value z) w s ≡ integer_row integer.BitOr p (int_value z) w s
union_of_int p z w s = both_as (Some z) (as_int w) _ _ (fail kind.ValueKind p) s (λ x y. acts.integer_row integer.BitOr p x y s)

-- what is given where a test holds, or the refusal, is its answer
if_fitting : (p : Place) (k : FaultKind) (z : ℤ) (b : Bool) (s : State (Unit {0})) → (if b then give (int_value z) else fail k p) s ≡ answered p (if b then number z else refused k) s
if_fitting p k z true s = refl
if_fitting p k z false s = refl

-- an answer at a place is what its computation gives
placed_gives : (p : Place) (r : Result ℤ FaultKind) (a : View) (n : ℕ) → Gives (answered p (answer_of r) (state_in a n)) (placed p r) a a n
placed_gives p (Ok z) a n = record { meaning = refl; owns = tt; grows = grows_same a }
placed_gives p (Err k) a n = record { meaning = refl; owns = tt; grows = grows_same a }

-- an integer whose sign is turned
pub negative_gives : (p : Place) (z y : ℤ) (v : Value) (r : Result ℤ FaultKind) (res : Result held.Value Stop) (a : View) (n : ℕ) → v ≡ int_value z → y ≡ z → answer_of r ≡ fitting (neg_ℤ y) → res ≡ placed p r → Gives (unary_row p code.negation v (state_in a n)) res a a n
negative_gives p z y v r res a n v_is y_is r_is res_is =
    subst (λ res. Gives (unary_row p code.negation v (state_in a n)) res a a n) (sym res_is)
    (gives_same _ _ (placed p r) a a n
    (ap (λ v. unary_row p code.negation v (state_in a n)) v_is ∙ if_fitting p kind.IntOverflow (neg_ℤ z) _ (state_in a n) ∙ ap (λ x. answered p x (state_in a n)) (ap (λ z. fitting (neg_ℤ z)) (sym y_is) ∙ sym r_is))
    (placed_gives p r a n))
