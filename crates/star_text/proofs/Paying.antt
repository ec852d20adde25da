-- An answer behind its cost, and a call of a method from the values of its parameters.
use Rattle.std.proofs.Common.{◌≡◌, ℕ, ◌+◌, ◌/◌, ◌^◌, ◌<◌, ◌≤◌, nat_le, Bool, true, false, List, [], ◌∷◌, length, Some, Result, Err, refl, subst, sym, ap, arith, ◌∙◌}
use Rattle.std.proofs.lemmas.Bool.{lt-leb}
use Rattle.std.proofs.lemmas.List.{nil_from_length}
use Rattle.ytt_base.specs.Outcomes.{fault_at}
use Rattle.ytt_base.specs.declared.fault.FaultKind.TheVariants as kind
use Rattle.ytt_base.specs.declared.fault.Place.{Place}
use Rattle.ytt_base.specs.declared.fault.Stop.{Stop}
use Rattle.ytt_base.specs.declared.fault.Stop.TheVariants as stop
use Rattle.code_spec.specs.Code.{Name}
use Rattle.star_steps.specs.Meets.{Gives, Meets, as_is, state_in}
use Rattle.star_values.proofs.Growing.{grows_same}
use Rattle.star_values.specs.View.{View, values_of}
use Rattle.star_values.specs.declared.value.Value.{Value as Held}
use Rattle.text_spec.specs.Answers.{Answer, all_bytes, all_members, answer_bytes, answer_members, give_answer, operation_cost, paid_answer, paid_operation}
use Rattle.text_spec.specs.Methods.{Method, method_answer, method_row}
use Rattle.text_spec.specs.Signatures.{Operands, read_operands}
use Rattle.value_spec.specs.Outcomes.{Computation, Ending, State, bad, done, give, or_fail, take_if, take_steps, then_do, ◌>>=◌}
use Rattle.value_spec.specs.Binding.{bound_values, none_for_each, parameters_named}
use Rattle.value_spec.specs.Values.{Arguments, Value, text_value}

abbrev Here : Type 0
Here = State (Unit {0})

-- so many more
pub counted : (n k x y total : ℕ) → k ≡ x → n + (x + y) ≡ total → n + k + y ≡ total
counted n k x y total e h = grind arith

add-zero : (n : ℕ) → n + 0 ≡ n
add-zero n = omega arith

-- a cost alone
alone : (b : Bool) (n : ℕ) (p : Place) (s : Here) → then_do (take_if b n p s) (λ (u : Unit {0}). give (tt {0})) ≡ take_if b n p s
alone true n p s = refl
alone false n p s = refl

-- what an operation costs that was counted so
module _ (p : Place) (v : Value) (vs : List Value) (b m bytes members : ℕ) (a : View) (k : ℕ) (rest : List Held) (none : length rest ≡ 0)
    (of_bytes : bytes + all_bytes (values_of a rest) ≡ all_bytes (v ∷ vs) + b) (of_members : members + all_members a.store (values_of a rest) ≡ all_members a.store (v ∷ vs) + m) where
  last : rest ≡ []
  last = nil_from_length rest none

  same_cost : operation_cost (v ∷ vs) b m a.store ≡ bytes / 16 + members
  same_cost =
      (λ i. sym of_bytes i / 16 + sym of_members i)
      ∙ (λ i. (bytes + all_bytes (values_of a (last i))) / 16 + (members + all_members a.store (values_of a (last i))))
      ∙ (λ i. add-zero bytes i / 16 + add-zero members i)

  abbrev taking : Bool → ℕ → Ending (Unit {0}) (Unit {0})
  taking fits n = then_do (take_if fits n p (state_in a k)) (λ (u : Unit {0}). give (tt {0}))

  -- no budget has so many steps
  pub past_all : 2 ^ 64 ≤ bytes / 16 + members → k < 2 ^ 64 → paid_operation p (v ∷ vs) b m (give (tt {0})) (state_in a k) ≡ bad (fault_at kind.Steps p) (state_in a k)
  past_all much few = ap (λ n. taking (nat_le n k) n) same_cost ∙ ap (λ fits. taking fits (bytes / 16 + members)) (lt-leb (bytes / 16 + members) k (omega (arith, much, few)))

  pub paid_all : (n : ℕ) (r : Result (Unit {0}) Stop) (after : Here) → n ≡ bytes / 16 + members → Meets as_is r after (take_steps n p (state_in a k)) → Meets as_is r after (paid_operation p (v ∷ vs) b m (give (tt {0})) (state_in a k))
  paid_all n r after is e = subst (Meets as_is r after) (sym (ap (λ n. taking (nat_le n k) n) (same_cost ∙ sym is) ∙ alone (nat_le n k) n p (state_in a k))) e

-- counts before all others
pub begun : (b k x y : ℕ) → k ≡ y → b + k + x ≡ y + x + b
begun b k x y e = omega (arith, e)

paid_if : {A : Type 0} (b : Bool) (n : ℕ) (p : Place) (m : Computation (Unit {0}) A) (s : Here) → then_do (take_if b n p s) (λ u. m) ≡ then_do (then_do (take_if b n p s) (λ u. give (tt {0}))) (λ (u : Unit {0}). m)
paid_if true n p m s = refl
paid_if false n p m s = refl

-- what stands behind a cost goes on from it
pub after_cost : {A : Type 0} (p : Place) (vs : List Value) (bytes members : ℕ) (m : Computation (Unit {0}) A) (s : Here) → paid_operation p vs bytes members m s ≡ then_do (paid_operation p vs bytes members (give (tt {0})) s) (λ (u : Unit {0}). m)
after_cost p vs bytes members m s = let n = operation_cost vs bytes members s.store in paid_if (nat_le n s.steps) n p m s

-- the answer of a method whose arguments are read so
pub answer_read : (p : Place) (m : Method) (t : List ℕ) (vs : List Value) (os : Operands) (s : Here) → read_operands s.store m.kinds vs ≡ Some os → method_answer p m t vs s ≡ paid_answer p (text_value t ∷ vs) (m.answer t os) s
answer_read p m t vs os s e = ap (λ o. then_do (or_fail kind.ValueKind p o s) (λ os. paid_answer p (text_value t ∷ vs) (m.answer t os))) e

-- the answer of a method, where this is its text and what it costs was asked for so
module _ (p : Place) (m : Method) (t : List ℕ) (vs : List Value) (os : Operands) (s : Here) (a : Answer) (v : Value) (read : read_operands s.store m.kinds vs ≡ Some os) (is : a ≡ m.answer t os) (text : v ≡ text_value t) where
  goes_on : method_answer p m t vs s ≡ then_do (paid_operation p (v ∷ vs) (answer_bytes a) (answer_members a) (give (tt {0})) s) (λ (u : Unit {0}). give a)
  goes_on =
      answer_read p m t vs os s read
      ∙ ap (λ x. paid_answer p (text_value t ∷ vs) x s) (sym is)
      ∙ ap (λ w. paid_answer p (w ∷ vs) a s) (sym text)
      ∙ after_cost p (v ∷ vs) (answer_bytes a) (answer_members a) (give a) s

  pub answer_paid : (after : Here) → paid_operation p (v ∷ vs) (answer_bytes a) (answer_members a) (give (tt {0})) s ≡ done (tt {0}) after → method_answer p m t vs s ≡ done a after
  answer_paid after paid = goes_on ∙ ap (λ o. then_do o (λ (u : Unit {0}). give a)) paid

  pub answer_unpaid : {A : Type 0} (view : A → Answer) (after : Here) (x : Stop) → Meets as_is (Err x) after (paid_operation p (v ∷ vs) (answer_bytes a) (answer_members a) (give (tt {0})) s) → Meets view (Err x) after (method_answer p m t vs s)
  answer_unpaid view after (stop.Fault d) paid = goes_on ∙ ap (λ o. then_do o (λ (u : Unit {0}). give a)) paid
  answer_unpaid view after stop.Memory paid = tt

-- ---- a call

module _ (p : Place) (m : Method) (t : List ℕ) (args : Arguments) (a : View) (n : ℕ) (xs ys : List Name) (needed : xs ≡ m.needed) (optional : ys ≡ m.optional) where
  abbrev before : Here
  before = state_in a n

  -- its parameters are these
  abbrev bound : Ending (Unit {0}) (List Value)
  bound = bound_values p (parameters_named xs ys) (none_for_each ys) args before

  abbrev row : Ending (Unit {0}) Value
  row = method_row p m t args before

  begins : row ≡ then_do bound (λ vs. method_answer p m t vs >>= give_answer p)
  begins = λ i. then_do (bound_values p (parameters_named (sym needed i) (sym optional i)) (none_for_each (sym optional i)) args before) (λ vs. method_answer p m t vs >>= give_answer p)

  -- the arguments can't be bound
  pub unbound : (view : List Held → List Value) (x : Stop) → Meets view (Err x) before bound → Gives row (Err x) a a n
  unbound view (stop.Fault f) e = record { meaning = begins ∙ ap (λ o. then_do o (λ vs. method_answer p m t vs >>= give_answer p)) e; owns = tt; grows = grows_same a }
  unbound view stop.Memory e = record { meaning = tt; owns = tt; grows = grows_same a }

  module _ (vs : List Value) (is : bound ≡ done vs before) where
    goes : row ≡ then_do (method_answer p m t vs before) (give_answer p)
    goes = begins ∙ ap (λ o. then_do o (λ vs. method_answer p m t vs >>= give_answer p)) is

    -- the answer is refused
    pub unanswered : {A : Type 0} (view : A → Answer) (k : ℕ) (x : Stop) → Meets view (Err x) (state_in a k) (method_answer p m t vs before) → Gives row (Err x) a a k
    unanswered view k (stop.Fault f) e = record { meaning = goes ∙ ap (λ o. then_do o (give_answer p)) e; owns = tt; grows = grows_same a }
    unanswered view k stop.Memory e = record { meaning = tt; owns = tt; grows = grows_same a }

    -- it becomes a value
    pub answered : (b : View) (k : ℕ) (x : Answer) (result : Result Held Stop) → method_answer p m t vs before ≡ done x (state_in a k) → Gives (give_answer p x (state_in a k)) result a b k → Gives row result a b k
    answered b k x result e g = subst (λ o. Gives o result a b k) (sym (goes ∙ ap (λ o. then_do o (give_answer p)) e)) g
