-- What a method answers, and what it costs: a sixteenth of the bytes of the texts among its operands and of a text that it gives, and
-- the members of the collections among its operands and of one that it gives.
use Rattle.std.specs.Prelude.{ℕ, ◌+◌, ◌/◌, ℤ, Bool, List, [], ◌∷◌, length}
use Rattle.ytt_base.specs.declared.fault.FaultKind.TheVariants as kind
use Rattle.ytt_base.specs.declared.fault.Place.{Place}
use Rattle.operator_spec.specs.Operators.{int_of, tuple_of}
use Rattle.value_spec.specs.Members.{count_in}
use Rattle.value_spec.specs.Outcomes.{Computation, fail, give, new_list, paid_by, reads, ◌>>=◌}
use Rattle.value_spec.specs.Values.{Value, bool_value, text_value, Store}

-- ---- the cost of an operation

abbrev pub bytes_in : Value → ℕ
bytes_in (text_value t) = length t
bytes_in _ = 0

abbrev pub all_bytes : List Value → ℕ
all_bytes [] = 0
all_bytes (v ∷ vs) = bytes_in v + all_bytes vs

abbrev pub all_members : Store → List Value → ℕ
all_members store [] = 0
all_members store (v ∷ vs) = count_in store v + all_members store vs

-- of these operands, where what it gives has so many bytes and members
abbrev pub operation_cost : List Value → (bytes members : ℕ) → Store → ℕ
operation_cost vs bytes members store = (all_bytes vs + bytes) / 16 + (all_members store vs + members)

abbrev pub paid_operation : {H A : Type 0} → Place → List Value → (bytes members : ℕ) → Computation H A → Computation H A
paid_operation p vs bytes members m = reads (operation_cost vs bytes members) >>= λ n. paid_by n p m

-- ---- answers

-- a text, a test, a number, a list or a tuple of texts; or nothing, since what was sought isn't there
pub data Answer : Type 0 where
  one_text : List ℕ → Answer
  one_test : Bool → Answer
  one_number : ℤ → Answer
  text_list : List (List ℕ) → Answer
  text_tuple : List (List ℕ) → Answer
  nowhere : Answer

abbrev pub answer_bytes : Answer → ℕ
answer_bytes (one_text t) = length t
answer_bytes _ = 0

abbrev pub answer_members : Answer → ℕ
answer_members (text_list ts) = length ts
answer_members (text_tuple ts) = length ts
answer_members _ = 0

abbrev pub text_values : List (List ℕ) → List Value
text_values [] = []
text_values (t ∷ ts) = text_value t ∷ text_values ts

abbrev pub give_answer : {H : Type 0} → Place → Answer → Computation H Value
give_answer p (one_text t) = give (text_value t)
give_answer p (one_test b) = give (bool_value b)
give_answer p (one_number z) = int_of p z
give_answer p (text_list ts) = new_list (text_values ts)
give_answer p (text_tuple ts) = give (tuple_of (text_values ts))
give_answer p nowhere = fail kind.KeyMissing p

-- an answer, behind its cost
abbrev pub paid_answer : {H : Type 0} → Place → (operands : List Value) → Answer → Computation H Answer
paid_answer p vs a = paid_operation p vs (answer_bytes a) (answer_members a) (give a)
