-- What a computation gives: a value or a fault, each with the state that it leaves, or a question to the host; and the steps
-- that it takes. The host's own state is a parameter.
use Rattle.std.specs.Prelude.{ℕ, ◌-◌, nat_le, Bool, true, false, List, [], length, Option, Some, None, Result}
use Rattle.ytt_base.specs.declared.fault.Fault.{Fault}
use Rattle.ytt_base.specs.declared.fault.FaultKind.{FaultKind}
use Rattle.ytt_base.specs.declared.fault.FaultKind.TheVariants as kind
use Rattle.ytt_base.specs.declared.fault.Place.{Place}
use Rattle.ytt_base.specs.Outcomes.{fault_of}
use Rattle.code_spec.specs.Code.{Name}
use Rattle.value_spec.specs.Values.{Value, Values, Arguments, list_value, dict_value, Store, Contents, of_list, of_dict}
use Rattle.value_spec.specs.Store.{Refusal, frozen, iterating, index_range, key_missing, Answer, did, refused, Act, with_object}

-- the objects; the steps that are left; and the host's own state
pub record State (H : Type 0) : Type 0 where
  pub store : Store
  pub steps : ℕ
  pub host : H

-- what a host is asked: a native of it is called, or what it asked for has come to a value or a fault
pub data Question : Type 0 where
  called : Place → Name → (held : Values) → Arguments → Question
  resumed : Place → Name → (held : Values) → (tag : ℕ) → Result Value Fault → Question

-- what a native answers: a value, or a call that it asks for
pub data Reply : Type 0 where
  answer : Value → Reply
  call_then : (function : Value) → Arguments → (tag : ℕ) → Reply

-- how a computation ends: with a value, with a fault, or where the host is asked, with what comes of each reply or fault of it and
-- of the state that it leaves
pub data Ending (H A : Type 0) : Type 0 where
  done : A → State H → Ending H A
  bad : Fault → State H → Ending H A
  asks : Question → State H → (Result Reply Fault → State H → Ending H A) → Ending H A

infixl 4 ◌>>=◌
abbrev pub Computation : Type 0 → Type 0 → Type 0
Computation H A = State H → Ending H A

abbrev pub then_do : {H A B : Type 0} → Ending H A → (A → Computation H B) → Ending H B
then_do (done a s) f = f a s
then_do (bad e s) f = bad e s
then_do (asks q s k) f = asks q s (λ got t. then_do (k got t) f)

-- one computation, and then what follows from its value; the first fault is the end
abbrev pub ◌>>=◌ : {H A B : Type 0} → Computation H A → (A → Computation H B) → Computation H B
◌>>=◌ m f = λ s. then_do (m s) f

abbrev pub give : {H A : Type 0} → A → Computation H A
give a = λ s. done a s

abbrev pub fail_with : {H A : Type 0} → FaultKind → Place → (detail : List ℕ) → Computation H A
fail_with k p d = λ s. bad (record { kind = k; place = Some p; detail = d }) s

abbrev pub fail : {H A : Type 0} → FaultKind → Place → Computation H A
fail k p = fail_with k p []

abbrev pub or_fail : {H A : Type 0} → FaultKind → Place → Option A → Computation H A
or_fail k p None = fail k p
or_fail k p (Some a) = give a

-- a fault unless the test holds
abbrev pub need : {H : Type 0} → FaultKind → Place → Bool → Computation H (Unit {0})
need k p true = give tt
need k p false = fail k p

-- what a later form of the language answers
abbrev pub not_built : {H A : Type 0} → Place → Computation H A
not_built p = fail kind.NotBuilt p

-- what only a program in no proper form meets, a fault of no place
abbrev pub ill_formed : {H A : Type 0} → Computation H A
ill_formed = λ s. bad (fault_of kind.CodeForm) s

abbrev pub or_ill_formed : {H A : Type 0} → Option A → Computation H A
or_ill_formed None = ill_formed
or_ill_formed (Some a) = give a

-- ---- steps

abbrev pub take_if : {H : Type 0} → Bool → ℕ → Place → Computation H (Unit {0})
take_if true n p = λ s. done tt (record s { steps = s.steps - n })
take_if false n p = fail kind.Steps p

-- so many steps, which are taken at a place; where fewer are left, the fault is Steps
abbrev pub take_steps : {H : Type 0} → ℕ → Place → Computation H (Unit {0})
take_steps n p = λ s. take_if (nat_le n s.steps) n p s

-- a computation after so many steps
abbrev pub paid_by : {H A : Type 0} → ℕ → Place → Computation H A → Computation H A
paid_by n p m = take_steps n p >>= λ u. m

-- a computation after one step
abbrev pub paid : {H A : Type 0} → Place → Computation H A → Computation H A
paid p m = paid_by 1 p m

-- ---- the store

-- what is done to the state after a computation, whichever way it ends
abbrev pub finally : {H A : Type 0} → Ending H A → (State H → State H) → Ending H A
finally (done a s) f = done a (f s)
finally (bad e s) f = bad e (f s)
finally (asks q s k) f = asks q s (λ got t. finally (k got t) f)

abbrev pub on_store : {H : Type 0} → (Store → Store) → State H → State H
on_store f s = record s { store = f s.store }

abbrev pub refusal_kind : Refusal → FaultKind
refusal_kind frozen = kind.Frozen
refusal_kind iterating = kind.Iterating
refusal_kind index_range = kind.IndexRange
refusal_kind key_missing = kind.KeyMissing

abbrev pub after_act : {H A : Type 0} → Place → Answer Store A → Computation H A
after_act p (did a store) = λ s. done a (record s { store = store })
after_act p (refused why) = fail (refusal_kind why) p

-- an act on the store, whose refusal stands at a place
abbrev pub acting : {H A : Type 0} → Place → Act Store A → Computation H A
acting p act = λ s. after_act p (act s.store) s

-- what the store shows
abbrev pub reads : {H A : Type 0} → (Store → A) → Computation H A
reads f = λ s. done (f s.store) s

-- a new object, by its position
abbrev pub new_object : {H : Type 0} → Contents → Computation H ℕ
new_object c = λ s. done (length s.store) (on_store (with_object c) s)

abbrev pub new_list : {H : Type 0} → List Value → Computation H Value
new_list vs = new_object (of_list vs) >>= λ r. give (list_value r)

abbrev pub new_dict : {H : Type 0} → List (Value × Value) → Computation H Value
new_dict ps = new_object (of_dict ps) >>= λ r. give (dict_value r)
