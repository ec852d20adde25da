-- A host that answers what a run asks it: a reply or a fault, and the state that it leaves, by the question and the state that it is
-- asked in. Its own state goes from one answer to the next; the run knows nothing of it.
use Rattle.std.specs.Prelude.{[], Some, Result, Ok, Err}
use Rattle.ytt_base.specs.declared.fault.Fault.{Fault}
use Rattle.ytt_base.specs.declared.fault.FaultKind.TheVariants as kind
use Rattle.ytt_base.specs.declared.fault.Place.{Place}
use Rattle.value_spec.specs.Outcomes.{State, Question, called, resumed, Reply, Ending, done, bad, asks}

abbrev pub Answers : Type 0 → Type 0
Answers H = Question → State H → Result Reply Fault × State H

-- a state beside the host's own
abbrev pub with_host : {H : Type 0} → H → State (Unit {0}) → State H
with_host h s = record { store = s.store; steps = s.steps; host = h }

abbrev pub without_host : {H : Type 0} → State H → State (Unit {0})
without_host s = record { store = s.store; steps = s.steps; host = tt }

-- how a run ends where each question gets its answer, from the host's own state
abbrev pub hosted : {H A : Type 0} → Answers H → Ending (Unit {0}) A → H → Result A Fault × State H
hosted answers (done a s) h = (Ok a, with_host h s)
hosted answers (bad e s) h = (Err e, with_host h s)
hosted answers (asks q s k) h = let r = answers q (with_host h s) in hosted answers (k r.0 (without_host r.1)) r.1.host

-- where a native stands that is asked for
abbrev pub asked_at : Question → Place
asked_at (called p x held vs) = p
asked_at (resumed p x held tag got) = p

-- a host that knows no native: none can be called
abbrev pub knows_none : {H : Type 0} → Answers H
knows_none q s = (Err (record { kind = kind.ValueKind; place = Some (asked_at q); detail = [] }), s)
