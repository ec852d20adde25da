-- What contracts on types of data values say, over the plain data that results are seen as.
use Rattle.std.specs.Prelude.{◌≡◌, ℕ, Option, Some, None, Result, Ok, Err}
use Rattle.ytt_base.specs.declared.fault.Stop.{Stop}
use Rattle.ytt_base.specs.declared.fault.Stop.TheVariants as stop
use Rattle.ytt_base.specs.declared.text.Memory.{Memory}
use Rattle.ytt_base.specs.Trees.{Tree}
use Rattle.value_spec.specs.Outcomes.{State, done, bad, Computation}
use Rattle.value_spec.specs.Values.{Child, Store}
use Rattle.schema_spec.specs.Offences.{Wrong, mismatch, unknown_key, Offence, first_offence, fill}
use Rattle.schema_spec.specs.Reading.{schema_of}
use Rattle.schema_spec.specs.Schemas.{Schema}

-- a state with these objects and so many steps left, in which no host takes part
abbrev pub state_with : Store → (steps : ℕ) → State (Unit {0})
state_with store n = record { store = store; steps = n; host = tt }

-- What a call returned, seen by view, with the steps before it and after it, is how a computation ends that changes no object; want of
-- memory says nothing.
abbrev pub Ends : {X A : Type 0} → (X → A) → Result X Stop → Store → (before after : ℕ) → Computation (Unit {0}) A → Type 0
Ends view (Ok x) store before after m = m (state_with store before) ≡ done (view x) (state_with store after)
Ends view (Err (stop.Fault f)) store before after m = m (state_with store before) ≡ bad f (state_with store after)
Ends view (Err stop.Memory) store before after m = Unit {0}

-- `read_schema`: the type of a document, or its refusal, with the steps of the conversions
abbrev pub ReadsSchema : {X : Type 0} → (X → Schema) → Result X Stop → Store → (before after : ℕ) → Child → Type 0
ReadsSchema view result store before after document = Ends view result store before after (schema_of document)

-- where an offence stands: the node with its type; for an unknown key its map and that map's type
abbrev pub offender : Wrong → Schema × Tree
offender (mismatch s t) = (s, t)
offender (unknown_key s t) = (s, t)

abbrev pub found : Option Offence → Option (Schema × Tree)
found None = None
found (Some o) = Some (offender o.wrong)

-- `first_offence`, which takes no memory
abbrev pub FindsOffence : {X : Type 0} → (X → Schema × Tree) → (result : Option X) → Schema → Tree → Type 0
FindsOffence view None s t = found (first_offence s t) ≡ None
FindsOffence view (Some x) s t = found (first_offence s t) ≡ Some (view x)

-- `offence_path`; its view gives the path, and whether the key is unknown, with the node and its type left out
abbrev pub OffendsAt : {X : Type 0} → (X → Offence → Type 0) → Result (Option X) Memory → Schema → Tree → Type 0
OffendsAt sees (Ok None) s t = first_offence s t ≡ None
OffendsAt sees (Ok (Some x)) s t = (o : Offence) × ((first_offence s t ≡ Some o) × sees x o)
OffendsAt sees (Err e) s t = Unit {0}

-- `fill`
abbrev pub Fills : {X : Type 0} → (X → Tree) → Result X Memory → Schema → Tree → Type 0
Fills view (Ok x) s t = view x ≡ fill s t
Fills view (Err e) s t = Unit {0}
