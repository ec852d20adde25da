-- A call of a value, by recursion on the calls of functions that may still stand in one another; the code of a function
-- is known by its file and its number. The language's own functions, and the natives that a host answers, are no such
-- calls. A native may ask for calls, each after a step, so the steps left bound those that stand in one another.
use Rattle.std.specs.Prelude.{ℕ, zero, suc, List, [], ◌∷◌, Option, Result, Ok, Err}
use Rattle.ytt_base.specs.declared.fault.Fault.{Fault}
use Rattle.ytt_base.specs.declared.fault.FaultKind.TheVariants as kind
use Rattle.ytt_base.specs.declared.fault.Place.{Place}
use Rattle.builtin_spec.specs.Sorting.{Keyed, without_keys, asks_keys}
use Rattle.code_spec.specs.Code.{Name, Expr, Parameters}
use Rattle.code_spec.specs.Program.{ItemKind}
use Rattle.value_spec.specs.Values.{Value, function_value, native_value, builtin, method, host_native, Values, Arguments, one_value, Env, Function}
use Rattle.value_spec.specs.Outcomes.{State, Reply, answer, call_then, called, resumed, Ending, done, bad, asks, then_do, Computation, paid, give, fail, or_fail, ill_formed, or_ill_formed, reads, ◌>>=◌}
use Rattle.star_spec.specs.Language.{Call, Language}
use Rattle.value_spec.specs.Store.{function_at}

-- ---- code

-- the code of a function, whose block is a B; a fragment function has the kind of its items
pub data Code (B : Type 0) : Type 0 where
  of_lambda : Parameters → Expr → Code B
  of_def : Parameters → (fragment : Option ItemKind) → B → Code B

abbrev pub Table : Type 0 → Type 0
Table B = (file number : ℕ) → Option (Code B)

abbrev pub parameters_of : {B : Type 0} → Code B → Parameters
parameters_of (of_lambda ps e) = ps
parameters_of (of_def ps fragment b) = ps

-- the names that it binds besides its parameters
abbrev pub names_of : {B : Type 0} → (B → List Name) → Code B → List Name
names_of names (of_lambda ps e) = []
names_of names (of_def ps fragment b) = names b

-- what the block of a function does in a scope, and what the call gives
abbrev pub Enter : Type 0 → Type 0 → Type 0
Enter H B = Call H → (fragment : Option ItemKind) → B → Env → Computation H Value

abbrev pub enter_code : {H B : Type 0} → Language H → Enter H B → Call H → Code B → Env → Computation H Value
enter_code language enter call (of_lambda ps e) env = language.eval call e env
enter_code language enter call (of_def ps fragment b) env = enter call fragment b env

-- ---- natives

-- the natives, by their names and what they hold; what a call that one asked for gave comes back to it, a value or a fault
pub record Host (H : Type 0) : Type 0 where
  pub ask : Place → Name → Values → Arguments → Computation H Reply
  pub resume : Place → Name → Values → (tag : ℕ) → Result Value Fault → Computation H Reply

-- a native that no host knows can't be called
abbrev pub no_natives : {H : Type 0} → Host H
no_natives = record { ask = λ p x held vs. fail kind.ValueKind p; resume = λ p x held tag got. fail kind.ValueKind p }

abbrev pub replied : {H : Type 0} → Result Reply Fault → State H → Ending H Reply
replied (Ok r) s = done r s
replied (Err e) s = bad e s

-- natives of whom a host is asked, whatever it answers
abbrev pub asking : {H : Type 0} → Host H
asking = record { ask = λ p x held vs s. asks (called p x held vs) s replied; resume = λ p x held tag got s. asks (resumed p x held tag got) s replied }

abbrev pub resumed_with : {H : Type 0} → Host H → Place → Name → Values → (tag : ℕ) → Ending H Value → Ending H Reply
resumed_with host p x held tag (done v s) = host.resume p x held tag (Ok v) s
resumed_with host p x held tag (bad e s) = host.resume p x held tag (Err e) s
resumed_with host p x held tag (asks q s k) = asks q s (λ got t. resumed_with host p x held tag (k got t))

-- ---- calls by what is called

-- a function of a file, one of the language's own, or a native; nothing else can be called
abbrev pub call_by_kind : {H : Type 0} → Language H → (function : Call H) → (native : Place → Name → Values → Arguments → Computation H Value) →
    (keyed : Place → Keyed → Computation H Value) → Call H
call_by_kind language function native keyed p (function_value r) vs = function p (function_value r) vs
call_by_kind language function native keyed p (native_value (builtin x)) vs = language.own_call p (native_value (builtin x)) vs >>= keyed p
call_by_kind language function native keyed p (native_value (method x v)) vs = language.own_call p (native_value (method x v)) vs >>= keyed p
call_by_kind language function native keyed p (native_value (host_native x held)) vs = native p x held vs
call_by_kind language function native keyed p _ vs = fail kind.ValueKind p

-- a call with one argument by position asks for no keys
abbrev pub no_keys : {H : Type 0} → Place → Keyed → Computation H Value
no_keys p (without_keys v) = give v
no_keys p (asks_keys w g members) = ill_formed

-- the keys of members, in their order; these calls take no step
abbrev pub keys_by : {H : Type 0} → Call H → Place → Value → List Value → Computation H (List Value)
keys_by call p g [] = give []
keys_by call p g (v ∷ vs) = do
  k ← call p g (one_value v)
  ks ← keys_by call p g vs
  give (k ∷ ks)

abbrev pub with_keys : {H : Type 0} → Language H → Call H → Place → Keyed → Computation H Value
with_keys language call p (without_keys v) = give v
with_keys language call p (asks_keys w g members) = keys_by call p g members >>= language.own_call_keyed p w members

abbrev pub any_call : {H : Type 0} → Language H → (function : Call H) → (native : Place → Name → Values → Arguments → Computation H Value) → Call H
any_call language function native = call_by_kind language function native (with_keys language (call_by_kind language function native no_keys))

-- ---- calls of natives

-- What follows a native's reply. The step of a call that it asks for stands at its own call, and where none is left it
-- isn't resumed; so no more calls are asked for than steps are left.
abbrev pub after_reply : {H : Type 0} → Language H → Host H → (function : Call H) → (left : ℕ) → Place → Name → Values → Reply → Computation H Value
after_reply language host function left p x held (answer v) = give v
after_reply language host function zero p x held (call_then f vs tag) = fail kind.Steps p
after_reply language host function (suc left) p x held (call_then f vs tag) =
    paid p (λ s. then_do (resumed_with host p x held tag
    (any_call language function (λ q y kept ws. host.ask q y kept ws >>= after_reply language host function left q y kept) p f vs s))
    (after_reply language host function left p x held))

-- a call of a native, which may ask for calls while so many steps are left
abbrev pub native_call : {H : Type 0} → Language H → Host H → (function : Call H) → (left : ℕ) → Place → Name → Values → Arguments → Computation H Value
native_call language host function left p x held vs = host.ask p x held vs >>= after_reply language host function left p x held

-- a call where functions of files are called so, and so many steps are left for the calls that natives ask for
abbrev pub call_with_natives : {H : Type 0} → Language H → Host H → (function : Call H) → (left : ℕ) → Call H
call_with_natives language host function left = any_call language function (native_call language host function left)

-- ---- functions of files

-- the function that a value is, or ValueKind
abbrev pub function_of : {H : Type 0} → Place → Value → Computation H Function
function_of p (function_value r) = reads (function_at r) >>= or_fail kind.ValueKind p
function_of p _ = fail kind.ValueKind p

-- a call of a function, whose block may make the calls `below`
abbrev pub function_call : {H B : Type 0} → Language H → (B → List Name) → Enter H B → Table B → (below : Call H) → Call H
function_call language names enter table below p f vs = do
  g ← function_of p f
  c ← or_ill_formed (table g.file g.number)
  env ← language.bind p (parameters_of c) (names_of names c) g.defaults vs g.env
  enter_code language enter below c env

abbrev pub too_deep : {H : Type 0} → Call H
too_deep p f vs = function_of p f >>= λ g. fail kind.Depth p

-- a call, where so many calls of functions may stand in one another
abbrev pub apply : {H B : Type 0} → Language H → Host H → (B → List Name) → Enter H B → Table B → (depth : ℕ) → Call H
apply language host names enter table zero p f vs = λ s. call_with_natives language host too_deep s.steps p f vs s
apply language host names enter table (suc d) p f vs =
    λ s. call_with_natives language host (function_call language names enter table (apply language host names enter table d)) s.steps p f vs s
