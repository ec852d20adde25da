-- Calls, as they begin and end.
use Rattle.std.proofs.Common.{◌≡◌, ◌-◌, Bool, true, false, if◌then◌else◌, arith, bytes_eq, codes, ℕ, zero, suc, List, [], ◌∷◌, ◌++◌, Option, Some, None, Result, option_map, refl, ap, subst, sym, ◌∙◌}
use Rattle.std.proofs.lemmas.List.{reverse-append}
use Rattle.ytt_base.specs.declared.fault.FaultKind.TheVariants as kind
use Rattle.ytt_base.specs.declared.fault.Fault.{Fault}
use Rattle.ytt_base.specs.declared.fault.Place.{Place}
use Rattle.ytt_base.specs.declared.fault.Stop.{Stop}
use Rattle.ytt_base.specs.Outcomes.{fault_at, fault_of}
use Rattle.builtin_spec.specs.Calls.{asked_row, keyed_or, own_row}
use Rattle.builtin_spec.specs.Sorting.{Keyed, Wanted, asks_keys, first_row, keyed_builtin, members_taken, sorted_row, wanted_row, without_keys}
use Rattle.code_spec.specs.Blocks.{Ops}
use Rattle.code_spec.specs.Allowed.{parameter_names}
use Rattle.code_spec.specs.Code.{Name}
use Rattle.code_spec.specs.Scopes.{ops_names}
use Rattle.star_functions.specs.Table.{code_with, table_of}
use Rattle.star_functions.specs.View.{code_of}
use Rattle.star_functions.specs.declared.function.FunctionCode.{FunctionCode}
use Rattle.star_functions.specs.declared.functions.Functions.{Functions}
use Rattle.star_spec.specs.Binding.{scope_of_call}
use Rattle.star_spec.specs.Calls.{Code, asking, call_by_kind, enter_code, keys_by, native_call, no_keys, names_of, parameters_of, with_keys}
use Rattle.star_spec.specs.Eval.{starlark}
use Rattle.star_spec.specs.Flow.{Flow}
use Rattle.star_spec.specs.Language.{Call}
use Rattle.star_calls.specs.Scope.{GivesScope}
use Rattle.star_resolve.specs.Frames.{added}
use Rattle.star_steps.specs.Meets.{state_in}
use Rattle.star_tree.specs.View.{item_kind_of}
use Rattle.star_tree.specs.Whole as whole
use Rattle.star_tree.specs.declared.code.Param.{Param}
use Rattle.star_values.specs.View.{View}
use Rattle.star_tree.specs.declared.program.ItemKind.{ItemKind}
use Rattle.star_values.proofs.Growing.{each_joined, grows_same}
use Rattle.star_values.specs.Objects.{env_in}
use Rattle.star_values.specs.Owns.{OwnsEnv, Grows}
use Rattle.star_values.specs.declared.object.NamedBox.{NamedBox}
use Rattle.template_meaning.specs.Calls.{bottom, enter_ops, level_of}
use Rattle.value_spec.proofs.Computations.{then_ext}
use Rattle.value_spec.specs.Outcomes.{Computation, Ending, Reply, State, asks, bad, called, done, fail, give, or_fail, or_ill_formed, then_do, ◌>>=◌}
use Rattle.value_spec.specs.Store.{function_at}
use Rattle.value_spec.specs.Values as plain
use Rattle.value_spec.specs.Values.{Arguments, Function, function_value, native_value, builtin, method, host_native, one_value, replacement}
use Rattle.star_eval.specs.declared.frame.Caller.{Caller}
use Rattle.star_eval.specs.declared.frame.Control.{Control}
use Rattle.star_eval.specs.declared.frame.Control.TheVariants as control
use Rattle.star_eval.specs.declared.frame.Frame.TheVariants as frame
use Rattle.star_eval.specs.declared.frame.Machine.{Machine}
use Rattle.star_eval.specs.Calling.{after_question, after_replied, calls_at, calls_from, calls_of, functions_at}
use Rattle.star_eval.specs.Hosts.{host_held, host_name, is_hosted}
use Rattle.star_eval.specs.Doing.{Nodes}
use Rattle.star_eval.specs.Frames.{Goes, Opened, around_flow, around_value}
use Rattle.star_eval.specs.Meets.{Here, state_of}
use Rattle.star_eval.specs.View.{OwnsFrame, Sound, arena_in, caller_of, frames_of, in_file, nodes_in, setting_of, waiting_in}
use Rattle.star_eval.specs.Waiting.{call_gives, setting}

-- ---- what asks for no keys

abbrev Unasked : Ending Here Keyed → Type 0
Unasked (done (without_keys v) s) = Unit {0}
Unasked (done (asks_keys w f vs) s) = ⊥
Unasked (bad e s) = Unit {0}
Unasked (asks q s k) = (got : Result Reply Fault) (t : State Here) → Unasked (k got t)

unasked_then : {A : Type 0} (e : Ending Here A) (f : A → Computation Here Keyed) → ((a : A) (s : State Here) → Unasked (f a s)) → Unasked (then_do e f)
unasked_then (done a s) f h = h a s
unasked_then (bad d s) f h = tt
unasked_then (asks q s k) f h = λ got t. unasked_then (k got t) f h

plain_unasked : (e : Ending Here plain.Value) → Unasked (then_do e (λ v. give (without_keys v)))
plain_unasked (done v s) = tt
plain_unasked (bad d s) = tt
plain_unasked (asks q s k) = λ got t. plain_unasked (k got t)

-- what may ask, without a key that is given
abbrev RowUnasked : Option (Place → Arguments → Computation Here Keyed) → Type 0
RowUnasked None = Unit {0}
RowUnasked (Some row) = (p : Place) (v : plain.Value) (s : State Here) → Unasked (row p (one_value v) s)

if_unasked : (b : Bool) (o q : Option (Place → Arguments → Computation Here Keyed)) → RowUnasked o → RowUnasked q → RowUnasked (if b then o else q)
if_unasked true o q h k = h
if_unasked false o q h k = k

table_unasked : (x : Name) → RowUnasked (keyed_builtin x)
table_unasked x =
    if_unasked (bytes_eq x (codes "sorted")) (Some sorted_row) _ (λ p v s. unasked_then (members_taken p v s) (λ vs. wanted_row p (record { first_alone = false; descending = false }) vs vs >>= λ w. give (without_keys w)) (λ vs t. plain_unasked (wanted_row p (record { first_alone = false; descending = false }) vs vs t)))
    (if_unasked (bytes_eq x (codes "min")) (Some (first_row false)) _ (λ p v s. unasked_then (members_taken p v s) (λ vs. wanted_row p (record { first_alone = true; descending = false }) vs vs >>= λ w. give (without_keys w)) (λ vs t. plain_unasked (wanted_row p (record { first_alone = true; descending = false }) vs vs t)))
    (if_unasked (bytes_eq x (codes "max")) (Some (first_row true)) None (λ p v s. unasked_then (members_taken p v s) (λ vs. wanted_row p (record { first_alone = true; descending = true }) vs vs >>= λ w. give (without_keys w)) (λ vs t. plain_unasked (wanted_row p (record { first_alone = true; descending = true }) vs vs t))) tt))

or_unasked : (p : Place) (f v : plain.Value) (o : Option (Place → Arguments → Computation Here Keyed)) (s : State Here) → RowUnasked o → Unasked (keyed_or p f (one_value v) o s)
or_unasked p f v None s h = plain_unasked (own_row p f (one_value v) s)
or_unasked p f v (Some row) s h = h p v s

-- no native asks for keys that is called with one argument by position
never_asks : (p : Place) (x : plain.Native) (v : plain.Value) (s : State Here) → Unasked (asked_row p (native_value x) (one_value v) s)
never_asks p (builtin x) v s = or_unasked p (native_value (builtin x)) v (keyed_builtin x) s (table_unasked x)
never_asks p (method x y) v s = plain_unasked (own_row p (native_value (method x y)) (one_value v) s)
never_asks p (host_native x held) v s = plain_unasked (own_row p (native_value (host_native x held)) (one_value v) s)
never_asks p (replacement y) v s = plain_unasked (own_row p (native_value (replacement y)) (one_value v) s)

-- so it isn't how such a call ends
pub none_asked : (p : Place) (x : plain.Native) (v : plain.Value) (s t : State Here) (w : Wanted) (f : plain.Value) (vs : List plain.Value) → asked_row p (native_value x) (one_value v) s ≡ done (asks_keys w f vs) t → ⊥
none_asked p x v s t w f vs e = subst Unasked e (never_asks p x v s)

no_difference : (call : Call Here) (p : Place) (e : Ending Here Keyed) → Unasked e → then_do e (no_keys p) ≡ then_do e (with_keys starlark call p)
no_difference call p (done (without_keys v) s) h = refl
no_difference call p (done (asks_keys w f vs) s) h = absurd h
no_difference call p (bad d s) h = refl
no_difference call p (asks q s k) h = λ i. asks q s (λ got t. no_difference call p (k got t) (h got t) i)

-- ---- what is called

-- what is no function and no native
abbrev pub is_called : plain.Value → Bool
is_called (function_value r) = true
is_called (native_value x) = true
is_called _ = false

module _ (f : Call Here) (left : ℕ) (p : Place) where
  -- the call by which keys are asked for
  abbrev for_keys : Call Here
  for_keys = call_by_kind starlark f (native_call starlark asking f left) no_keys

  pub by_function : (vs : Arguments) (s : State Here) (r : ℕ) → calls_from f left p (function_value r) vs s ≡ f p (function_value r) vs s
  unfolding calls_from
  by_function vs s r = refl

  pub by_nothing : (vs : Arguments) (s : State Here) (v : plain.Value) → is_called v ≡ false → calls_from f left p v vs s ≡ bad (fault_at kind.ValueKind p) s
  unfolding calls_from
  by_nothing vs s (function_value r) h = cc
  by_nothing vs s (native_value x) h = cc
  by_nothing vs s v h = refl

  -- a host is asked about its own
  pub by_host : (vs : Arguments) (s : State Here) (x : plain.Native) → is_hosted x ≡ true → calls_from f left p (native_value x) vs s ≡ after_question f left p (host_name x) (host_held x) (called p (host_name x) (host_held x) vs) s
  unfolding calls_from after_replied
  by_host vs s (host_native x held) h = refl
  by_host vs s (builtin x) h = cc
  by_host vs s (method x v) h = cc
  by_host vs s (replacement v) h = cc

  by_language : (vs : Arguments) (s : State Here) (x : plain.Native) → is_hosted x ≡ false → calls_from f left p (native_value x) vs s ≡ then_do (asked_row p (native_value x) vs s) (with_keys starlark for_keys p)
  unfolding calls_from
  by_language vs s (builtin x) h = refl
  by_language vs s (method x v) h = refl
  by_language vs s (host_native x held) h = cc
  by_language vs s (replacement v) h = refl

  unkeyed : (v : plain.Value) (s : State Here) (x : plain.Native) → is_hosted x ≡ false → for_keys p (native_value x) (one_value v) s ≡ then_do (asked_row p (native_value x) (one_value v) s) (no_keys p)
  unkeyed v s (builtin x) h = refl
  unkeyed v s (method x y) h = refl
  unkeyed v s (host_native x held) h = cc
  unkeyed v s (replacement y) h = refl

  key_of_native : (v : plain.Value) (s : State Here) (x : plain.Native) (b : Bool) → is_hosted x ≡ b → for_keys p (native_value x) (one_value v) s ≡ calls_from f left p (native_value x) (one_value v) s
  unfolding calls_from
  key_of_native v s (host_native x held) true h = refl
  key_of_native v s (builtin x) true h = cc
  key_of_native v s (method x y) true h = cc
  key_of_native v s (replacement y) true h = cc
  key_of_native v s x false h = unkeyed v s x h ∙ no_difference for_keys p (asked_row p (native_value x) (one_value v) s) (never_asks p x v s) ∙ sym (by_language (one_value v) s x h)

  -- a key is asked for as by any other call
  for_keys_called : (v : plain.Value) (s : State Here) (g : plain.Value) → for_keys p g (one_value v) s ≡ calls_from f left p g (one_value v) s
  for_keys_called v s (function_value r) = sym (by_function (one_value v) s r)
  for_keys_called v s (native_value x) = key_of_native v s x (is_hosted x) refl
  for_keys_called v s g = sym (by_nothing (one_value v) s g refl)

keys_same : (call other : Call Here) (p : Place) (g : plain.Value) (vs : List plain.Value) → ((v : plain.Value) (s : State Here) → call p g (one_value v) s ≡ other p g (one_value v) s) → (s : State Here) → keys_by call p g vs s ≡ keys_by other p g vs s
keys_same call other p g [] h s = refl
keys_same call other p g (v ∷ vs) h s =
    ap (λ e. then_do e (λ k. keys_by call p g vs >>= λ ks. give (k ∷ ks))) (h v s)
    ∙ then_ext (other p g (one_value v) s) _ _ (λ k t. ap (λ e. then_do e (λ ks. give (k ∷ ks))) (keys_same call other p g vs h t))

with_same : (call other : Call Here) (p : Place) → ((v : plain.Value) (s : State Here) (g : plain.Value) → call p g (one_value v) s ≡ other p g (one_value v) s) → (k : Keyed) (s : State Here) → with_keys starlark call p k s ≡ with_keys starlark other p k s
with_same call other p h (without_keys v) s = refl
with_same call other p h (asks_keys w g vs) s = ap (λ e. then_do e (wanted_row p w vs)) (keys_same call other p g vs (λ v s. h v s g) s)

-- natives may ask for as many calls as there are steps
pub by_steps : (f : Call Here) (p : Place) (g : plain.Value) (vs : Arguments) (s : State Here) → calls_of f p g vs s ≡ calls_from f s.steps p g vs s
unfolding calls_of
by_steps f p g vs s = refl

-- a native of the language answers, or asks for keys by these calls
pub by_own : (f : Call Here) (left : ℕ) (p : Place) (vs : Arguments) (s : State Here) (x : plain.Native) → is_hosted x ≡ false →
    calls_from f left p (native_value x) vs s ≡ then_do (asked_row p (native_value x) vs s) (with_keys starlark (calls_from f left) p)
by_own f left p vs s x h =
    by_language f left p vs s x h ∙ then_ext (asked_row p (native_value x) vs s) _ _ (with_same (for_keys f left p) (calls_from f left) p (λ v t g. for_keys_called f left p v t g))

-- ---- functions

module _ (fs : Functions) (p : Place) (vs : Arguments) (s : State Here) where
  pub depth_wanting : (d r : ℕ) (g : Function) → d ≡ 0 → function_at r s.store ≡ Some g → functions_at fs d p (function_value r) vs s ≡ bad (fault_at kind.Depth p) s
  unfolding functions_at
  depth_wanting zero r g z h = ap (λ o. then_do (or_fail kind.ValueKind p o s) (λ g. fail kind.Depth p)) h
  depth_wanting (suc d) r g z h = absurd (omega (arith, z))

  -- what a call of a function comes to
  abbrev Entered : ℕ → Function → Option (Code Ops) → Ending Here plain.Value
  Entered d g o = (or_ill_formed o >>= λ c. scope_of_call p (parameters_of c) (names_of ops_names c) g.defaults vs g.env >>= λ env. enter_code starlark (enter_ops starlark) (calls_at fs d) c env) s

  function_called : (d r : ℕ) (g : Function) → function_at r s.store ≡ Some g → functions_at fs (suc d) p (function_value r) vs s ≡ Entered d g (table_of fs g.file g.number)
  unfolding functions_at
  function_called d r g h =
      ap (λ o. then_do (or_fail kind.ValueKind p o s) (λ g. or_ill_formed (table_of fs g.file g.number) >>= λ c. scope_of_call p (parameters_of c) (names_of ops_names c) g.defaults vs g.env >>= λ env. enter_code starlark (enter_ops starlark) (calls_at fs d) c env)) h

  called_so : (d r : ℕ) (g : Function) → (d ≡ 0 → ⊥) → function_at r s.store ≡ Some g → functions_at fs d p (function_value r) vs s ≡ Entered (d - 1) g (table_of fs g.file g.number)
  called_so zero r g z h = absurd (z refl)
  called_so (suc d) r g z h =
      let less : d ≡ suc d - 1 = omega arith in
      function_called d r g h ∙ (λ i. Entered (less i) g (table_of fs g.file g.number))

  pub not_found : (d r : ℕ) (g : Function) → (d ≡ 0 → ⊥) → function_at r s.store ≡ Some g → code_with g.file g.number fs ≡ None → functions_at fs d p (function_value r) vs s ≡ bad (fault_of kind.CodeForm) s
  not_found d r g z h none = called_so d r g z h ∙ ap (λ o. Entered (d - 1) g (option_map (code_of g.file) o)) none

  pub found : (d r : ℕ) (g : Function) (c : FunctionCode) → (d ≡ 0 → ⊥) → function_at r s.store ≡ Some g → code_with g.file g.number fs ≡ Some c → functions_at fs d p (function_value r) vs s ≡
      (scope_of_call p (parameters_of (code_of g.file c)) (names_of ops_names (code_of g.file c)) g.defaults vs g.env >>= λ env. enter_code starlark (enter_ops starlark) (calls_at fs (d - 1)) (code_of g.file c) env) s
  found d r g c z h some = called_so d r g z h ∙ ap (λ o. Entered (d - 1) g (option_map (code_of g.file) o)) some

-- the scope of a call, by the parameters of its code
pub scope_given : (file n r : ℕ) (g : Function) (code : FunctionCode) (params : List Param) (fresh : List Name) (p : Place) (vs : Arguments) (a b : View) (result : Result (List NamedBox) Stop) →
    ((file n : ℕ) (names : List Name) (g : Function) → fresh ≡ added (parameter_names (whole.parameters_of file params)) names → function_at r a.store ≡ Some g →
    GivesScope (scope_of_call p (whole.parameters_of file params) names g.defaults vs g.env (state_in a n)) result a b n) →
    ((file : ℕ) → fresh ≡ added (parameter_names (parameters_of (code_of file code))) (names_of ops_names (code_of file code))) →
    ((file : ℕ) → whole.parameters_of file params ≡ parameters_of (code_of file code)) → function_at r a.store ≡ Some g →
    GivesScope (scope_of_call p (parameters_of (code_of file code)) (names_of ops_names (code_of file code)) g.defaults vs g.env (state_in a n)) result a b n
scope_given file n r g code params fresh p vs a b result h besides same there =
    let names = names_of ops_names (code_of file code) in
    subst (λ ps. GivesScope (scope_of_call p ps names g.defaults vs g.env (state_in a n)) result a b n) (same file)
    (h file n names g (besides file ∙ (λ i. added (parameter_names (sym (same file) i)) names)) there)

-- a fault that changes nothing
pub refused : (m : Machine) (f : Computation Here plain.Value) (d : Fault) (x : Control) → Sound m → x ≡ control.Failed d → f (state_of m.session) ≡ bad d (state_of m.session) →
    Goes (arena_in m) m x (around_value m (waiting_in m) (f (state_of m.session)))
refused m f d x sound is e =
    subst (λ x. Goes (arena_in m) m x (around_value m (waiting_in m) (f (state_of m.session)))) (sym is) (record { same = ap (around_value m (waiting_in m)) (sym e); sound = sound; owned = tt; grows = grows_same (arena_in m) })

-- ---- a call that has begun

module _ (m n : Machine) (file : ℕ) (fragment : Option ItemKind) (scope : List NamedBox) (o : Opened file fragment scope m n) (sound : Sound m) (owned : OwnsEnv (arena_in m) scope) where
  abbrev Waits : Caller
  Waits = record { file = m.code.file; depth = m.depth; scope = m.scope; nodes = m.nodes; fragment = fragment }

  abbrev Begun : Machine
  Begun = record m { code = in_file file m.code; depth = m.depth - 1; scope = scope; nodes = o.nodes; frames = m.frames ++ frame.Call Waits ∷ [] }

  begun_sound : Sound Begun
  begun_sound = record { scope = owned; nodes = o.owned (arena_in m); frames = each_joined (OwnsFrame (arena_in m)) m.frames (frame.Call Waits ∷ []) sound.frames ((sound.scope, sound.nodes), tt) }

  begun_waits : waiting_in Begun ≡ caller_of (arena_in m) m.code Waits ∷ waiting_in m
  begun_waits = ap (frames_of (arena_in m) (in_file file m.code)) (reverse-append m.frames (frame.Call Waits ∷ []))

  pub opened_sound : Sound n
  opened_sound = subst Sound (sym o.is) begun_sound

  pub opened_grows : Grows (arena_in m) (arena_in n)
  opened_grows = subst (λ (x : Machine). Grows (arena_in m) (arena_in x)) (sym o.is) (grows_same (arena_in m))

  pub opened_setting : setting_of n ≡ setting (functions_at m.code.functions (m.depth - 1)) (env_in (arena_in m).held scope)
  opened_setting = ap setting_of o.is

  pub opened_nodes : nodes_in n ≡ bottom (level_of (option_map item_kind_of fragment)) ∷ []
  opened_nodes = ap nodes_in o.is ∙ o.meaning (arena_in m)

  pub opened_state : state_of n.session ≡ state_of m.session
  opened_state = ap (λ (x : Machine). state_of x.session) o.is

  pub opened_file : n.code.file ≡ file
  opened_file = ap (λ (x : Machine). x.code.file) o.is

  pub opened_value : (r : Ending Here plain.Value) → around_value n (waiting_in n) r ≡ around_value m (waiting_in m) r
  opened_value r = ap (λ (x : Machine). around_value x (waiting_in x) r) o.is ∙ ap (λ ws. around_value Begun ws r) begun_waits

  pub opened_flow : (r : Ending Here (Flow Nodes)) → around_flow n (waiting_in n) r ≡ around_value m (waiting_in m) (call_gives (option_map item_kind_of fragment) r)
  opened_flow r = ap (λ (x : Machine). around_flow x (waiting_in x) r) o.is ∙ ap (λ ws. around_flow Begun ws r) begun_waits
