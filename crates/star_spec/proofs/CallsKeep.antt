-- Statements, bindings and calls keep what the program holds.
use Rattle.std.proofs.Common.{◌≡◌, ℕ, zero, suc, List, [], ◌∷◌, ◌++◌, Option, Some, None, Result, Ok, Err, IsUtf8}
use Rattle.ytt_base.specs.declared.fault.Fault.{Fault}
use Rattle.ytt_base.specs.declared.fault.FaultKind.TheVariants as kind
use Rattle.ytt_base.specs.declared.fault.Place.{Place}
use Rattle.builtin_spec.specs.Sorting.{Keyed, Wanted, without_keys, asks_keys}
use Rattle.code_spec.specs.Allowed.{parameter_names}
use Rattle.star_spec.specs.Binding.{boxes_for, scope_of_call}
use Rattle.star_spec.specs.Calls.{Code, Table, parameters_of, names_of, Enter, enter_code, Host, no_natives, replied, asking, resumed_with, after_reply, native_call, call_by_kind, no_keys, keys_by, with_keys, any_call, call_with_natives, function_of, function_call, too_deep, apply}
use Rattle.code_spec.specs.Code.{Name, Expr, Exprs, BinaryOperator, Parameters, Statement, evaluate, assign, augment, load, return, break, continue, pass}
use Rattle.star_spec.specs.Eval.{starlark}
use Rattle.star_spec.specs.Held.{HeldValue, HeldValues, HeldExpr, HeldExprs, HeldParameters, HeldStatement, HeldList, HeldArguments, HeldStore, HeldReply, HeldAnswer, HeldGot}
use Rattle.star_spec.specs.Language.{Call, Language, Word, breaks, continues, returns, execute, define}
use Rattle.star_spec.specs.Names.{box_of}
use Rattle.value_spec.specs.Outcomes.{State, Reply, answer, call_then, Ending, done, bad, asks, then_do, Computation, ◌>>=◌}
use Rattle.value_spec.specs.Store.{object_at, function_at}
use Rattle.value_spec.specs.Values.{Value, function_value, native_value, builtin, method, host_native, Values, Arguments, one_value, Env, Function, of_box, of_function}
use Rattle.star_spec.proofs.BindingsKeep.{bound_keeps}
use Rattle.star_spec.proofs.SortingKeeps.{HeldKeyed, asked_keeps, wanted_keeps}
use Rattle.star_spec.proofs.EvalKeeps.{CallKeeps, eval_keeps, arguments_keep, assign_keeps, augment_keeps, defaults_keep, truth_keeps, write_keeps, boxes_keep}
use Rattle.star_spec.proofs.MembersHeld.{members_keep}
use Rattle.star_spec.proofs.Keeping.{Kept, Keeps, Anything, kept_then, keeps_then, keeps_give, keeps_fail, keeps_or_fail, keeps_ill_formed, keeps_or_ill_formed, keeps_paid, keeps_reads, keeps_new_object, object_held, HeldFunction, function_held}

-- ---- a language

-- what a language does keeps what the program holds, where calls do
pub record LanguageKeeps {H : Type 0} (language : Language H) : Type 0 where
  pub eval : (call : Call H) → CallKeeps call → (e : Expr) (env : Env) → HeldExpr e → Keeps HeldValue (language.eval call e env)
  pub arguments : (call : Call H) → CallKeeps call → (es : Exprs) (env : Env) → HeldExprs es → Keeps HeldArguments (language.arguments call es env)
  pub assign : (call : Call H) → CallKeeps call → (p : Place) (x : Expr) (v : Value) (env : Env) → HeldExpr x → HeldValue v → Keeps Anything (language.assign call p x v env)
  pub augment : (call : Call H) → CallKeeps call → (p : Place) (o : BinaryOperator) (q : Place) (x e : Expr) (env : Env) → HeldExpr x → HeldExpr e → Keeps Anything (language.augment call p o q x e env)
  pub bind_name : (p : Place) (x : Name) (v : Value) (env : Env) → HeldValue v → Keeps Anything (language.bind_name p x v env)
  pub truth : (v : Value) → Keeps Anything (language.truth v)
  pub members : (p : Place) (v : Value) → HeldValue v → Keeps HeldList (language.members p v)
  pub defaults : (call : Call H) → CallKeeps call → (ps : Parameters) (env : Env) → HeldParameters ps → Keeps HeldList (language.defaults call ps env)
  pub bind : (p : Place) (ps : Parameters) (names : List Name) (ds : List Value) (vs : Arguments) (env : Env) → HeldList ds → HeldArguments vs → Keeps Anything (language.bind p ps names ds vs env)
  pub own : (p : Place) (f : Value) (vs : Arguments) → HeldValue f → HeldArguments vs → Keeps HeldKeyed (language.own_call p f vs)
  pub own_keyed : (p : Place) (w : Wanted) (members keys : List Value) → HeldList members → Keeps HeldValue (language.own_call_keyed p w members keys)

abbrev pub WordHeld : Option Word → Type 0
WordHeld None = Unit {0}
WordHeld (Some breaks) = Unit {0}
WordHeld (Some continues) = Unit {0}
WordHeld (Some (returns v)) = HeldValue v

module _ {H : Type 0} (language : Language H) (keeps : LanguageKeeps language) (call : Call H) (calls : CallKeeps call) where
  pub execute_keeps : (x : Statement) (env : Env) → HeldStatement x → Keeps WordHeld (execute language call x env)
  execute_keeps (evaluate p e) env h = keeps_paid 1 p (keeps_then (keeps.eval call calls e env h) (λ v k. keeps_give None tt))
  execute_keeps (assign p x e) env h = keeps_paid 1 p (keeps_then (keeps.eval call calls e env h.1) (λ v k. keeps_then (keeps.assign call calls p x v env h.0 k) (λ u t. keeps_give None tt)))
  execute_keeps (augment p o q x e) env h = keeps_paid 1 p (keeps_then (keeps.augment call calls p o q x e env h.0 h.1) (λ u t. keeps_give None tt))
  execute_keeps (load p path xs) env h = keeps_paid 1 p (keeps_give None tt)
  execute_keeps (return p e) env h = keeps_paid 1 p (keeps_then (keeps.eval call calls e env h) (λ v k. keeps_give (Some (returns v)) k))
  execute_keeps (break p) env h = keeps_paid 1 p (keeps_give (Some breaks) tt)
  execute_keeps (continue p) env h = keeps_paid 1 p (keeps_give (Some continues) tt)
  execute_keeps (pass p) env h = keeps_paid 1 p (keeps_give None tt)

  pub define_keeps : (p : Place) (n : ℕ) (x : Name) (ps : Parameters) (env : Env) → IsUtf8 x → HeldParameters ps → Keeps WordHeld (define language call p n x ps env)
  define_keeps p n x ps env u h =
      keeps_paid 1 p (keeps_then (keeps_then (keeps.defaults call calls ps env h) (λ ds k. keeps_then (keeps_new_object (of_function _) (u, k)) (λ r t. keeps_give {P = HeldValue} (function_value r) tt)))
      (λ f k. keeps_then (keeps.bind_name p x f env k) (λ u t. keeps_give None tt)))

-- ---- scopes

pub filled_keep : {H : Type 0} (xs : List Name) (vs : List Value) → HeldList vs → Keeps {H = H} Anything (boxes_for xs vs)
filled_keep [] vs h = keeps_give [] tt
filled_keep (x ∷ xs) [] h = keeps_give [] tt
filled_keep (x ∷ xs) (v ∷ vs) h = keeps_then (keeps_new_object (of_box (Some v)) h.0) (λ r u. keeps_then (filled_keep xs vs h.1) (λ env t. keeps_give ((x, r) ∷ env) tt))

pub scope_keeps : {H : Type 0} (p : Place) (ps : Parameters) (names : List Name) (ds : List Value) (vs : Arguments) (env : Env) → HeldList ds → HeldArguments vs → Keeps {H = H} Anything (scope_of_call p ps names ds vs env)
scope_keeps p ps names ds vs env d h =
    keeps_then (bound_keeps p ps ds vs d h) (λ all k. keeps_then (filled_keep (parameter_names ps) all k) (λ own u. keeps_then (boxes_keep names own) (λ scope t. keeps_give (scope ++ env) tt)))

pub starlark_keeps : {H : Type 0} → LanguageKeeps {H = H} starlark
starlark_keeps = record {
  eval = λ call calls e env h. eval_keeps call calls e env h;
  arguments = λ call calls es env h. arguments_keep call calls es env h;
  assign = λ call calls p x v env h k. assign_keeps call calls p x v env h k;
  augment = λ call calls p o q x e env h k. augment_keeps call calls p o q x e env h k;
  bind_name = λ p x v env h. write_keeps p x v (box_of x env) h;
  truth = truth_keeps;
  members = members_keep;
  defaults = λ call calls ps env h. defaults_keep call calls ps env h;
  bind = scope_keeps;
  own = asked_keeps;
  own_keyed = wanted_keeps;
}

-- ---- natives

pub record HostKeeps {H : Type 0} (host : Host H) : Type 0 where
  pub ask : (p : Place) (x : Name) (held : Values) (vs : Arguments) → HeldValues held → HeldArguments vs → Keeps HeldReply (host.ask p x held vs)
  pub resume : (p : Place) (x : Name) (held : Values) (tag : ℕ) (got : Result Value Fault) → HeldValues held → HeldGot got → Keeps HeldReply (host.resume p x held tag got)

pub no_natives_keep : {H : Type 0} → HostKeeps {H = H} no_natives
no_natives_keep = record { ask = λ p x held vs h k. keeps_fail kind.ValueKind p []; resume = λ p x held tag got h k. keeps_fail kind.ValueKind p [] }

replied_held : {H : Type 0} (got : Result Reply Fault) (t : State H) → HeldAnswer got → HeldStore t.store → Kept HeldReply (replied got t)
replied_held (Ok r) t h k = (h, k)
replied_held (Err e) t h k = k

-- a host that is asked keeps it if its answers do
pub asking_keeps : {H : Type 0} → HostKeeps {H = H} asking
asking_keeps = record { ask = λ p x held vs h k. record { by = λ s g. ((h, k), g, replied_held) }; resume = λ p x held tag got h k. record { by = λ s g. ((h, k), g, replied_held) } }

module _ {H : Type 0} (host : Host H) (hosts : HostKeeps host) where
  resumed_kept : (p : Place) (x : Name) (held : Values) (tag : ℕ) (e : Ending H Value) → HeldValues held → Kept HeldValue e → Kept HeldReply (resumed_with host p x held tag e)
  resumed_kept p x held tag (done v s) h k = (hosts.resume p x held tag (Ok v) h k.0).by s k.1
  resumed_kept p x held tag (bad e s) h k = (hosts.resume p x held tag (Err e) h tt).by s k
  resumed_kept p x held tag (asks q s n) h k = (k.0, k.1, λ got t g i. resumed_kept p x held tag (n got t) h (k.2 got t g i))

-- ---- calls

module _ {H : Type 0} (language : Language H) (keeps : LanguageKeeps language) where
  kind_keeps : (function : Call H) (native : Place → Name → Values → Arguments → Computation H Value) (keyed : Place → Keyed → Computation H Value) → CallKeeps function
      → ((p : Place) (x : Name) (held : Values) (vs : Arguments) → HeldValues held → HeldArguments vs → Keeps HeldValue (native p x held vs))
      → ((p : Place) (k : Keyed) → HeldKeyed k → Keeps HeldValue (keyed p k))
      → (p : Place) (f : Value) (vs : Arguments) → HeldValue f → HeldArguments vs → Keeps HeldValue (call_by_kind language function native keyed p f vs)
  kind_keeps function native keyed fs ns ks p (function_value r) vs h k = fs.by p (function_value r) vs h k
  kind_keeps function native keyed fs ns ks p (native_value (builtin x)) vs h k = keeps_then (keeps.own p (native_value (builtin x)) vs h k) (ks p)
  kind_keeps function native keyed fs ns ks p (native_value (method x v)) vs h k = keeps_then (keeps.own p (native_value (method x v)) vs h k) (ks p)
  kind_keeps function native keyed fs ns ks p (native_value (host_native x held)) vs h k = ns p x held vs h.1 k
  kind_keeps function native keyed fs ns ks p _ vs h k = keeps_fail kind.ValueKind p []

  no_keys_keep : (p : Place) (k : Keyed) → HeldKeyed k → Keeps {H = H} HeldValue (no_keys p k)
  no_keys_keep p (without_keys v) h = keeps_give v h
  no_keys_keep p (asks_keys w g ms) h = keeps_ill_formed

  keys_keep : (call : Call H) → CallKeeps call → (p : Place) (g : Value) (vs : List Value) → HeldValue g → HeldList vs → Keeps HeldList (keys_by call p g vs)
  keys_keep call calls p g [] h k = keeps_give [] tt
  keys_keep call calls p g (v ∷ vs) h k = keeps_then (calls.by p g (one_value v) h ((k.0, tt), tt)) (λ w i. keeps_then (keys_keep call calls p g vs h k.1) (λ ws j. keeps_give (w ∷ ws) (i, j)))

  with_keys_keep : (call : Call H) → CallKeeps call → (p : Place) (k : Keyed) → HeldKeyed k → Keeps HeldValue (with_keys language call p k)
  with_keys_keep call calls p (without_keys v) h = keeps_give v h
  with_keys_keep call calls p (asks_keys w g ms) h = keeps_then (keys_keep call calls p g ms h.0 h.1) (λ ks j. keeps.own_keyed p w ms ks h.1)

  any_keeps : (function : Call H) (native : Place → Name → Values → Arguments → Computation H Value) → CallKeeps function
      → ((p : Place) (x : Name) (held : Values) (vs : Arguments) → HeldValues held → HeldArguments vs → Keeps HeldValue (native p x held vs)) → CallKeeps (any_call language function native)
  any_keeps function native fs ns = record {
    by = kind_keeps function native (with_keys language (call_by_kind language function native no_keys)) fs ns
        (with_keys_keep (call_by_kind language function native no_keys) (record { by = kind_keeps function native no_keys fs ns no_keys_keep }));
  }

  reply_keeps : (host : Host H) → HostKeeps host → (function : Call H) → CallKeeps function → (left : ℕ) (p : Place) (x : Name) (held : Values) (r : Reply) → HeldValues held → HeldReply r →
      Keeps HeldValue (after_reply language host function left p x held r)
  reply_keeps host hosts function fs left p x held (answer v) h k = keeps_give v k
  reply_keeps host hosts function fs zero p x held (call_then f vs tag) h k = keeps_fail kind.Steps p []
  reply_keeps host hosts function fs (suc left) p x held (call_then f vs tag) h k =
      let calls = any_keeps function (λ q y kept ws. host.ask q y kept ws >>= after_reply language host function left q y kept) fs
      (λ q y kept ws g i. keeps_then (hosts.ask q y kept ws g i) (λ r j. reply_keeps host hosts function fs left q y kept r g j)) in
      keeps_paid 1 p (record {
        by = λ s g. kept_then HeldReply HeldValue _ (after_reply language host function left p x held)
            (resumed_kept host hosts p x held tag _ h ((calls.by p f vs k.0 k.1).by s g))
            (λ r i. reply_keeps host hosts function fs left p x held r h i);
      })

  natives_keep : (host : Host H) → HostKeeps host → (function : Call H) → CallKeeps function → (left : ℕ) → CallKeeps (call_with_natives language host function left)
  natives_keep host hosts function fs left =
      any_keeps function (native_call language host function left) fs (λ p x held vs h k. keeps_then (hosts.ask p x held vs h k) (λ r i. reply_keeps host hosts function fs left p x held r h i))

  found_function : (o : Option Function) (g : Function) → HeldFunction o → o ≡ Some g → IsUtf8 g.name × HeldList g.defaults
  found_function None g h e = cc
  found_function (Some f) g h e = let same : f ≡ g = cc in rw (← same) h

  function_keeps : (p : Place) (f : Value) → Keeps {H = H} (λ g. IsUtf8 g.name × HeldList g.defaults) (function_of p f)
  function_keeps p (function_value r) = keeps_then (keeps_reads {P = HeldFunction} (function_at r) (λ store h. function_held (object_at r store) (object_held store r h))) (λ o h. keeps_or_fail kind.ValueKind p o (λ g e. found_function o g h e))
  function_keeps p _ = keeps_fail kind.ValueKind p []

  -- the code of each function keeps what the program holds, where calls do
  pub record TableKeeps {B : Type 0} (enter : Enter H B) (table : Table B) : Type 0 where
    pub by : (call : Call H) → CallKeeps call → (file number : ℕ) (c : Code B) → table file number ≡ Some c → (env : Env) → Keeps HeldValue (enter_code language enter call c env)

  called_keeps : {B : Type 0} (names : B → List Name) (enter : Enter H B) (table : Table B) → TableKeeps enter table → (below : Call H) → CallKeeps below → CallKeeps (function_call language names enter table below)
  called_keeps names enter table tables below belows = record {
    by = λ p f vs h k. keeps_then (function_keeps p f) (λ g i. keeps_then (keeps_or_ill_formed {P = λ c. table g.file g.number ≡ Some c} (table g.file g.number) (λ c e. e))
        (λ c e. keeps_then (keeps.bind p (parameters_of c) (names_of names c) g.defaults vs g.env i.1 k) (λ env u. tables.by below belows g.file g.number c e env)));
  }

  too_deep_keeps : CallKeeps {H = H} too_deep
  too_deep_keeps = record { by = λ p f vs h k. keeps_then (function_keeps p f) (λ g i. keeps_fail kind.Depth p []) }

  pub apply_keeps : {B : Type 0} (host : Host H) → HostKeeps host → (names : B → List Name) (enter : Enter H B) (table : Table B) → TableKeeps enter table → (d : ℕ) → CallKeeps (apply language host names enter table d)
  apply_keeps host hosts names enter table tables zero = record { by = λ p f vs h k. record { by = λ s g. ((natives_keep host hosts too_deep too_deep_keeps s.steps).by p f vs h k).by s g } }
  apply_keeps host hosts names enter table tables (suc d) = record {
    by = λ p f vs h k. record {
      by = λ s g. ((natives_keep host hosts (function_call language names enter table (apply language host names enter table d)) (called_keeps names enter table tables (apply language host names enter table d) (apply_keeps host hosts names enter table tables d)) s.steps).by p f vs h k).by s g;
    };
  }
