-- The run of a file: a box for each of its names, those that were loaded, and then its blocks. A call from outside of a run.
use Rattle.std.proofs.Common.{◌≡◌, ℕ, zero, suc, List, [], ◌∷◌, map as each, length, Option, Some, None, Result, Ok, Err, IfOk, refl, sym, ap, subst, ◌∙◌}
use Rattle.ytt_base.specs.declared.fault.Fault.{Fault}
use Rattle.ytt_base.specs.declared.fault.FaultKind.TheVariants as kind
use Rattle.ytt_base.specs.declared.fault.Place.{Place}
use Rattle.ytt_base.specs.declared.fault.Stop.{Stop}
use Rattle.ytt_base.specs.declared.fault.Stop.TheVariants as stop
use Rattle.ytt_base.specs.Outcomes.{fault_of}
use Rattle.node_build.specs.View.{nodes_of}
use Rattle.code_spec.specs.Blocks.{Ops}
use Rattle.code_spec.specs.Code.{Name}
use Rattle.code_spec.specs.Scopes.{ops_names}
use Rattle.star_functions.specs.Table.{table_of}
use Rattle.star_functions.specs.declared.functions.Functions.{Functions}
use Rattle.star_resolve.specs.Frames.{boxed, with_unset}
use Rattle.star_resolve.specs.Variables.{each_once}
use Rattle.star_resolve.proofs.Frames.{new_frames}
use Rattle.star_spec.specs.Calls.{Table, apply, asking, call_with_natives, function_call}
use Rattle.star_spec.specs.Eval.{starlark}
use Rattle.star_spec.specs.Flow.{Flow}
use Rattle.star_spec.specs.Hosts.{Answers, hosted, with_host}
use Rattle.star_spec.specs.Language.{Call}
use Rattle.star_spec.specs.Names.{box_of, fill_box}
use Rattle.star_steps.specs.Meets.{Meets, as_is}
use Rattle.star_values.proofs.Growing.{grows_same, grows_then, owns_kept, value_kept}
use Rattle.star_values.specs.Objects.{env_in}
use Rattle.star_values.specs.Owns.{Grows, Owns, OwnsFields}
use Rattle.star_values.specs.View.{View, arguments_in, value_in, value_of}
use Rattle.star_values.specs.declared.object.NamedBox.{NamedBox}
use Rattle.star_values.specs.declared.value.CallArgs.{CallArgs}
use Rattle.star_values.specs.declared.value.NamedValue.{NamedValue}
use Rattle.star_values.specs.declared.value.Value.{Value as Held_value}
use Rattle.template_meaning.specs.Build.{built}
use Rattle.template_meaning.specs.Calls.{bottom, bottom_children, bottom_flow, enter_ops, table_calls}
use Rattle.template_meaning.specs.Files.{FileResult, Globals, bind_loaded, ended}
use Rattle.template_meaning.specs.Meaning.{RunLoaded, run_blocks}
use Rattle.template_meaning.specs.Run.{runs}
use Rattle.value_spec.specs.Outcomes.{State, Ending, bad, done, give, or_ill_formed, then_do, ◌>>=◌}
use Rattle.value_spec.specs.Values.{Env, Value}
use Rattle.star_eval.specs.declared.file.FileResult.{FileResult as Given}
use Rattle.star_eval.specs.declared.frame.Flow.{Flow as Held}
use Rattle.star_eval.specs.declared.frame.Flow.TheVariants as held
use Rattle.star_eval.specs.declared.looped.Called.{Called}
use Rattle.star_eval.specs.declared.looped.Finished.{Finished}
use Rattle.star_eval.specs.declared.session.Session.{Session}
use Rattle.star_eval.specs.Calling.{calls_at, calls_from, calls_of, functions_at}
use Rattle.star_eval.specs.Doing.{Nodes}
use Rattle.star_eval.specs.FileRun.{CallsAs, RunsAs}
use Rattle.star_eval.specs.Finishes.{Leaves, call_ending, called, globals_of, result_of}
use Rattle.star_eval.specs.Frames.{flow_ending_of, flow_of, value_ending_of}
use Rattle.star_eval.specs.Meets.{Here, UnlessMemory, arena_of, state_of}
use Rattle.star_eval.specs.Scope.{name_bound}
use Rattle.star_eval.proofs.Asks.{hosted_fails, hosted_then}

-- ---- the calls

-- the calls are those of the definitions
calls_apply : (fs : Functions) (d : ℕ) → apply starlark asking ops_names (enter_ops starlark) (table_of fs) d ≡ calls_at fs d
unfolding functions_at calls_from calls_of
calls_apply fs zero = refl
calls_apply fs (suc d) = λ i p f vs s. call_with_natives starlark asking (function_call starlark ops_names (enter_ops starlark) (table_of fs) (calls_apply fs d i)) s.steps p f vs s

-- and by each table that has these functions
pub same_calls : (fs : Functions) (table : Table Ops) (d : ℕ) → ((f k : ℕ) → table_of fs f k ≡ table f k) → table_calls starlark (asking {H = Here}) table d ≡ calls_at fs d
same_calls fs table d h = (λ i. apply starlark asking ops_names (enter_ops starlark) (λ f k. sym (h f k) i) d) ∙ calls_apply fs d

-- ---- names that were loaded

-- one of them, and then the others
pub bound_next : (x : Name) (v : Value) (gs : Globals) (env : Env) (s : State Here) → bind_loaded ((x, v) ∷ gs) env s ≡ then_do (name_bound x v env s) (λ u. bind_loaded gs env)
bound_next x v gs env s = by_box (box_of x env)
  where
    by_box : (o : Option ℕ) → (or_ill_formed o >>= λ r. fill_box r v >>= λ u. bind_loaded gs env) s ≡ then_do ((or_ill_formed o >>= λ r. fill_box r v) s) (λ u. bind_loaded gs env)
    by_box None = refl
    by_box (Some r) = refl

module _ (a : View) (x : NamedValue) (xs : List NamedValue) (scope : List NamedBox) (s t : State Here) where
  abbrev Binds : Ending Here Here → Type 0
  Binds o = name_bound x.name (value_of a x.value) (env_in a.held scope) s ≡ o

  -- a turn of the loop over them
  pub bound_turn : (b : View) → b.held ≡ a.held → Binds (done tt t) → bind_loaded (globals_of a (x ∷ xs)) (env_in a.held scope) s ≡ bind_loaded (globals_of b xs) (env_in b.held scope) t
  bound_turn b held e =
      bound_next x.name (value_of a x.value) (globals_of a xs) (env_in a.held scope) s
      ∙ ap (λ o. then_do o (λ u. bind_loaded (globals_of a xs) (env_in a.held scope))) e
      ∙ (λ i. bind_loaded (each (λ v. (v.name, value_in (sym held i) v.value)) xs) (env_in (sym held i) scope) t)

  bound_fails : (f : Fault) → Binds (bad f t) → bind_loaded (globals_of a (x ∷ xs)) (env_in a.held scope) s ≡ bad f t
  bound_fails f e = bound_next x.name (value_of a x.value) (globals_of a xs) (env_in a.held scope) s ∙ ap (λ o. then_do o (λ u. bind_loaded (globals_of a xs) (env_in a.held scope))) e

  pub bound_stops : (start : Ending Here Here) (y : Stop) → start ≡ bind_loaded (globals_of a (x ∷ xs)) (env_in a.held scope) s → Meets as_is (Err y) t (name_bound x.name (value_of a x.value) (env_in a.held scope) s) → Meets as_is (Err y) t start
  bound_stops start (stop.Fault f) e h = e ∙ bound_fails f h
  bound_stops start stop.Memory e h = tt

-- they stay the same as the arena grows
pub globals_kept : (a b : View) (xs : List NamedValue) → Grows a b → OwnsFields a xs → OwnsFields b xs × (globals_of b xs ≡ globals_of a xs)
globals_kept a b [] g w = (tt, refl)
globals_kept a b (x ∷ xs) g w =
    let more = globals_kept a b xs g w.1 in
    ((owns_kept a b x.value g w.0, more.0), λ i. (x.name, value_kept a b x.value g w.0 i) ∷ more.1 i)

-- ---- the file

-- what a file gives after its blocks, in its scope
abbrev after_run : ℕ → Env → Ending Here (Flow Nodes) → Ending Here FileResult
after_run n env o = then_do (then_do o (λ f. give (built (bottom_flow f)))) (ended n env)

module _ (table : Table Ops) (depth : ℕ) (loaded : Globals) (s : State Here) where
  abbrev calls : Call Here
  calls = table_calls starlark asking table depth

  abbrev made : ℕ
  made = length s.store

  abbrev Runs : Option Ops → Ending Here FileResult
  Runs o = RunLoaded starlark asking table depth loaded o s

  module _ (os : Ops) (g : List Name) (names : g ≡ each_once (ops_names os)) where
    abbrev own : Env
    own = boxed made g []

    -- names are loaded so
    abbrev Bound : Ending Here Here
    Bound = bind_loaded loaded own (with_unset (length g) s)

    -- the blocks in the scope of these names
    abbrev block_run : State Here → Ending Here (Flow Nodes)
    block_run t = runs starlark calls os own (bottom 0 ∷ []) t

    run_from : Runs (Some os) ≡ then_do Bound (λ u t. after_run made own (block_run t))
    run_from =
        ap (λ o. then_do o (λ env. bind_loaded loaded env >>= λ u t. then_do (run_blocks starlark calls (Some os) env t) (ended made env))) (new_frames (ops_names os) s).0
        ∙ (λ i. then_do (bind_loaded loaded (boxed made (sym names i) []) (with_unset (length (sym names i)) s)) (λ u t. after_run made (boxed made (sym names i) []) (runs starlark calls os (boxed made (sym names i) []) (bottom 0 ∷ []) t)))

    built_of : (a : View) (w : Held) (k : Nodes) → built (bottom_flow (flow_of a w k)) ≡ bottom_children k
    built_of a held.On k = refl
    built_of a held.Break k = refl
    built_of a held.Continue k = refl
    built_of a (held.Return v) k = refl

    -- where the block ended, and with a fault, among the answers of a host
    module _ {H : Type 0} (answers : Answers H) (now then : H) (t : State Here) (bound : Bound ≡ done tt t) where
      from_bound : Runs (Some os) ≡ after_run made own (block_run t)
      from_bound = run_from ∙ ap (λ o. then_do o (λ u t. after_run made own (block_run t))) bound

      pub file_ends : (a : View) (w : Held) (k : Nodes) (q : State Here) (x : FileResult) (u : State Here) → (Ok (flow_of a w k), with_host now q) ≡ hosted answers (block_run t) then → ended made own (bottom_children k) q ≡ done x u →
          hosted answers (Runs (Some os)) then ≡ (Ok x, with_host now u)
      file_ends a w k q x u ran e =
          let first = hosted_then answers (block_run t) (λ f. give (built (bottom_flow f))) (flow_of a w k) q then now ran in
          ap (λ o. hosted answers o then) from_bound
          ∙ hosted_then answers (then_do (block_run t) (λ f. give (built (bottom_flow f)))) (ended made own) (built (bottom_flow (flow_of a w k))) q then now (sym first)
          ∙ ap (λ cs. hosted answers (ended made own cs q) now) (built_of a w k)
          ∙ ap (λ o. hosted answers o now) e

      pub file_fails : (f : Fault) (q : State Here) → (Err f, with_host now q) ≡ hosted answers (block_run t) then → hosted answers (Runs (Some os)) then ≡ (Err f, with_host now q)
      file_fails f q ran =
          let first = hosted_fails answers (block_run t) (λ f. give (built (bottom_flow f))) f q then now ran in
          ap (λ o. hosted answers o then) from_bound ∙ hosted_fails answers (then_do (block_run t) (λ f. give (built (bottom_flow f)))) (ended made own) f q then now (sym first)

    -- a name that was loaded isn't the file's
    pub not_bound : (f : Fault) (t : State Here) → Bound ≡ bad f t → Runs (Some os) ≡ bad f t
    not_bound f t e = run_from ∙ ap (λ o. then_do o (λ u t. after_run made own (block_run t))) e

-- ---- what the call gives

module _ {H : Type 0} (answers : Answers H) (table : Table Ops) (loaded : Globals) (depth made_before : ℕ) (before bound after : Session) (now then : H) (os : Ops) (g : List Name) (e : Finished) (names : g ≡ each_once (ops_names os)) (mark : made_before ≡ length (arena_of before).store)
    (binds : bind_loaded loaded (boxed (length (arena_of before).store) g []) (with_unset (length g) (state_of before)) ≡ done tt (state_of bound))
    (scope : env_in (arena_of e.session).held e.scope ≡ boxed (length (arena_of before).store) g []) (grows : Grows (arena_of before) (arena_of e.session)) where
  abbrev nodes : Nodes
  nodes = nodes_of (arena_of e.session) e.nodes

  -- the block ended so, which is how the program's block runs
  abbrev Ran : Result Held Fault → Type 0
  Ran w = hosted answers (flow_ending_of (arena_of e.session) w nodes (state_of e.session)) now ≡
      hosted answers (runs starlark (table_calls starlark asking table depth) os (boxed (length (arena_of before).store) g []) (bottom 0 ∷ []) (state_of bound)) then

  pub file_runs : (w : Result Held Fault) (result : Result Given Stop) → Ran w → Leaves made_before e w result after → RunsAs answers table (Some os) loaded depth result after before now then
  file_runs (Ok w) (Ok r) ran left = record {
    meaning = file_ends table depth loaded (state_of before) os g names answers now then (state_of bound) binds (arena_of e.session) w nodes (state_of e.session) (result_of (arena_of after) r) (state_of after) ran
        ((λ i. ended (sym mark i) (sym scope i) (bottom_children nodes) (state_of e.session)) ∙ left.meaning);
    owned = left.owned;
    grows = grows_then (arena_of before) (arena_of e.session) (arena_of after) grows left.grows;
  }
  file_runs (Ok w) (Err (stop.Fault f)) ran left = elim left [ ]
  file_runs (Err f) (Ok r) ran left = elim left [ ]
  file_runs (Err f) (Err (stop.Fault d)) ran left = record {
    meaning = file_fails table depth loaded (state_of before) os g names answers now then (state_of bound) binds f (state_of e.session) ran ∙ (λ i. (Err (sym left.0 i), with_host now (sym left.1 i)));
    owned = tt;
    grows = subst (Grows (arena_of before)) (sym left.2) grows;
  }
  file_runs (Ok w) (Err stop.Memory) ran left = record { meaning = tt; owned = tt; grows = tt }
  file_runs (Err f) (Err stop.Memory) ran left = record { meaning = tt; owned = tt; grows = tt }

-- and so the calls on it, which ask no host, where a name that was loaded isn't the file's
pub unbound_runs : {H : Type 0} (answers : Answers H) (table : Table Ops) (loaded : Globals) (depth : ℕ) (before after : Session) (host : H) (os : Ops) (g : List Name) (x : Stop) → g ≡ each_once (ops_names os) →
    Meets as_is (Err x) (state_of after) (bind_loaded loaded (boxed (length (arena_of before).store) g []) (with_unset (length g) (state_of before))) → Grows (arena_of before) (arena_of after) →
    RunsAs answers table (Some os) loaded depth (Err x) after before host host
unbound_runs answers table loaded depth before after host os g (stop.Fault f) names fails grows =
    record { meaning = ap (λ o. hosted answers o host) (not_bound table depth loaded (state_of before) os g names f (state_of after) fails); owned = tt; grows = grows }
unbound_runs answers table loaded depth before after host os g stop.Memory names fails grows = record { meaning = tt; owned = tt; grows = tt }

-- ---- a call from outside of a run

module _ {H : Type 0} (answers : Answers H) (before after : Session) (e : Called) (now then : H) (f : Held_value) (args : CallArgs) (p : Place) (fs own : Functions) (same : (file k : ℕ) → table_of own file k ≡ table_of fs file k)
    (arena : arena_of after ≡ arena_of e.session) (state : state_of after ≡ state_of e.session)
    (ended : hosted answers (call_ending e) now ≡ hosted answers (called own before.work.depth p f args before) then) (owned : IfOk e.result (Owns (arena_of e.session))) (grows : Grows (arena_of before) (arena_of e.session)) where
  ends : hosted answers (table_calls starlark asking (table_of fs) before.work.depth p (value_of (arena_of before) f) (arguments_in (arena_of before).held args) (state_of before)) then ≡ hosted answers (call_ending e) now
  ends = (λ i. hosted answers (same_calls own (table_of fs) before.work.depth same i p (value_of (arena_of before) f) (arguments_in (arena_of before).held args) (state_of before)) then) ∙ sym ended

  pub call_gives : (v : Held_value) → e.result ≡ Ok v → CallsAs answers fs f args p (Ok v) after before now then
  call_gives v is = record {
    meaning = ends ∙ ap (λ r. hosted answers (value_ending_of (arena_of e.session) r (state_of e.session)) now) is ∙ (λ i. (Ok (value_of (sym arena i) v), with_host now (sym state i)));
    owned = subst (λ a. Owns a v) (sym arena) (subst (λ r. IfOk r (Owns (arena_of e.session))) is owned);
    grows = subst (Grows (arena_of before)) (sym arena) grows;
  }

  pub call_fails : (d : Fault) → e.result ≡ Err d → CallsAs answers fs f args p (Err (stop.Fault d)) after before now then
  call_fails d is = record {
    meaning = ends ∙ ap (λ r. hosted answers (value_ending_of (arena_of e.session) r (state_of e.session)) now) is ∙ (λ i. (Err d, with_host now (sym state i)));
    owned = tt;
    grows = subst (Grows (arena_of before)) (sym arena) grows;
  }
