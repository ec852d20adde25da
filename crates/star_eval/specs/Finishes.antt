-- How a block or a file ended.
use Rattle.std.specs.Prelude.{◌≡◌, ℕ, List, map as each, Result, Ok, Err}
use Rattle.ytt_base.specs.declared.fault.Fault.{Fault}
use Rattle.ytt_base.specs.declared.fault.Stop.{Stop}
use Rattle.ytt_base.specs.declared.fault.Stop.TheVariants as stop
use Rattle.node_build.specs.View.{OwnsNodes, nodes_of}
use Rattle.node_build.specs.declared.builder.Builder.{Builder}
use Rattle.star_blocks.specs.Nested.{ops_of}
use Rattle.star_blocks.specs.declared.block.Op.{Op}
use Rattle.star_functions.specs.declared.functions.Functions.{Functions}
use Rattle.star_spec.specs.Eval.{starlark}
use Rattle.star_spec.specs.Flow.{Flow}
use Rattle.star_values.specs.Objects.{env_in}
use Rattle.star_values.specs.Owns.{Grows, OwnsBuilt, OwnsEnv, OwnsFields}
use Rattle.star_values.specs.View.{View, arguments_in, built_in, value_of}
use Rattle.star_values.specs.declared.object.NamedBox.{NamedBox}
use Rattle.star_values.specs.declared.value.CallArgs.{CallArgs}
use Rattle.star_values.specs.declared.value.NamedValue.{NamedValue}
use Rattle.star_values.specs.declared.value.Value as held_value
use Rattle.template_meaning.specs.Calls.{bottom_children}
use Rattle.template_meaning.specs.Files.{FileResult as PlainResult, Globals, ended}
use Rattle.template_meaning.specs.Run.{runs}
use Rattle.value_spec.specs.Outcomes.{Ending, done}
use Rattle.value_spec.specs.Values.{Children, Env, Value}
use Rattle.ytt_base.specs.declared.fault.Place.{Place}
use Rattle.star_eval.specs.Calling.{calls_at}
use Rattle.star_eval.specs.Doing.{Nodes}
use Rattle.star_eval.specs.Frames.{flow_ending_of, value_ending_of}
use Rattle.star_eval.specs.Meets.{Here, arena_of, state_of}
use Rattle.star_eval.specs.Scope.{variables_in}
use Rattle.star_eval.specs.declared.file.FileResult.{FileResult}
use Rattle.star_eval.specs.declared.frame.Code.{Code}
use Rattle.star_eval.specs.declared.frame.Flow as held
use Rattle.star_eval.specs.declared.looped.Called.{Called}
use Rattle.star_eval.specs.declared.looped.Finished.{Finished}
use Rattle.star_eval.specs.declared.session.Session.{Session}

-- how a block ended
abbrev pub block_ending : Finished → Ending Here (Flow Nodes)
block_ending e = flow_ending_of (arena_of e.session) e.result (nodes_of (arena_of e.session) e.nodes) (state_of e.session)

-- how a call ended
abbrev pub call_ending : Called → Ending Here Value
call_ending e = value_ending_of (arena_of e.session) e.result (state_of e.session)

-- a block of this code that runs in a session, in this scope and with these open nodes
abbrev pub block_run : Code → (depth : ℕ) → List Op → List NamedBox → Builder → Session → Ending Here (Flow Nodes)
block_run code d os scope nodes s = runs starlark (calls_at code.functions d) (ops_of code.file os) (variables_in s scope) (nodes_of (arena_of s) nodes) (state_of s)

-- a call of a value in a session, where these functions are known
abbrev pub called : Functions → (depth : ℕ) → Place → held_value.Value → CallArgs → Session → Ending Here Value
called fs d p f args s = calls_at fs d p (value_of (arena_of s) f) (arguments_in (arena_of s).held args) (state_of s)

-- A block ended in this scope: what is left is owned by an arena that has grown from the one there was.
pub record Finishes (a : View) (variables : Env) (e : Finished) : Type 0 where
  pub env : env_in (arena_of e.session).held e.scope ≡ variables
  pub scope : OwnsEnv (arena_of e.session) e.scope
  pub nodes : OwnsNodes (arena_of e.session) e.nodes
  pub grows : Grows a (arena_of e.session)

-- ---- a file

abbrev pub globals_of : View → List NamedValue → Globals
globals_of a vs = each (λ v. (v.name, value_of a v.value)) vs

-- what a file gives, as plain data
abbrev pub result_of : View → FileResult → PlainResult
result_of a r = record { documents = built_in a.held r.documents; globals = globals_of a r.globals }

-- what a file gives is owned by this arena
pub record Owned (a : View) (r : FileResult) : Type 0 where
  pub documents : OwnsBuilt a r.documents
  pub globals : OwnsFields a r.globals

-- A file ends in this scope, with these children: it gives this, and all that it made is frozen.
pub record EndsFile (made_before : ℕ) (env : Env) (children : Children) (after before : Session) (r : FileResult) : Type 0 where
  pub meaning : ended made_before env children (state_of before) ≡ done (result_of (arena_of after) r) (state_of after)
  pub owned : Owned (arena_of after) r
  pub grows : Grows (arena_of before) (arena_of after)

-- what a file gives whose block ended with this flow or this fault; a fault leaves the session as the block did
abbrev pub Leaves : (made_before : ℕ) → Finished → Result held.Flow Fault → Result FileResult Stop → (after : Session) → Type 0
Leaves n e (Ok w) (Ok r) after = EndsFile n (env_in (arena_of e.session).held e.scope) (bottom_children (nodes_of (arena_of e.session) e.nodes)) after e.session r
Leaves n e (Ok w) (Err (stop.Fault f)) after = ⊥
Leaves n e (Err f) (Ok r) after = ⊥
Leaves n e (Err f) (Err (stop.Fault g)) after = (g ≡ f) × (state_of after ≡ state_of e.session) × (arena_of after ≡ arena_of e.session)
Leaves n e _ (Err stop.Memory) after = Unit {0}
