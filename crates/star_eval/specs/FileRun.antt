-- What the run of a file gives, and a call from outside of a run.
use Rattle.std.specs.Prelude.{◌≡◌, ℕ, List, Option, Some, Result, Ok, Err, IfOk}
use Rattle.ytt_base.specs.declared.fault.Fault.{Fault}
use Rattle.ytt_base.specs.declared.fault.Place.{Place}
use Rattle.ytt_base.specs.declared.fault.Stop.{Stop}
use Rattle.ytt_base.specs.declared.fault.Stop.TheVariants as stop
use Rattle.code_spec.specs.Blocks.{Ops}
use Rattle.code_spec.specs.Code.{Name}
use Rattle.code_spec.specs.Scopes.{ops_names}
use Rattle.star_blocks.specs.Nested.{ops_of}
use Rattle.star_functions.specs.Table.{table_of}
use Rattle.star_functions.specs.declared.functions.Functions.{Functions}
use Rattle.star_functions.specs.declared.programs.FileBlock.{FileBlock}
use Rattle.star_resolve.specs.Variables.{each_once}
use Rattle.star_spec.specs.Calls.{Table, asking}
use Rattle.star_spec.specs.Eval.{starlark}
use Rattle.star_spec.specs.Hosts.{Answers, hosted, with_host}
use Rattle.star_values.specs.Owns.{Grows, Owns}
use Rattle.star_values.specs.View.{arguments_in, value_of}
use Rattle.star_values.specs.declared.value.CallArgs.{CallArgs}
use Rattle.star_values.specs.declared.value.NamedValue.{NamedValue}
use Rattle.star_values.specs.declared.value.Value.{Value}
use Rattle.template_meaning.specs.Calls.{table_calls}
use Rattle.template_meaning.specs.Files.{Globals}
use Rattle.template_meaning.specs.Meaning.{RunLoaded}
use Rattle.value_spec.specs.Outcomes.{State}
use Rattle.star_eval.specs.Finishes.{Owned, globals_of, result_of}
use Rattle.star_eval.specs.Meets.{UnlessMemory, arena_of, state_of}
use Rattle.star_eval.specs.declared.file.FileResult.{FileResult}
use Rattle.star_eval.specs.declared.session.Session.{Session}

-- what was returned, seen by view, in the state that is left, is how a run ended; want of memory says nothing
abbrev pub EndsAs : {H A B : Type 0} → (A → B) → Result A Stop → State H → Result B Fault × State H → Type 0
EndsAs view (Ok x) s ended = ended ≡ (Ok (view x), s)
EndsAs view (Err (stop.Fault f)) s ended = ended ≡ (Err f, s)
EndsAs view (Err stop.Memory) s ended = Unit {0}

-- Blocks whose load statements gave these names run so from one session to another, where calls find functions in this table, so many
-- calls may stand in one another, and a host answers what it is asked: the same documents and globals or the same fault, the same
-- objects, all of the file's frozen where it ends, as many steps left, and the host in the same state. What the session held before
-- stays what it was, after a fault too. Want of memory says nothing.
pub record RunsAs {H : Type 0} (answers : Answers H) (table : Table Ops) (blocks : Option Ops) (loaded : Globals) (depth : ℕ) (result : Result FileResult Stop) (after before : Session) (now then : H) : Type 0 where
  pub meaning : EndsAs (result_of (arena_of after)) result (with_host now (state_of after)) (hosted answers (RunLoaded starlark asking table depth loaded blocks (state_of before)) then)
  pub owned : IfOk result (Owned (arena_of after))
  pub grows : UnlessMemory result (Grows (arena_of before) (arena_of after))

-- the blocks of a file that is known
abbrev pub block_of : FileBlock → Ops
block_of b = ops_of b.file b.block

-- and they run so where these functions are known, and the scope has the names of the file
abbrev pub RunsFile : {H : Type 0} → Answers H → FileBlock → Functions → (names : List Name) → (loaded : List NamedValue) → Result FileResult Stop → (after before : Session) → (now then : H) → Type 0
RunsFile answers b fs names loaded result after before now then =
    names ≡ each_once (ops_names (block_of b)) →
    RunsAs answers (table_of fs) (Some (block_of b)) (globals_of (arena_of before) loaded) before.work.depth result after before now then

-- a call ends so from one session to another; what the session held before stays what it was
pub record CallsAs {H : Type 0} (answers : Answers H) (functions : Functions) (function : Value) (args : CallArgs) (p : Place) (result : Result Value Stop) (after before : Session) (now then : H) : Type 0 where
  pub meaning : EndsAs (value_of (arena_of after)) result (with_host now (state_of after))
      (hosted answers (table_calls starlark asking (table_of functions) before.work.depth p (value_of (arena_of before) function) (arguments_in (arena_of before).held args) (state_of before)) then)
  pub owned : IfOk result (Owns (arena_of after))
  pub grows : UnlessMemory result (Grows (arena_of before) (arena_of after))
