-- The plain data that runs stand for, and the state that they are in.
use Rattle.std.specs.Prelude.{ℕ, List, map as each, None, reverse}
use Rattle.code_spec.specs.Blocks.{Ops}
use Rattle.star_blocks.specs.Nested.{ops_of}
use Rattle.star_eval.specs.FileRun.{block_of}
use Rattle.star_eval.specs.Finishes.{globals_of}
use Rattle.star_eval.specs.Meets.{arena_of, state_of}
use Rattle.star_eval.specs.declared.session.Session.{Session}
use Rattle.star_spec.specs.Calls.{Table}
use Rattle.star_tree.specs.Whole.{loaded_names_of}
use Rattle.star_values.specs.Owns.{Each, OwnsFields}
use Rattle.star_values.specs.View.{View}
use Rattle.value_spec.specs.Outcomes.{State}
use Rattle.world_spec.specs.Parts.{World}
use Rattle.world_spec.specs.Worlds.{Kept, with_kept}
use Rattle.file_load.specs.Gave.{given_in}
use Rattle.file_load.specs.Programs.{Stands, blocks_from, names_in}
use Rattle.file_load.specs.Running as plain
use Rattle.file_load.specs.Running.{Setting}
use Rattle.file_load.specs.declared.given.Given.{Given}
use Rattle.file_load.specs.declared.programs.Program.{Program}
use Rattle.file_load.specs.declared.waiting.Run.{Run}
use Rattle.file_load.specs.declared.waiting.Waiting.{Waiting}

-- what the files of these programs run by
abbrev pub setting_of : Table Ops → List Program → (depth : ℕ) → Setting
setting_of table ps d = record { names = names_in ps; table = table; blocks_at = blocks_from 1 ps; depth = d }

-- ---- runs

abbrev pub run_in : View → Run → plain.Run
run_in a r = record { block = block_of r.program.block.now; rest = ops_of r.program.block.now.file r.rest.now; got = globals_of a r.got; loads = r.loads }

abbrev pub waiting_in : View → Waiting → plain.Waiting
waiting_in a w = record { run = run_in a w.run; place = w.place; names = loaded_names_of w.names.now; file = w.file }

-- the innermost first
abbrev pub all_waiting : View → List Waiting → List plain.Waiting
all_waiting a ws = reverse (each (waiting_in a) ws)

-- the files that they wait for
abbrev pub files_of : List Waiting → List ℕ
files_of ws = reverse (each (λ w. w.file) ws)

-- ---- the state

abbrev pub kept_of : View → List Given → (begun : List ℕ) → Kept (Unit {0})
kept_of a gs files = record { begun = files; given = given_in a gs; values = None; host = tt }

-- the state that a session is, where files gave this, and these are under way
abbrev pub world_of : Session → List Given → (begun : List ℕ) → State World
world_of session gs files = with_kept (kept_of (arena_of session) gs files) (state_of session)

-- ---- what is owned

-- a run of one of these programs, whose names an arena owns
pub record OwnsRun (ps : List Program) (a : View) (r : Run) : Type 0 where
  pub stands : Stands ps r.program
  pub got : OwnsFields a r.got

abbrev pub OwnsWaiting : List Program → View → List Waiting → Type 0
OwnsWaiting ps a ws = Each (λ w. OwnsRun ps a w.run) ws
