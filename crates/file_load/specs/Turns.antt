-- What a turn does: what is left after it is what was left before.
use Rattle.std.specs.Prelude.{◌≡◌, ℕ, suc, List, [], length, Result, Ok, Err}
use Rattle.ytt_base.specs.declared.fault.Fault.{Fault}
use Rattle.ytt_base.specs.declared.fault.Place.{Place}
use Rattle.ytt_base.specs.declared.fault.Stop.{Stop}
use Rattle.ytt_base.specs.declared.fault.Stop.TheVariants as stop
use Rattle.code_spec.specs.Blocks.{Ops}
use Rattle.star_eval.specs.Finishes.{Owned, globals_of, result_of}
use Rattle.star_eval.specs.Meets.{arena_of, state_of}
use Rattle.star_eval.specs.declared.file.FileResult.{FileResult}
use Rattle.star_eval.specs.declared.session.Session.{Session}
use Rattle.star_functions.specs.Table.{table_of}
use Rattle.star_functions.specs.declared.functions.Functions.{Functions}
use Rattle.star_spec.specs.Calls.{Table}
use Rattle.star_tree.specs.Whole.{loaded_names_of}
use Rattle.star_tree.specs.declared.code.Loaded.{Loaded}
use Rattle.star_values.specs.Owns.{OwnsFields}
use Rattle.star_values.specs.View.{View}
use Rattle.star_values.specs.declared.value.NamedValue.{NamedValue}
use Rattle.template_meaning.specs.Files as files
use Rattle.value_spec.specs.Outcomes.{Ending, bad, done}
use Rattle.world_spec.specs.Parts.{World}
use Rattle.world_spec.specs.Worlds.{Kept, with_kept}
use Rattle.file_load.specs.Gave.{OwnsGiven}
use Rattle.file_load.specs.Looking.{OwnsFound, loading_of}
use Rattle.file_load.specs.Running.{Setting, all_left, behind, file_at, loading_then, loads_then, names_then}
use Rattle.file_load.specs.Seen.{OwnsRun, OwnsWaiting, all_waiting, files_of, run_in, setting_of, world_of}
use Rattle.file_load.specs.Statements.{load_in}
use Rattle.file_load.specs.declared.given.Given.{Given}
use Rattle.file_load.specs.declared.looking.Found.{Found}
use Rattle.file_load.specs.declared.programs.Program.{Program}
use Rattle.file_load.specs.declared.running.Turn.{Turn}
use Rattle.file_load.specs.declared.running.Turn.TheVariants as turn
use Rattle.file_load.specs.declared.statements.Load.{Load}
use Rattle.file_load.specs.declared.waiting.Run.{Run}
use Rattle.file_load.specs.declared.waiting.Waiting.{Waiting}

-- how a run of files ends
abbrev pub Ends : Type 0
Ends = Ending World files.FileResult

-- It ends with this fault, and with the objects and the steps of this session; which files are under way then, nobody asks.
abbrev pub Fails : (session : Session) → Fault → Ends → Type 0
Fails session f e = (k : Kept (Unit {0})) × (e ≡ bad f (with_kept k (state_of session)))

-- what an arena owns of a run, of those that wait for it, and of what files gave
pub record Sound (ps : List Program) (a : View) (gs : List Given) (ws : List Waiting) (r : Run) : Type 0 where
  pub run : OwnsRun ps a r
  pub waiting : OwnsWaiting ps a ws
  pub given : OwnsGiven a gs

-- ---- what is left

-- of a run, and of those that wait for it
abbrev pub left_of : Setting → Session → List Given → List Waiting → Run → Ends
left_of s session gs ws r = all_left s (run_in (arena_of session) r) (all_waiting (arena_of session) ws) (world_of session gs (files_of ws))

-- the same with a load statement first
abbrev pub load_left : Setting → Session → List Given → List Waiting → Load → Run → Ends
load_left s session gs ws l r = loads_then s (load_in l) (run_in (arena_of session) r) (all_waiting (arena_of session) ws) (world_of session gs (files_of ws))

-- and where it is known what there is under its path
abbrev pub loading_left : Setting → Session → List Given → List Waiting → Load → Run → files.Loading → Ends
loading_left s session gs ws l r g = loading_then s (load_in l) (run_in (arena_of session) r) (all_waiting (arena_of session) ws) g (world_of session gs (files_of ws))

-- and where that has these globals
abbrev pub names_left : Setting → Session → List Given → List Waiting → Place → List Loaded → List NamedValue → Run → Ends
names_left s session gs ws p xs globals r =
    names_then s p (globals_of (arena_of session) globals) (loaded_names_of xs) (run_in (arena_of session) r) (all_waiting (arena_of session) ws) (world_of session gs (files_of ws))

-- behind a file that gave this
abbrev pub behind_left : Setting → Session → List Given → List Waiting → FileResult → Ends
behind_left s session gs ws x = behind s (all_waiting (arena_of session) ws) (result_of (arena_of session) x) (world_of session gs (files_of ws))

-- ---- what a turn leaves

-- this run is left
pub record GoesOn (s : Setting) (ps : List Program) (session : Session) (gs : List Given) (ws : List Waiting) (e : Ends) (r : Run) : Type 0 where
  pub same : e ≡ left_of s session gs ws r
  pub sound : Sound ps (arena_of session) gs ws r

abbrev pub GoesOrFails : Setting → List Program → Session → List Given → List Waiting → Ends → Result Run Stop → Type 0
GoesOrFails s ps session gs ws e (Ok r) = GoesOn s ps session gs ws e r
GoesOrFails s ps session gs ws e (Err (stop.Fault f)) = Fails session f e
GoesOrFails s ps session gs ws e (Err stop.Memory) = Unit {0}

-- nothing is left, and the last file gave this
pub record FileGave (session : Session) (gs : List Given) (e : Ends) (x : FileResult) : Type 0 where
  pub same : e ≡ done (result_of (arena_of session) x) (world_of session gs [])
  pub owned : Owned (arena_of session) x
  pub given : OwnsGiven (arena_of session) gs

abbrev pub GaveOrFails : Session → List Given → Ends → Result FileResult Stop → Type 0
GaveOrFails session gs e (Ok x) = FileGave session gs e x
GaveOrFails session gs e (Err (stop.Fault f)) = Fails session f e
GaveOrFails session gs e (Err stop.Memory) = Unit {0}

abbrev pub Turns : Setting → List Program → Session → List Given → List Waiting → Ends → Result Turn Stop → Type 0
Turns s ps session gs ws e (Ok (turn.Goes r)) = GoesOn s ps session gs ws e r
Turns s ps session gs ws e (Ok (turn.Ended x)) = FileGave session gs e x
Turns s ps session gs ws e (Err (stop.Fault f)) = Fails session f e
Turns s ps session gs ws e (Err stop.Memory) = Unit {0}

-- ---- what each call does; `now` and `then` wait after it and before it

-- a run gets the names of a load statement
abbrev pub TakesNames : Place → List Loaded → (globals : List NamedValue) → Run → Result Run Stop → Type 0
TakesNames p xs globals r result = (s : Setting) (ps : List Program) (session : Session) (gs : List Given) (ws : List Waiting) →
    OwnsFields (arena_of session) globals → Sound ps (arena_of session) gs ws r → GoesOrFails s ps session gs ws (names_left s session gs ws p xs globals r) result

-- what was found under a path of a load statement is loaded, whatever functions there are and however many calls may stand in one another
abbrev pub TakesFound : Found → Load → Run → Result Run Stop → (now then : List Waiting) → Type 0
TakesFound f l r result now then = (table : Table Ops) (d : ℕ) (ps : List Program) (session : Session) (gs : List Given) →
    OwnsFound ps (arena_of session) f → Sound ps (arena_of session) gs then r →
    GoesOrFails (setting_of table ps d) ps session gs now (loading_left (setting_of table ps d) session gs then l r (loading_of (arena_of session) f)) result

abbrev pub TakesLoad : List Program → Load → Run → List Given → Result Run Stop → (now then : List Waiting) → (after before : Session) → Type 0
TakesLoad ps l r gs result now then after before =
    (table : Table Ops) (d : ℕ) → GoesOrFails (setting_of table ps d) ps after gs now (load_left (setting_of table ps d) before gs then l r) result

-- those go on that wait for a file which gave this; files have given `gs` after it, and `hs` before
abbrev pub GoesBehind : FileResult → Result Turn Stop → (gs hs : List Given) → (now then : List Waiting) → Type 0
GoesBehind x result gs hs now then = (table : Table Ops) (d : ℕ) (ps : List Program) (session : Session) →
    Owned (arena_of session) x → OwnsGiven (arena_of session) hs → OwnsWaiting ps (arena_of session) then →
    Turns (setting_of table ps d) ps session gs now (behind_left (setting_of table ps d) session hs then x) result

-- what the files of these programs run by in a session in which these functions may be called
abbrev pub setting_in : Functions → List Program → Session → Setting
setting_in fs ps session = setting_of (table_of fs) ps session.work.depth

abbrev pub TakesTurn : Functions → List Program → Run → Result Turn Stop → (gs hs : List Given) → (now then : List Waiting) → (after before : Session) → Type 0
TakesTurn fs ps r result gs hs now then after before = Turns (setting_in fs ps before) ps after gs now (left_of (setting_in fs ps before) before hs then r) result

-- ---- the call

-- The file of this number runs so, where files gave `hs` before, and have given `gs` after it: as the run of the file among the units of
-- these programs, of which none is under way.
abbrev pub RunsFileAt : List Program → Functions → (file : ℕ) → Result FileResult Stop → (gs hs : List Given) → (after before : Session) → Type 0
RunsFileAt ps fs f result gs hs after before = GaveOrFails after gs (file_at (setting_in fs ps before) (suc (length ps)) f (world_of before hs [])) result
