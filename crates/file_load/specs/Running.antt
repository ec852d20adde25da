-- Files that wait for those that they load, as plain data, and what is left to be done.
use Rattle.std.specs.Prelude.{ℕ, List, [], ◌∷◌, ◌++◌, Option, Some}
use Rattle.ytt_base.specs.declared.fault.Place.{Place}
use Rattle.code_spec.specs.Blocks.{Ops}
use Rattle.code_spec.specs.Code.{LoadedNames}
use Rattle.module_spec.specs.Answering.{modules_answer}
use Rattle.star_spec.specs.Calls.{Table, asking}
use Rattle.star_spec.specs.Eval.{starlark}
use Rattle.template_meaning.specs.Files.{FileResult, Globals, Load, Loader, Loading, all_loads, loaded_now, loader_of, names_loaded, on_host, one_load, ops_loads}
use Rattle.template_meaning.specs.Meaning.{RunLoaded}
use Rattle.value_spec.specs.Outcomes.{Computation, give, ◌>>=◌}
use Rattle.world_spec.specs.Parts.{World}
use Rattle.world_spec.specs.Worlds.{inside, shelf_of, unit_run}

-- what files run by: the names of all, their functions, their blocks, and how many calls may stand in one another
pub record Setting : Type 0 where
  pub names : List (List ℕ)
  pub table : Table Ops
  pub blocks_at : ℕ → Option Ops
  pub depth : ℕ

-- a file whose load statements run: its block, what is left of it, the names that it has got, and how many loads may stand in one another
pub record Run : Type 0 where
  pub block : Ops
  pub rest : Ops
  pub got : Globals
  pub loads : ℕ

-- a file that waits for one that it loads: where, by which names, and the number of the file that it waits for
pub record Waiting : Type 0 where
  pub run : Run
  pub place : Place
  pub names : LoadedNames
  pub file : ℕ

abbrev pub with_more : Run → Globals → Run
with_more r gs = record r { got = r.got ++ gs }

-- a file by its number, where so many loads may stand in one another
abbrev pub file_at : Setting → (loads : ℕ) → (file : ℕ) → Computation World FileResult
file_at s n f = unit_run modules_answer s.names s.table s.blocks_at s.depth n f

abbrev pub loader_at : Setting → (loads : ℕ) → Loader World
loader_at s n = loader_of (shelf_of s.names) (file_at s n)

-- a file behind its load statements, which gave these names
abbrev pub file_run : Setting → Globals → Ops → Computation World FileResult
file_run s gs os = inside modules_answer (RunLoaded starlark asking s.table s.depth gs (Some os))

-- the load statements that are left of a file, and then the file
abbrev pub run_left : Setting → Run → Computation World FileResult
run_left s r = all_loads (loader_at s r.loads) (ops_loads r.rest) >>= λ gs. file_run s (r.got ++ gs) r.block

-- what follows for those that wait from what a file gave, the innermost first
abbrev pub behind : Setting → List Waiting → FileResult → Computation World FileResult
behind s [] r = give r
behind s (w ∷ ws) r = do
  u ← on_host ((shelf_of s.names).end w.file r.globals)
  gs ← names_loaded w.place r.globals w.names
  given ← run_left s (with_more w.run gs)
  behind s ws given

-- all that is left
abbrev pub all_left : Setting → Run → List Waiting → Computation World FileResult
all_left s r ws = run_left s r >>= behind s ws

-- one load statement first
abbrev pub loads_then : Setting → Load → Run → List Waiting → Computation World FileResult
loads_then s l r ws = one_load (loader_at s r.loads) l >>= λ gs. all_left s (with_more r gs) ws

-- and that where what it loads has these globals
abbrev pub names_then : Setting → Place → (globals : Globals) → LoadedNames → Run → List Waiting → Computation World FileResult
names_then s p globals xs r ws = names_loaded p globals xs >>= λ gs. all_left s (with_more r gs) ws

-- or where it is known what there is under its path
abbrev pub loading_then : Setting → Load → Run → List Waiting → Loading → Computation World FileResult
loading_then s l r ws g =
    (loaded_now (shelf_of s.names) (file_at s r.loads) l.place l.path g >>= λ gs. names_loaded l.place gs l.names) >>= λ gs. all_left s (with_more r gs) ws
