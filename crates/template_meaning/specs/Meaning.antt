-- The two meanings of a file, and what it says that they agree.
use Rattle.std.specs.Prelude.{◌≡◌, ℕ, zero, suc, List, [], ◌∷◌, Option, Some, None, if◌then◌else◌}
use Rattle.ytt_base.specs.Trees.{Trees, no_trees, tree, is_null}
use Rattle.code_spec.specs.Code.{Name}
use Rattle.code_spec.specs.Program.{Instruction}
use Rattle.value_spec.specs.Values.{child, Children, no_children, a_child, Env}
use Rattle.value_spec.specs.Outcomes.{State, Computation, give, ill_formed, ◌>>=◌}
use Rattle.star_spec.specs.Language.{Call, Language}
use Rattle.code_spec.specs.Blocks.{Ops, blocks}
use Rattle.star_spec.specs.Calls.{Host, Table}
use Rattle.template_spec.specs.Template.{Items}
use Rattle.template_spec.specs.Compiled.{compiled}
use Rattle.value_spec.specs.Built.{body_tree}
use Rattle.template_meaning.specs.Build.{builds, built}
use Rattle.template_meaning.specs.Run.{runs}
use Rattle.code_spec.specs.Scopes.{ops_names}
use Rattle.template_spec.specs.Names.{items_names}
use Rattle.template_meaning.specs.Calls.{bottom, bottom_flow, template_calls, program_calls, table_calls}
use Rattle.template_meaning.specs.Files.{Load, Globals, items_loads, ops_loads, Loader, FileResult, File, LoadedFile, Shelf, loader_of}
use Rattle.template_spec.specs.ControlWords.{free, WordsStand}

-- ---- in a scope

-- the direct meaning of items
abbrev pub Build : {H : Type 0} → Language H → Call H → Items → Env → Computation H Children
Build language call t env = builds language call 0 t env no_children >>= λ f. give (built f)

abbrev pub run_blocks : {H : Type 0} → Language H → Call H → Option Ops → Env → Computation H Children
run_blocks language call None env = ill_formed
run_blocks language call (Some os) env = runs language call os env (bottom 0 ∷ []) >>= λ f. give (built (bottom_flow f))

-- the meaning of a program
abbrev pub Run : {H : Type 0} → Language H → Call H → List Instruction → Env → Computation H Children
Run language call is env = run_blocks language call (blocks is) env

-- ---- of a file

abbrev pub BuildFile : {H : Type 0} → Language H → Host H → Loader H → (ℕ → Items) → (depth : ℕ) → Items → Computation H FileResult
BuildFile language host loader files d t = File loader (items_loads t) (items_names t) (Build language (template_calls language host files d) t)

abbrev pub names_in : Option Ops → List Name
names_in None = []
names_in (Some os) = ops_names os

abbrev pub loads_in : Option Ops → List Load
loads_in None = []
loads_in (Some os) = ops_loads os

abbrev pub RunFile : {H : Type 0} → Language H → Host H → Loader H → (ℕ → List Instruction) → (depth : ℕ) → List Instruction → Computation H FileResult
RunFile language host loader files d is = File loader (loads_in (blocks is)) (names_in (blocks is)) (Run language (program_calls language host files d) is)

-- of a file whose load statements gave these names, where the functions of all files are in this table
abbrev pub RunLoaded : {H : Type 0} → Language H → Host H → Table Ops → (depth : ℕ) → Globals → Option Ops → Computation H FileResult
RunLoaded language host table d loaded blocks = LoadedFile loaded (names_in blocks) (run_blocks language (table_calls language host table d) blocks)

-- ---- of files that load one another, where so many loads may stand in one another

abbrev pub build_loaded : {H : Type 0} → Language H → Host H → Shelf H → (ℕ → Items) → (depth loads : ℕ) → (file : ℕ) → Computation H FileResult
build_loaded language host shelf files d zero f = ill_formed
build_loaded language host shelf files d (suc n) f = BuildFile language host (loader_of shelf (build_loaded language host shelf files d n)) files d (files f)

abbrev pub run_loaded : {H : Type 0} → Language H → Host H → Shelf H → (ℕ → List Instruction) → (depth loads : ℕ) → (file : ℕ) → Computation H FileResult
run_loaded language host shelf files d zero f = ill_formed
run_loaded language host shelf files d (suc n) f = RunFile language host (loader_of shelf (run_loaded language host shelf files d n)) files d (files f)

-- ---- that they agree

-- in the templates of all files, `break`, `continue` and `return` stand where they may
abbrev pub AllStand : (ℕ → Items) → Type 0
AllStand files = (f : ℕ) → WordsStand free (files f)

-- A program runs in each scope as items are built, where each file's program is its template compiled: the same
-- children or the same fault, the same steps left, and the same store and state of the host.
abbrev pub Agrees : {H : Type 0} → Language H → Host H → List Instruction → Items → Type 0
Agrees {H = H} language host program t =
    (files : ℕ → Items) → AllStand files → (d : ℕ) (env : Env) (s : State H) →
    Run language (program_calls language host (λ f. compiled (files f)) d) program env s ≡ Build language (template_calls language host files d) t env s

-- so does its file, however paths are loaded
abbrev pub FilesAgree : {H : Type 0} → Language H → Host H → List Instruction → Items → Type 0
FilesAgree {H = H} language host program t =
    (files : ℕ → Items) → AllStand files → (loader : Loader H) (d : ℕ) (s : State H) →
    RunFile language host loader (λ f. compiled (files f)) d program s ≡ BuildFile language host loader files d t s

-- and files that load one another
abbrev pub LoadsAgree : {H : Type 0} → Language H → Host H → Shelf H → Type 0
LoadsAgree {H = H} language host shelf =
    (files : ℕ → Items) → AllStand files → (d n f : ℕ) (s : State H) →
    run_loaded language host shelf (λ f. compiled (files f)) d n f s ≡ build_loaded language host shelf files d n f s

-- ---- documents

-- the trees of the children, but for the null ones
abbrev pub documents : Children → Trees
documents no_children = no_trees
documents (a_child (child p ns x b) cs) = if is_null (body_tree b) then documents cs else tree (body_tree b) (documents cs)
