-- The meaning of a file: its load statements, then its items, and then all that it made is frozen. A file is loaded at
-- most once; what was loaded is kept in the host's own state.
use Rattle.std.specs.Prelude.{ℕ, ◌==◌, Bool, List, [], ◌∷◌, ◌++◌, length, slice_index, Option, Some, None, bytes_eq, if◌then◌else◌}
use Rattle.ytt_base.specs.declared.fault.FaultKind.TheVariants as kind
use Rattle.ytt_base.specs.declared.fault.Place.{Place}
use Rattle.code_spec.specs.Code.{Name, LoadedNames, no_loaded, a_loaded, Statement, load}
use Rattle.code_spec.specs.Blocks.{Op, op_part, op_statement, op_if, op_for, op_def, Ops, no_ops, an_op}
use Rattle.value_spec.specs.Values.{Value, Children, Env, Store}
use Rattle.value_spec.specs.Outcomes.{Computation, done, give, fail_with, or_ill_formed, on_store, ◌>>=◌}
use Rattle.value_spec.specs.Store.{box_at, freeze_since}
use Rattle.star_spec.specs.Names.{box_of, with_boxes, fill_box}
use Rattle.template_spec.specs.Template.{Item, node, code, if_block, for_block, def_block, Items, no_items, an_item, Content, written_value, value_from, pairs, elements}

-- the names of a loaded file that have a value
abbrev pub Globals : Type 0
Globals = List (Name × Value)

-- a load statement: its place, its path as it is written, and its names
pub record Load : Type 0 where
  pub place : Place
  pub path : List ℕ
  pub names : LoadedNames

-- ---- the load statements outside all blocks, in text order

abbrev pub statement_loads : Statement → List Load
statement_loads (load p path xs) = record { place = p; path = path; names = xs } ∷ []
statement_loads _ = []

abbrev mutual
  pub item_loads : Item → List Load
  item_loads (node p kind ns key c) = content_loads c
  item_loads (code s) = statement_loads s
  item_loads (if_block p e body more) = []
  item_loads (for_block p x e body) = []
  item_loads (def_block p number x ps kind body) = []

  pub items_loads : Items → List Load
  items_loads no_items = []
  items_loads (an_item i is) = item_loads i ++ items_loads is

  pub content_loads : Content → List Load
  content_loads (written_value x) = []
  content_loads (value_from e) = []
  content_loads (pairs is) = items_loads is
  content_loads (elements is) = items_loads is

-- those of a program's blocks
abbrev pub op_loads : Op → List Load
op_loads (op_part o) = []
op_loads (op_statement s) = statement_loads s
op_loads (op_if p arms) = []
op_loads (op_for p x e body) = []
op_loads (op_def p number fragment x ps body) = []

abbrev pub ops_loads : Ops → List Load
ops_loads no_ops = []
ops_loads (an_op o os) = op_loads o ++ ops_loads os

-- ---- one load statement

-- how a path, as it is written at the place of its load statement, is loaded
abbrev pub Loader : Type 0 → Type 0
Loader H = Place → List ℕ → Computation H Globals

-- the name begins with `_`
abbrev pub is_private : Name → Bool
is_private x = slice_index x 0 == 95

abbrev pub private_among : LoadedNames → Option Name
private_among no_loaded = None
private_among (a_loaded x origin xs) = if is_private origin then Some origin else private_among xs

abbrev pub value_among : Name → Globals → Option Value
value_among x [] = None
value_among x (g ∷ gs) = if bytes_eq g.0 x then Some g.1 else value_among x gs

abbrev pub value_loaded : {H : Type 0} → Place → Name → Option Value → Computation H Value
value_loaded p x None = fail_with kind.LoadMissing p x
value_loaded p x (Some v) = give v

abbrev pub names_loaded : {H : Type 0} → Place → Globals → LoadedNames → Computation H Globals
names_loaded p gs no_loaded = give []
names_loaded p gs (a_loaded x origin xs) = do
  v ← value_loaded p origin (value_among origin gs)
  more ← names_loaded p gs xs
  give ((x, v) ∷ more)

abbrev pub unless_private : {H A : Type 0} → Place → Option Name → Computation H A → Computation H A
unless_private p None m = m
unless_private p (Some x) m = fail_with kind.LoadPrivate p x

abbrev pub one_load : {H : Type 0} → Loader H → Load → Computation H Globals
one_load loader l = unless_private l.place (private_among l.names) (loader l.place l.path >>= λ gs. names_loaded l.place gs l.names)

abbrev pub all_loads : {H : Type 0} → Loader H → List Load → Computation H Globals
all_loads loader [] = give []
all_loads loader (l ∷ ls) = do
  gs ← one_load loader l
  more ← all_loads loader ls
  give (gs ++ more)

-- ---- one file

-- a name that was loaded is bound before the first item, a later one over an earlier one
abbrev pub bind_loaded : {H : Type 0} → Globals → Env → Computation H (Unit {0})
bind_loaded [] env = give tt
bind_loaded (g ∷ gs) env = or_ill_formed (box_of g.0 env) >>= λ r. fill_box r g.1 >>= λ u. bind_loaded gs env

abbrev pub with_global : Name → Option Value → Globals → Globals
with_global x None gs = gs
with_global x (Some v) gs = (x, v) ∷ gs

abbrev pub globals_in : Store → Env → Globals
globals_in store [] = []
globals_in store (b ∷ env) = with_global b.0 (box_at b.1 store) (globals_in store env)

pub record FileResult : Type 0 where
  pub documents : Children
  pub globals : Globals

abbrev pub ended : {H : Type 0} → (before : ℕ) → Env → Children → Computation H FileResult
ended n env cs = λ s. done (record { documents = cs; globals = globals_in s.store env }) (on_store (freeze_since n) s)

-- The meaning of a file whose load statements gave these names, with these names of its own, where `meaning` is that of its items.
abbrev pub LoadedFile : {H : Type 0} → Globals → List Name → (meaning : Env → Computation H Children) → Computation H FileResult
LoadedFile loaded names meaning = λ s. (do
  env ← with_boxes names []
  u ← bind_loaded loaded env
  cs ← meaning env
  ended (length s.store) env cs) s

-- The meaning of a file with these load statements and these names of its own, where `meaning` is that of its items.
abbrev pub File : {H : Type 0} → Loader H → List Load → List Name → (meaning : Env → Computation H Children) → Computation H FileResult
File loader loads names meaning = λ s. (do
  gs ← all_loads loader loads
  env ← with_boxes names []
  u ← bind_loaded gs env
  cs ← meaning env
  ended (length s.store) env cs) s

-- ---- files that load one another

-- what there is under a path: nothing, a file that isn't begun, one that is under way, or what one gave
pub data Loading : Type 0 where
  missing : Loading
  not_begun : (file : ℕ) → Loading
  under_way : Loading
  loaded : Globals → Loading

-- how the host's own state keeps which files are under way and what those that ended gave
pub record Shelf (H : Type 0) : Type 0 where
  pub look : Place → (path : List ℕ) → H → Loading
  pub begin : (file : ℕ) → H → H
  pub end : (file : ℕ) → Globals → H → H

abbrev pub on_host : {H : Type 0} → (H → H) → Computation H (Unit {0})
on_host f = λ s. done tt (record s { host = f s.host })

abbrev pub loaded_now : {H : Type 0} → Shelf H → (file_meaning : ℕ → Computation H FileResult) → Place → (path : List ℕ) → Loading → Computation H Globals
loaded_now shelf meaning p path missing = fail_with kind.LoadMissing p path
loaded_now shelf meaning p path under_way = fail_with kind.LoadCycle p path
loaded_now shelf meaning p path (loaded gs) = give gs
loaded_now shelf meaning p path (not_begun f) = do
  u ← on_host (shelf.begin f)
  result ← meaning f
  w ← on_host (shelf.end f result.globals)
  give result.globals

abbrev pub loader_of : {H : Type 0} → Shelf H → (file_meaning : ℕ → Computation H FileResult) → Loader H
loader_of shelf meaning p path = λ s. loaded_now shelf meaning p path (shelf.look p path s.host) s

-- where there is nothing to load
abbrev pub nothing_to_load : {H : Type 0} → Loader H
nothing_to_load p path = fail_with kind.LoadMissing p path
