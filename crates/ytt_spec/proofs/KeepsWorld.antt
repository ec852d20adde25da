-- Files that load one another keep what the program holds: in their store, and in what files gave and data is between two runs.
use Rattle.std.proofs.Common.{ℕ, zero, suc, ◌==◌, Bool, true, false, if◌then◌else◌, List, [], ◌∷◌, ◌++◌, length, Option, Some, None, bytes_eq}
use Rattle.ytt_base.specs.declared.fault.FaultKind.{FaultKind}
use Rattle.ytt_base.specs.declared.fault.FaultKind.TheVariants as kind
use Rattle.ytt_base.specs.declared.fault.Place.{Place}
use Rattle.code_spec.specs.Code.{LoadedNames, Name, a_loaded, no_loaded}
use Rattle.module_spec.proofs.ModulesHeld.{IsHeldModule, module_held}
use Rattle.module_spec.proofs.QuestionsKeep.{answers_keep}
use Rattle.module_spec.specs.Answering.{modules_answer}
use Rattle.module_spec.specs.Laws.{AnswersKeep}
use Rattle.module_spec.specs.Modules.{module_in, module_name, modules, names_module}
use Rattle.star_spec.proofs.CallsKeep.{asking_keeps, starlark_keeps}
use Rattle.star_spec.proofs.EvalKeeps.{boxes_keep, fill_keeps}
use Rattle.star_spec.proofs.Keeping.{Anything, IfFound, Keeps, Kept, box_held, found_if, freeze_held, keeps_give, keeps_or_ill_formed, keeps_then, object_held}
use Rattle.star_spec.specs.Calls.{asking}
use Rattle.star_spec.specs.Eval.{starlark}
use Rattle.star_spec.specs.Held.{HeldIfAny, HeldStore, HeldValue}
use Rattle.star_spec.specs.Hosts.{hosted, with_host, without_host}
use Rattle.star_spec.specs.Names.{box_of}
use Rattle.template_meaning.proofs.BuildKeeps.{HeldGlobals, HeldItems, HeldResult, items_build}
use Rattle.template_meaning.proofs.TakeKeeps.{Good}
use Rattle.template_meaning.specs.Calls.{template_calls}
use Rattle.template_meaning.specs.Files.{FileResult, Globals, Load, LoadedFile, Loader, Loading, all_loads, bind_loaded, ended, globals_in, items_loads, loaded, loaded_now, loader_of, missing, names_loaded, not_begun, on_host, private_among, under_way, unless_private, value_among, value_loaded, with_global}
use Rattle.template_meaning.specs.Meaning.{Build}
use Rattle.template_spec.specs.Names.{items_names}
use Rattle.template_spec.specs.Template.{Items}
use Rattle.ytt_base.specs.Trees.{max_depth}
use Rattle.value_spec.specs.Outcomes.{Computation, Ending, State, asks, bad, done, fail_with, give, ill_formed, then_do, ◌>>=◌}
use Rattle.value_spec.specs.Store.{box_at, object_at}
use Rattle.value_spec.specs.Values.{Children, Env, Store, Value}
use Rattle.world_spec.specs.Parts.{World}
use Rattle.world_spec.specs.Paths.{file_named}
use Rattle.world_spec.specs.Worlds.{file_loading, given_by, inside, is_begun, looked_up, module_loading, settled, shelf_of, unit_meaning, unless_given}

-- ---- states

-- what files gave
abbrev HeldGiven : List (ℕ × Globals) → Type 0
HeldGiven [] = Unit {0}
HeldGiven (g ∷ gs) = HeldGlobals g.1 × HeldGiven gs

abbrev HeldBetween : World → Type 0
HeldBetween k = HeldGiven k.given × HeldIfAny k.values

abbrev pub HeldWorld : State World → Type 0
HeldWorld s = HeldStore s.store × HeldBetween s.host

-- nothing is asked, since each file is run to its end
abbrev pub KeptWorld : {A : Type 0} → (A → Type 0) → Ending World A → Type 0
KeptWorld P (done a s) = P a × HeldWorld s
KeptWorld P (bad f s) = HeldWorld s
KeptWorld P (asks q s n) = ⊥

pub record KeepsWorld {A : Type 0} (P : A → Type 0) (m : Computation World A) : Type 0 where
  pub by : (s : State World) → HeldWorld s → KeptWorld P (m s)

-- ---- computations

kept_then : {A B : Type 0} (P : A → Type 0) (Q : B → Type 0) (e : Ending World A) (f : A → Computation World B) → KeptWorld P e → ((a : A) → P a → KeepsWorld Q (f a)) → KeptWorld Q (then_do e f)
kept_then P Q (done a s) f h k = (k a h.0).by s h.1
kept_then P Q (bad e s) f h k = h
kept_then P Q (asks q s n) f h k = absurd h

pub world_then : {A B : Type 0} {P : A → Type 0} {Q : B → Type 0} {m : Computation World A} {f : A → Computation World B} → KeepsWorld P m → ((a : A) → P a → KeepsWorld Q (f a)) → KeepsWorld Q (m >>= f)
world_then {P = P} {Q = Q} {m = m} {f = f} h k = record { by = λ s held. kept_then P Q (m s) f (h.by s held) k }

pub world_give : {A : Type 0} {P : A → Type 0} (a : A) → P a → KeepsWorld P (give a)
world_give a h = record { by = λ s held. (h, held) }

world_fail : {A : Type 0} {P : A → Type 0} (k : FaultKind) (p : Place) (d : List ℕ) → KeepsWorld P (fail_with k p d)
world_fail k p d = record { by = λ s held. held }

world_ill_formed : {A : Type 0} {P : A → Type 0} → KeepsWorld P ill_formed
world_ill_formed = record { by = λ s held. held }

-- ---- a run between two loads

answers_held : AnswersKeep modules_answer
answers_held q s h held = answers_keep q (without_host s) h held

settled_kept : {A : Type 0} (P : A → Type 0) (k : World) (e : Ending (Unit {0}) A) (h : Unit {0}) → Kept P e → HeldBetween k → KeptWorld P (settled k (hosted modules_answer e h))
settled_kept P k (done a s) h g held = (g.0, (g.1, held))
settled_kept P k (bad f s) h g held = (g, held)
settled_kept P k (asks q s n) h g held =
    let r = modules_answer q (with_host h s) in
    let a = answers_held q (with_host h s) g.0 g.1 in
    settled_kept P k (n r.0 (without_host r.1)) r.1.host (g.2 r.0 (without_host r.1) a.0 a.1) held

inside_keeps : {A : Type 0} (P : A → Type 0) (m : Computation (Unit {0}) A) → Keeps P m → KeepsWorld P (inside modules_answer m)
inside_keeps P m keeps = record { by = λ s held. settled_kept P s.host (m (record { store = s.store; steps = s.steps; host = tt })) s.host.host (keeps.by _ held.0) held.1 }

-- ---- a file behind its loads

bound_keep : {H : Type 0} (gs : Globals) (env : Env) → HeldGlobals gs → Keeps {H = H} Anything (bind_loaded gs env)
bound_keep [] env h = keeps_give tt tt
bound_keep (g ∷ gs) env h = keeps_then (keeps_or_ill_formed {P = Anything} (box_of g.0 env) (λ r e. tt)) (λ r u. keeps_then (fill_keeps r g.1 h.0) (λ v t. bound_keep gs env h.1))

global_held : (x : Name) (o : Option Value) (gs : Globals) → HeldIfAny o → HeldGlobals gs → HeldGlobals (with_global x o gs)
global_held x None gs h k = k
global_held x (Some v) gs h k = (h, k)

globals_held : (store : Store) (env : Env) → HeldStore store → HeldGlobals (globals_in store env)
globals_held store [] h = tt
globals_held store (b ∷ env) h = global_held b.0 (box_at b.1 store) (globals_in store env) (box_held (object_at b.1 store) (object_held store b.1 h)) (globals_held store env h)

ended_keeps : {H : Type 0} (before : ℕ) (env : Env) (cs : Children) → Good max_depth cs → Keeps {H = H} HeldResult (ended before env cs)
ended_keeps before env cs h = record { by = λ s held. ((h, globals_held s.store env held), freeze_held before s.store held) }

file_keeps : {H : Type 0} (gs : Globals) (names : List Name) (meaning : Env → Computation H Children) → HeldGlobals gs → ((env : Env) → Keeps (Good max_depth) (meaning env)) → Keeps HeldResult (LoadedFile gs names meaning)
file_keeps gs names meaning h k = record {
  by = λ s held. (keeps_then (boxes_keep names []) (λ env u. keeps_then (bound_keep gs env h) (λ v t. keeps_then (k env) (λ cs g. ended_keeps (length s.store) env cs g)))).by s held;
}

-- ---- what is found under a path

abbrev HeldLoading : Loading → Type 0
HeldLoading missing = Unit {0}
HeldLoading (not_begun f) = Unit {0}
HeldLoading under_way = Unit {0}
HeldLoading (loaded gs) = HeldGlobals gs

loading_if : (b : Bool) (x y : Loading) → HeldLoading x → HeldLoading y → HeldLoading (if b then x else y)
loading_if true x y h k = h
loading_if false x y h k = k

given_held : (f : ℕ) (gs : List (ℕ × Globals)) → HeldGiven gs → IfFound HeldGlobals (given_by f gs)
given_held f [] h = tt
given_held f (g ∷ gs) h = found_if HeldGlobals (f == g.0) (Some g.1) (given_by f gs) h.0 (given_held f gs h.1)

unless_held : (f : ℕ) (k : World) (o : Option Globals) → IfFound HeldGlobals o → HeldLoading (unless_given f k o)
unless_held f k (Some gs) h = h
unless_held f k None h = loading_if (is_begun f k.begun) under_way (not_begun f) tt tt

file_held : (k : World) (o : Option ℕ) → HeldBetween k → HeldLoading (file_loading k o)
file_held k None h = tt
file_held k (Some f) h = unless_held f k (given_by f k.given) (given_held f k.given h.0)

module_loading_held : (o : Option (Name × Value)) → IfFound IsHeldModule o → HeldLoading (module_loading o)
module_loading_held None h = tt
module_loading_held (Some m) h = (h, tt)

looked_held : (names : List (List ℕ)) (p : Place) (path : List ℕ) (k : World) → HeldBetween k → HeldLoading (looked_up names p path k)
looked_held names p path k h =
    loading_if (names_module path) (module_loading (module_in (module_name path) modules)) (file_loading k (file_named names p.file path))
    (module_loading_held (module_in (module_name path) modules) (module_held (module_name path))) (file_held k (file_named names p.file path) h)

-- ---- loads

value_if : (b : Bool) (x y : Option Value) → HeldIfAny x → HeldIfAny y → HeldIfAny (if b then x else y)
value_if true x y h k = h
value_if false x y h k = k

among_held : (x : Name) (gs : Globals) → HeldGlobals gs → HeldIfAny (value_among x gs)
among_held x [] h = tt
among_held x (g ∷ gs) h = value_if (bytes_eq g.0 x) (Some g.1) (value_among x gs) h.0 (among_held x gs h.1)

value_keeps : (p : Place) (x : Name) (o : Option Value) → HeldIfAny o → KeepsWorld HeldValue (value_loaded p x o)
value_keeps p x None h = world_fail kind.LoadMissing p x
value_keeps p x (Some v) h = world_give v h

names_keep : (p : Place) (gs : Globals) (xs : LoadedNames) → HeldGlobals gs → KeepsWorld HeldGlobals (names_loaded p gs xs)
names_keep p gs no_loaded h = world_give [] tt
names_keep p gs (a_loaded x origin xs) h =
    world_then (value_keeps p origin (value_among origin gs) (among_held origin gs h)) (λ v k. world_then (names_keep p gs xs h) (λ more g. world_give ((x, v) ∷ more) (k, g)))

public_keeps : {A : Type 0} {P : A → Type 0} {m : Computation World A} (p : Place) (o : Option Name) → KeepsWorld P m → KeepsWorld P (unless_private p o m)
public_keeps p None h = h
public_keeps p (Some x) h = world_fail kind.LoadPrivate p x

more_globals : (gs hs : Globals) → HeldGlobals gs → HeldGlobals hs → HeldGlobals (gs ++ hs)
more_globals [] hs h k = k
more_globals (g ∷ gs) hs h k = (h.0, more_globals gs hs h.1 k)

loads_keep : (loader : Loader World) → ((p : Place) (path : List ℕ) → KeepsWorld HeldGlobals (loader p path)) → (ls : List Load) → KeepsWorld HeldGlobals (all_loads loader ls)
loads_keep loader keeps [] = world_give [] tt
loads_keep loader keeps (l ∷ ls) =
    world_then (public_keeps l.place (private_among l.names) (world_then (keeps l.place l.path) (λ gs h. names_keep l.place gs l.names h)))
    (λ gs h. world_then (loads_keep loader keeps ls) (λ more k. world_give (gs ++ more) (more_globals gs more h k)))

between_keeps : (f : World → World) → ((k : World) → HeldBetween k → HeldBetween (f k)) → KeepsWorld Anything (on_host f)
between_keeps f h = record { by = λ s held. (tt, (held.0, h s.host held.1)) }

module _ (names : List (List ℕ)) (meaning : ℕ → Computation World FileResult) (keeps : (f : ℕ) → KeepsWorld HeldResult (meaning f)) where
  -- a file that isn't begun is run, and what it gave is kept
  loading_keeps : (p : Place) (path : List ℕ) (l : Loading) → HeldLoading l → KeepsWorld HeldGlobals (loaded_now (shelf_of names) meaning p path l)
  loading_keeps p path missing h = world_fail kind.LoadMissing p path
  loading_keeps p path under_way h = world_fail kind.LoadCycle p path
  loading_keeps p path (loaded gs) h = world_give gs h
  loading_keeps p path (not_begun f) h =
      let shelf = shelf_of names in
      world_then (between_keeps (shelf.begin f) (λ k b. b)) (λ u t. world_then (keeps f) (λ r g.
      world_then (between_keeps (shelf.end f r.globals) (λ k b. ((g.1, b.0), b.1))) (λ w t. world_give r.globals g.1)))

  loader_keeps : (p : Place) (path : List ℕ) → KeepsWorld HeldGlobals (loader_of (shelf_of names) meaning p path)
  loader_keeps p path = record { by = λ s held. (loading_keeps p path (looked_up names p path s.host) (looked_held names p path s.host held.1)).by s held }

-- ---- files that load one another

module _ (names : List (List ℕ)) (files : ℕ → Items) (held : (f : ℕ) → HeldItems 0 (files f)) (d : ℕ) where
  -- where so many loads may stand in one another
  pub unit_keeps : (n f : ℕ) → KeepsWorld HeldResult (unit_meaning modules_answer names files d n f)
  unit_keeps zero f = world_ill_formed
  unit_keeps (suc n) f =
      let meaning = Build starlark (template_calls starlark asking files d) (files f) in
      world_then (loads_keep (loader_of (shelf_of names) (unit_meaning modules_answer names files d n)) (loader_keeps names (unit_meaning modules_answer names files d n) (unit_keeps n)) (items_loads (files f)))
      (λ gs h. inside_keeps HeldResult (LoadedFile gs (items_names (files f)) meaning)
      (file_keeps gs (items_names (files f)) meaning h (λ env. items_build starlark starlark_keeps files held asking asking_keeps d (files f) env (held f))))
