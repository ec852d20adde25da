-- What is left of runs, one load statement after another.
use Rattle.std.proofs.Common.{◌≡◌, ◌∙◌, ℕ, suc, List, [], ◌∷◌, ◌++◌, Some, None, ap, sym, append_assoc}
use Rattle.std.proofs.lemmas.List.{append-nil}
use Rattle.ytt_base.specs.declared.fault.Fault.{Fault}
use Rattle.ytt_base.specs.declared.fault.FaultKind.TheVariants as kind
use Rattle.ytt_base.specs.declared.fault.Place.{Place}
use Rattle.ytt_base.specs.Outcomes.{fault_of}
use Rattle.code_spec.specs.Blocks.{Ops}
use Rattle.code_spec.specs.Code.{LoadedNames, Name}
use Rattle.module_spec.specs.Answering.{modules_answer}
use Rattle.star_spec.specs.Calls.{asking}
use Rattle.star_spec.specs.Eval.{starlark}
use Rattle.template_meaning.specs.Meaning.{RunLoaded, loads_in}
use Rattle.template_meaning.specs.Files.{FileResult, Globals, Load, all_loads, names_loaded, not_begun, on_host, one_load, ops_loads, private_among, unless_private}
use Rattle.value_spec.proofs.Computations.{then_assoc, then_ext, then_give}
use Rattle.value_spec.specs.Outcomes.{Computation, Ending, State, bad, done, give, then_do, ◌>>=◌}
use Rattle.world_spec.specs.Parts.{World}
use Rattle.world_spec.specs.Worlds.{behind_loads, looked_up, shelf_of}
use Rattle.file_load.specs.Running.{Run, Setting, Waiting, all_left, behind, file_at, file_run, loader_at, loading_then, loads_then, names_then, run_left, with_more}

module _ (s : Setting) (r : Run) (ws : List Waiting) (w : State World) where
  -- no load statement is left
  pub none_left : ops_loads r.rest ≡ [] → all_left s r ws w ≡ then_do (file_run s r.got r.block w) (behind s ws)
  none_left e =
      (λ i. then_do (then_do (all_loads (loader_at s r.loads) (e i) w) (λ gs. file_run s (r.got ++ gs) r.block)) (behind s ws))
      ∙ (λ i. then_do (file_run s (append-nil r.got i) r.block w) (behind s ws))

  -- the first one that is left, and what follows
  module _ (l : Load) (os : Ops) where
    abbrev more : Computation World Globals
    more = all_loads (loader_at s r.loads) (ops_loads os)

    abbrev after : Run
    after = record r { rest = os }

    -- behind it
    after_one : (gs : Globals) (t : State World) →
        then_do (then_do (then_do (more t) (λ hs. give (gs ++ hs))) (λ all. file_run s (r.got ++ all) r.block)) (behind s ws) ≡ all_left s (with_more after gs) ws t
    after_one gs t =
        ap (λ (o : Ending World FileResult). then_do o (behind s ws)) (then_assoc (more t) (λ hs. give (gs ++ hs)) (λ all. file_run s (r.got ++ all) r.block))
        ∙ (λ i. then_do (then_do (more t) (λ hs. file_run s (sym (append_assoc r.got gs hs) i) r.block)) (behind s ws))

    pub first_left : ops_loads r.rest ≡ l ∷ ops_loads os → all_left s r ws w ≡ loads_then s l after ws w
    first_left e =
        let first : Ending World Globals = one_load (loader_at s r.loads) l w in
        let joined : Globals → Computation World Globals = λ gs. more >>= λ hs. give (gs ++ hs) in
        let file : Globals → Computation World FileResult = λ all. file_run s (r.got ++ all) r.block in
        (λ i. then_do (then_do (all_loads (loader_at s r.loads) (e i) w) file) (behind s ws))
        ∙ ap (λ (o : Ending World FileResult). then_do o (behind s ws)) (then_assoc first joined file)
        ∙ then_assoc first (λ gs. joined gs >>= file) (behind s ws)
        ∙ then_ext first (λ gs. (joined gs >>= file) >>= behind s ws) (λ gs. all_left s (with_more after gs) ws) after_one

  -- a load statement of a private name
  pub private_left : (l : Load) (x : Name) → private_among l.names ≡ Some x → loads_then s l r ws w ≡ bad (record { kind = kind.LoadPrivate; place = Some l.place; detail = x }) w
  private_left l x e = λ i. then_do (unless_private l.place (e i) (loader_at s r.loads l.place l.path >>= λ gs. names_loaded l.place gs l.names) w) (λ gs. all_left s (with_more r gs) ws)

  -- of no private name
  pub path_left : (l : Load) → private_among l.names ≡ None → loads_then s l r ws w ≡ loading_then s l r ws (looked_up s.names l.place l.path w.host) w
  path_left l e = λ i. then_do (unless_private l.place (e i) (loader_at s r.loads l.place l.path >>= λ gs. names_loaded l.place gs l.names) w) (λ gs. all_left s (with_more r gs) ws)

  -- a file that is run first, for which this run waits
  module _ (l : Load) (f : ℕ) where
    abbrev begun : State World
    begun = record w { host = (shelf_of s.names).begin f w.host }

    abbrev waits : Waiting
    waits = record { run = r; place = l.place; names = l.names; file = f }

    file_first : loading_then s l r ws (not_begun f) w ≡ then_do (file_at s r.loads f begun) (behind s (waits ∷ ws))
    file_first =
        let run : Ending World FileResult = file_at s r.loads f begun in
        let ends : FileResult → Computation World Globals = λ x. on_host ((shelf_of s.names).end f x.globals) >>= λ u. give x.globals in
        let names : Globals → Computation World Globals = λ gs. names_loaded l.place gs l.names in
        let left : Globals → Computation World FileResult = λ gs. all_left s (with_more r gs) ws in
        ap (λ (o : Ending World Globals). then_do o left) (then_assoc run ends names) ∙ then_assoc run (λ x. ends x >>= names) left

    pub begins : (m : ℕ) (os : Ops) → s.blocks_at f ≡ Some os → r.loads ≡ suc m →
        loading_then s l r ws (not_begun f) w ≡ all_left s (record { block = os; rest = os; got = []; loads = m }) (waits ∷ ws) begun
    begins m os here n =
        file_first
        ∙ (λ i. then_do (file_at s (n i) f begun) (behind s (waits ∷ ws)))
        ∙ (λ i. then_do (behind_loads modules_answer (loader_at s m) (loads_in (here i)) (λ gs. RunLoaded starlark asking s.table s.depth gs (here i)) begun) (behind s (waits ∷ ws)))

    pub too_deep : r.loads ≡ 0 → loading_then s l r ws (not_begun f) w ≡ bad (fault_of kind.CodeForm) begun
    too_deep n = file_first ∙ (λ i. then_do (file_at s (n i) f begun) (behind s (waits ∷ ws)))

  -- what is left, where the names of a load statement are known
  pub named_left : (p : Place) (globals here : Globals) (xs : LoadedNames) → names_loaded p globals xs w ≡ done here w → names_then s p globals xs r ws w ≡ all_left s (with_more r here) ws w
  named_left p globals here xs e = ap (λ (o : Ending World Globals). then_do o (λ gs. all_left s (with_more r gs) ws)) e

  pub unnamed_left : (p : Place) (globals : Globals) (xs : LoadedNames) (f : Fault) → names_loaded p globals xs w ≡ bad f w → names_then s p globals xs r ws w ≡ bad f w
  unnamed_left p globals xs f e = ap (λ (o : Ending World Globals). then_do o (λ gs. all_left s (with_more r gs) ws)) e

-- the run of a file by its number
pub file_left : (s : Setting) (n f : ℕ) (os : Ops) (w : State World) → s.blocks_at f ≡ Some os → file_at s (suc n) f w ≡ all_left s (record { block = os; rest = os; got = []; loads = n }) [] w
file_left s n f os w here =
    (λ i. behind_loads modules_answer (loader_at s n) (loads_in (here i)) (λ gs. RunLoaded starlark asking s.table s.depth gs (here i)) w)
    ∙ then_give (run_left s (record { block = os; rest = os; got = []; loads = n }) w)
