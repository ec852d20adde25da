-- What each turn leaves is what was left before it.
use Rattle.std.proofs.Common.{◌≡◌, ◌∙◌, ℕ, suc, List, [], ◌∷◌, ◌++◌, length, Some, None, Result, Ok, Err, if◌then◌else◌, refl, ap, sym, subst}
use Rattle.std.proofs.lemmas.Bool.{eq-eqb}
use denote.Ref.{Bor}
use Rattle.ytt_base.specs.declared.fault.Fault.{Fault}
use Rattle.ytt_base.specs.declared.fault.FaultKind.TheVariants as kind
use Rattle.ytt_base.specs.declared.fault.Place.{Place}
use Rattle.ytt_base.specs.declared.fault.Stop.{Stop}
use Rattle.ytt_base.specs.declared.fault.Stop.TheVariants as stop
use Rattle.ytt_base.specs.Outcomes.{fault_of}
use Rattle.code_spec.specs.Code.{Name}
use Rattle.load_names.specs.Loads.{FaultsWith, LoadsNames}
use Rattle.module_spec.specs.Answering.{modules_answer}
use Rattle.star_blocks.specs.Nested.{ops_of}
use Rattle.star_blocks.specs.declared.block.Op.{Op}
use Rattle.star_eval.specs.FileRun.{RunsAs, RunsFile, block_of}
use Rattle.star_eval.specs.Finishes.{Owned, globals_of, result_of}
use Rattle.star_eval.specs.Meets.{arena_of, state_of}
use Rattle.star_eval.specs.declared.file.FileResult.{FileResult}
use Rattle.star_eval.specs.declared.session.Session.{Session}
use Rattle.star_functions.specs.Table.{table_of}
use Rattle.star_functions.specs.declared.functions.Functions.{Functions}
use Rattle.star_spec.specs.Calls.{asking}
use Rattle.star_spec.specs.Eval.{starlark}
use Rattle.star_tree.specs.Whole.{loaded_names_of}
use Rattle.star_tree.specs.declared.code.Loaded.{Loaded}
use Rattle.star_spec.specs.Hosts.{hosted, with_host}
use Rattle.star_values.proofs.Growing.{each_joined}
use Rattle.star_values.specs.Owns.{Each, Grows, OwnsFields}
use Rattle.star_values.specs.View.{View}
use Rattle.star_values.specs.declared.value.NamedValue.{NamedValue}
use Rattle.template_meaning.specs.Files as files
use Rattle.template_meaning.specs.Files.{ops_loads, not_begun, private_among}
use Rattle.template_meaning.specs.Meaning.{RunLoaded}
use Rattle.value_spec.specs.Outcomes.{Ending, State, bad, then_do}
use Rattle.world_spec.specs.Parts.{World}
use Rattle.world_spec.specs.Worlds.{Kept, looked_up, settled, with_kept, without}
use Rattle.file_load.proofs.Answered.{ended_alike}
use Rattle.file_load.proofs.Growing.{given_kept, run_kept, sound_kept, waiting_kept}
use Rattle.file_load.proofs.Left.{begins, file_left, first_left, named_left, none_left, path_left, private_left, too_deep, unnamed_left}
use Rattle.file_load.proofs.Putting.{last_first}
use Rattle.file_load.specs.Gave.{OwnsGiven, given_in, one_given}
use Rattle.file_load.specs.Looking.{LooksUp, loading_of}
use Rattle.file_load.specs.Programs.{Stands, blocks_from, names_in}
use Rattle.file_load.specs.Running.{Setting, all_left, behind, file_at, loading_then, names_then}
use Rattle.file_load.specs.Seen.{OwnsRun, OwnsWaiting, all_waiting, files_of, kept_of, run_in, setting_of, waiting_in, world_of}
use Rattle.file_load.specs.Statements.{load_in}
use Rattle.file_load.specs.Turns.{Ends, Fails, GaveOrFails, GoesBehind, GoesOn, GoesOrFails, Sound, TakesFound, TakesLoad, TakesNames, TakesTurn, Turns, behind_left, left_of, load_left, loading_left, names_left, setting_in}
use Rattle.file_load.specs.declared.given.Given.{Given}
use Rattle.file_load.specs.declared.looking.Found.{Found}
use Rattle.file_load.specs.declared.looking.Found.TheVariants as there
use Rattle.file_load.specs.declared.programs.Program.{Program}
use Rattle.file_load.specs.declared.running.Turn.{Turn}
use Rattle.file_load.specs.declared.running.Turn.TheVariants as turn
use Rattle.file_load.specs.declared.statements.Load.{Load}
use Rattle.file_load.specs.declared.waiting.Run.{Run}
use Rattle.file_load.specs.declared.waiting.Waiting.{Waiting}

each_parted : {A : Type 0} (P : A → Type 0) (xs ys : List A) → Each P (xs ++ ys) → Each P xs × Each P ys
each_parted P [] ys h = (tt, h)
each_parted P (x ∷ xs) ys h = let k = each_parted P xs ys h.1 in ((h.0, k.0), k.1)

abbrev ends_bad : State World → Fault → Ends
ends_bad w f = bad f w

-- ---- a run gets names

module _ (p : Place) (xs : List Loaded) (globals : List NamedValue) (r : Run) where
  -- what the call says that puts them behind those that the run has got
  abbrev Puts : Result (Unit {0}) Stop → List NamedValue → Type 0
  Puts result got = (a : View) → LoadsNames a p (loaded_names_of xs) globals result got r.got

  pub names_taken : (got : List NamedValue) → Puts (Ok tt) got → TakesNames p xs globals r (Ok (record r { got = got }))
  names_taken got h s ps session gs ws owned sound =
      let a = arena_of session in
      let puts = (h a).meaning in
      let w = world_of session gs (files_of ws) in
      record {
        same = named_left s (run_in a r) (all_waiting a ws) w p (globals_of a globals) puts.0 (loaded_names_of xs) (puts.1 w)
            ∙ (λ i. all_left s (record (run_in a r) { got = sym puts.2 i }) (all_waiting a ws) w);
        sound = record { run = record { stands = sound.run.stands; got = (h a).owned owned sound.run.got }; waiting = sound.waiting; given = sound.given };
      }

  pub names_refused : (got : List NamedValue) (x : Stop) → Puts (Err x) got → TakesNames p xs globals r (Err x)
  names_refused got (stop.Fault f) h s ps session gs ws owned sound =
      let a = arena_of session in
      let w = world_of session gs (files_of ws) in
      (kept_of a gs (files_of ws), unnamed_left s (run_in a r) (all_waiting a ws) w p (globals_of a globals) (loaded_names_of xs) f ((h a).meaning w))
  names_refused got stop.Memory h s ps session gs ws owned sound = tt

-- ---- what was found under a path

module _ (l : Load) (r : Run) (ws : List Waiting) where
  pub missing_taken : (x : Stop) → FaultsWith kind.LoadMissing l.place l.path.now x → TakesFound there.Missing l r (Err x) ws ws
  missing_taken (stop.Fault f) h table d ps session gs owned sound =
      (kept_of (arena_of session) gs (files_of ws), ap (ends_bad (world_of session gs (files_of ws))) (sym h))
  missing_taken stop.Memory h table d ps session gs owned sound = tt

  pub under_way_taken : (x : Stop) → FaultsWith kind.LoadCycle l.place l.path.now x → TakesFound there.UnderWay l r (Err x) ws ws
  under_way_taken (stop.Fault f) h table d ps session gs owned sound =
      (kept_of (arena_of session) gs (files_of ws), ap (ends_bad (world_of session gs (files_of ws))) (sym h))
  under_way_taken stop.Memory h table d ps session gs owned sound = tt

  pub given_taken : (xs : Bor (List NamedValue)) (result : Result Run Stop) → TakesNames l.place l.names.now xs.now r result → TakesFound (there.Given xs) l r result ws ws
  given_taken xs result h table d ps session gs owned sound = h (setting_of table ps d) ps session gs ws owned sound

  pub module_taken : (xs : List NamedValue) (result : Result Run Stop) → TakesNames l.place l.names.now xs r result → TakesFound (there.Module xs) l r result ws ws
  module_taken xs result h table d ps session gs owned sound = h (setting_of table ps d) ps session gs ws owned sound

  module _ (q : Program) where
    -- the run that waits for the file of this program
    abbrev waits : Waiting
    waits = record { run = r; place = l.place; names = l.names; file = q.block.now.file }

    pub too_deep_taken : r.loads ≡ 0 → TakesFound (there.NotBegun q) l r (Err (stop.Fault (fault_of kind.CodeForm))) ws ws
    too_deep_taken n table d ps session gs owned sound =
        let a = arena_of session in
        (kept_of a gs (q.block.now.file ∷ files_of ws), too_deep (setting_of table ps d) (run_in a r) (all_waiting a ws) (world_of session gs (files_of ws)) (load_in l) q.block.now.file n)

    pub begun_taken : (m : ℕ) (new : Run) (now : List Waiting) → r.loads ≡ suc m → now ≡ ws ++ waits ∷ [] →
        new.program ≡ q → new.rest.now ≡ q.block.now.block → new.got ≡ [] → new.loads ≡ m → TakesFound (there.NotBegun q) l r (Ok new) now ws
    begun_taken m new now n put program rest got loads table d ps session gs owned sound =
        let a = arena_of session in
        let s = setting_of table ps d in
        let file = q.block.now.file in
        let block = block_of q.block.now in
        let run : run_in a new ≡ record { block = block; rest = block; got = []; loads = m } =
        λ i. record { block = block_of (program i).block.now; rest = ops_of (program i).block.now.file (rest i); got = globals_of a (got i); loads = loads i } in
        let waiting : all_waiting a now ≡ waiting_in a waits ∷ all_waiting a ws = ap (all_waiting a) put ∙ last_first (waiting_in a) ws waits in
        let begun : files_of now ≡ file ∷ files_of ws = ap files_of put ∙ last_first (λ (w : Waiting). w.file) ws waits in
        record {
          same = begins s (run_in a r) (all_waiting a ws) (world_of session gs (files_of ws)) (load_in l) file m block owned.block n
              ∙ (λ i. all_left s (sym run i) (sym waiting i) (world_of session gs (sym begun i)));
          sound = record {
            run = record { stands = subst (Stands ps) (sym program) owned; got = subst (OwnsFields a) (sym got) tt };
            waiting = subst (OwnsWaiting ps a) (sym put) (each_joined (λ (w : Waiting). OwnsRun ps a w.run) ws (waits ∷ []) sound.waiting (sound.run, tt));
            given = sound.given;
          };
        }

-- ---- a load statement

pub private_taken : (ps : List Program) (l : Load) (r : Run) (gs : List Given) (ws : List Waiting) (session : Session) (x : Stop) (name : Name) → private_among (loaded_names_of l.names.now) ≡ Some name →
    FaultsWith kind.LoadPrivate l.place name x → TakesLoad ps l r gs (Err x) ws ws session session
private_taken ps l r gs ws session (stop.Fault f) name among h table d =
    let a = arena_of session in
    let w = world_of session gs (files_of ws) in
    (kept_of a gs (files_of ws), private_left (setting_of table ps d) (run_in a r) (all_waiting a ws) w (load_in l) name among ∙ ap (ends_bad w) (sym h))
private_taken ps l r gs ws session stop.Memory name among h table d = tt

module _ (ps : List Program) (l : Load) (r : Run) (gs : List Given) (result : Result Run Stop) (now old : List Waiting) (after before : Session) where
  pub found_taken : (f : Found) → private_among (loaded_names_of l.names.now) ≡ None → after.work ≡ before.work → LooksUp ps gs (files_of old) l (arena_of after) (arena_of before) f →
      Sound ps (arena_of before) gs old r → TakesFound f l r result now old → TakesLoad ps l r gs result now old after before
  found_taken f among work looks sound takes table d =
      let a = arena_of before in
      let b = arena_of after in
      let s = setting_of table ps d in
      let kept = sound_kept a b looks.grows ps gs old r sound in
      let given = (given_kept a b looks.grows gs sound.given).1 in
      let run = (run_kept a b looks.grows ps r sound.run).1 in
      let waiting = (waiting_kept a b looks.grows ps old sound.waiting).1 in
      let world : world_of after gs (files_of old) ≡ world_of before gs (files_of old) =
      λ i. record { store = looks.store i; steps = (work i).steps; host = record { begun = files_of old; given = given i; values = None; host = tt } } in
      let same : loading_left s after gs old l r (loading_of b f) ≡ load_left s before gs old l r =
      (λ i. loading_then s (load_in l) (run i) (waiting i) (looks.meaning i) (world i))
      ∙ (λ i. loading_then s (load_in l) (run_in a r) (all_waiting a old) (looked_up (names_in ps) l.place l.path.now (record { begun = files_of old; given = given i; values = None; host = tt {0} })) (world_of before gs (files_of old)))
      ∙ sym (path_left s (run_in a r) (all_waiting a old) (world_of before gs (files_of old)) (load_in l) among) in
      subst (λ (e : Ends). GoesOrFails s ps after gs now e result) same (takes table d ps after gs (looks.owned kept.given) kept)

-- ---- behind a file

module _ (x : FileResult) (hs : List Given) where
  -- none waits
  pub nothing_behind : GoesBehind x (Ok (turn.Ended x)) hs hs [] []
  nothing_behind table d ps session owned given waiting = record { same = refl; owned = owned; given = given }

  module _ (w : Waiting) (now old : List Waiting) (popped : old ≡ now ++ w ∷ []) where
    -- the one that waits has been given it
    abbrev gave : Given
    gave = record { file = w.file; globals = x.globals }

    module _ (s : Setting) (ps : List Program) (session : Session) (owned : Owned (arena_of session) x) (given : OwnsGiven (arena_of session) hs) (waiting : OwnsWaiting ps (arena_of session) old) where
      abbrev a : View
      a = arena_of session

      both : OwnsWaiting ps a now × OwnsWaiting ps a (w ∷ [])
      both = each_parted (λ (v : Waiting). OwnsRun ps a v.run) now (w ∷ []) (subst (OwnsWaiting ps a) popped waiting)

      sound_behind : Sound ps a (hs ++ gave ∷ []) now w.run
      sound_behind = record {
        run = both.1.0;
        waiting = both.0;
        given = each_joined (λ (g : Given). OwnsFields a g.globals) hs (gave ∷ []) given (owned.globals, tt);
      }

      taken_off : behind_left s session hs old x ≡ names_left s session (hs ++ gave ∷ []) now w.place w.names.now x.globals w.run
      taken_off =
          let waits : all_waiting a old ≡ waiting_in a w ∷ all_waiting a now = ap (all_waiting a) popped ∙ last_first (waiting_in a) now w in
          let begun : files_of old ≡ w.file ∷ files_of now = ap files_of popped ∙ last_first (λ (v : Waiting). v.file) now w in
          let put : given_in a (hs ++ gave ∷ []) ≡ one_given a gave ∷ given_in a hs = last_first (one_given a) hs gave in
          (λ i. behind s (waits i) (result_of a x) (world_of session hs (begun i)))
          ∙ (λ i. names_then s w.place (globals_of a x.globals) (loaded_names_of w.names.now) (run_in a w.run) (all_waiting a now)
          (with_kept (record { begun = if eq-eqb w.file w.file refl i then files_of now else w.file ∷ without w.file (files_of now); given = sym put i; values = None; host = tt }) (state_of session)))

    pub goes_behind : (gs : List Given) (r : Run) → gs ≡ hs ++ gave ∷ [] → TakesNames w.place w.names.now x.globals w.run (Ok r) → GoesBehind x (Ok (turn.Goes r)) gs hs now old
    goes_behind gs r put takes table d ps session owned given waiting =
        let s = setting_of table ps d in
        let went = takes s ps session (hs ++ gave ∷ []) now owned.globals (sound_behind s ps session owned given waiting) in
        subst (λ (all : List Given). GoesOn s ps session all now (behind_left s session hs old x) r) (sym put)
        (subst (λ (e : Ends). GoesOn s ps session (hs ++ gave ∷ []) now e r) (sym (taken_off s ps session owned given waiting)) went)

    pub fails_behind : (gs : List Given) (y : Stop) → TakesNames w.place w.names.now x.globals w.run (Err y) → GoesBehind x (Err y) gs hs now old
    fails_behind gs (stop.Fault f) takes table d ps session owned given waiting =
        let s = setting_of table ps d in
        subst (λ (e : Ends). Fails session f e) (sym (taken_off s ps session owned given waiting))
        (takes s ps session (hs ++ gave ∷ []) now owned.globals (sound_behind s ps session owned given waiting))
    fails_behind gs stop.Memory takes table d ps session owned given waiting = tt

-- ---- a file whose load statements are done

module _ {H : Type 0} (now old : H) (fs : Functions) (ps : List Program) (r : Run) (hs : List Given) (ws : List Waiting) (after before : Session) (sound : Sound ps (arena_of before) hs ws r)
    (over : ops_loads (ops_of r.program.block.now.file r.rest.now) ≡ []) (loaded : List NamedValue) (same : loaded ≡ r.got) where
  abbrev s : Setting
  s = setting_in fs ps before

  abbrev was : View
  was = arena_of before

  abbrev kept : Kept (Unit {0})
  kept = kept_of was hs (files_of ws)

  abbrev Ran : Result FileResult Stop → Type 0
  Ran result = RunsFile modules_answer r.program.block.now fs r.program.scope.now loaded result after before now old

  abbrev As : List NamedValue → Result FileResult Stop → Type 0
  As vs result = RunsAs modules_answer (table_of fs) (Some (block_of r.program.block.now)) (globals_of was vs) before.work.depth result after before now old

  ran_so : (result : Result FileResult Stop) → Ran result → As r.got result
  ran_so result h = subst (λ (vs : List NamedValue). As vs result) same (h sound.run.stands.scope)

  -- the run of its block, before a host is asked
  abbrev asked : Ending (Unit {0}) files.FileResult
  asked = RunLoaded starlark asking (table_of fs) before.work.depth (globals_of was r.got) (Some (block_of r.program.block.now)) (state_of before)

  comes_to : (ended : Result files.FileResult Fault) → hosted modules_answer asked old ≡ (ended, with_host now (state_of after)) →
      left_of s before hs ws r ≡ then_do (settled kept (ended, state_of after)) (behind s (all_waiting was ws))
  comes_to ended h =
      none_left s (run_in was r) (all_waiting was ws) (world_of before hs (files_of ws)) over
      ∙ ap (λ (e : Result files.FileResult Fault × State (Unit {0})). then_do (settled kept e) (behind s (all_waiting was ws))) (ended_alike asked now old (state_of after) ended h)

  pub file_stops : (x : Stop) (gs : List Given) → Ran (Err x) → TakesTurn fs ps r (Err x) gs hs ws ws after before
  file_stops (stop.Fault f) gs runs = (kept, comes_to (Err f) (ran_so (Err (stop.Fault f)) runs).meaning)
  file_stops stop.Memory gs runs = tt

  -- what follows where it gave this
  module _ (x : FileResult) (ran : Ran (Ok x)) where
    abbrev grown : View
    grown = arena_of after

    so : As r.got (Ok x)
    so = ran_so (Ok x) ran

    grows : Grows was grown
    grows = so.grows

    left_behind : left_of s before hs ws r ≡ behind_left s after hs ws x
    left_behind =
        comes_to (Ok (result_of grown x)) so.meaning
        ∙ (λ i. behind s (sym (waiting_kept was grown grows ps ws sound.waiting).1 i) (result_of grown x)
        (with_kept (record { begun = files_of ws; given = sym (given_kept was grown grows hs sound.given).1 i; values = None; host = tt }) (state_of after)))

    pub file_goes : (result : Result Turn Stop) (gs : List Given) (qs : List Waiting) → GoesBehind x result gs hs qs ws → TakesTurn fs ps r result gs hs qs ws after before
    file_goes result gs qs goes =
        subst (λ (e : Ends). Turns s ps after gs qs e result) (sym left_behind)
        (goes (table_of fs) before.work.depth ps after so.owned (given_kept was grown grows hs sound.given).0 (waiting_kept was grown grows ps ws sound.waiting).0)

-- ---- one turn after another

module _ (fs : Functions) (ps : List Program) (r : Run) (l : Load) (rest : Bor (List Op)) (gs : List Given) (now old : List Waiting) (after before : Session)
    (first : ops_loads (ops_of r.program.block.now.file r.rest.now) ≡ load_in l ∷ ops_loads (ops_of r.program.block.now.file rest.now)) where
  abbrev Loads : Result Run Stop → Type 0
  Loads result = TakesLoad ps l (record r { rest = rest }) gs result now old after before

  load_next : left_of (setting_in fs ps before) before gs old r ≡ load_left (setting_in fs ps before) before gs old l (record r { rest = rest })
  load_next =
      let a = arena_of before in
      first_left (setting_in fs ps before) (run_in a r) (all_waiting a old) (world_of before gs (files_of old)) (load_in l) (ops_of r.program.block.now.file rest.now) first

  pub load_goes : (q : Run) → Loads (Ok q) → TakesTurn fs ps r (Ok (turn.Goes q)) gs gs now old after before
  load_goes q h = subst (λ (e : Ends). GoesOn (setting_in fs ps before) ps after gs now e q) (sym load_next) (h (table_of fs) before.work.depth)

  pub load_stops : (x : Stop) → Loads (Err x) → TakesTurn fs ps r (Err x) gs gs now old after before
  load_stops (stop.Fault f) h = subst (λ (e : Ends). Fails after f e) (sym load_next) (h (table_of fs) before.work.depth)
  load_stops stop.Memory h = tt

-- a turn of a run that began in a session of the same depth
pub turn_then : (fs : Functions) (ps : List Program) (begun before after : Session) (gs hs : List Given) (now old : List Waiting) (e : Ends) (r : Run) (result : Result Turn Stop) → before.work.depth ≡ begun.work.depth →
    GoesOn (setting_in fs ps begun) ps before hs old e r → TakesTurn fs ps r result gs hs now old after before → Turns (setting_in fs ps begun) ps after gs now e result
turn_then fs ps begun before after gs hs now old e r result depth goes turns =
    subst (λ (o : Ends). Turns (setting_in fs ps begun) ps after gs now o result) (sym goes.same)
    (subst (λ (d : ℕ). Turns (setting_of (table_of fs) ps d) ps after gs now (left_of (setting_of (table_of fs) ps d) before hs old r) result) depth turns)

-- a turn that fails is the end
pub turn_fails : (s : Setting) (ps : List Program) (after : Session) (gs : List Given) (now : List Waiting) (e : Ends) (x : Stop) → Turns s ps after gs now e (Err x) → GaveOrFails after gs e (Err x)
turn_fails s ps after gs now e (stop.Fault f) h = h
turn_fails s ps after gs now e stop.Memory h = tt

-- ---- the call

-- the run of a file from its start
pub starts : (fs : Functions) (ps : List Program) (before : Session) (hs : List Given) (place : ℕ) (p : Program) (start : Run) → Stands ps p → p.block.now.file ≡ suc place →
    start.program ≡ p → start.rest.now ≡ p.block.now.block → start.got ≡ [] → start.loads ≡ length ps →
    left_of (setting_in fs ps before) before hs [] start ≡ file_at (setting_in fs ps before) (suc (length ps)) (suc place) (world_of before hs [])
starts fs ps before hs place p start stands file program rest got loads =
    let a = arena_of before in
    let s = setting_in fs ps before in
    let block = block_of p.block.now in
    let run : run_in a start ≡ record { block = block; rest = block; got = []; loads = length ps } =
    λ i. record { block = block_of (program i).block.now; rest = ops_of (program i).block.now.file (rest i); got = globals_of a (got i); loads = loads i } in
    (λ i. all_left s (run i) [] (world_of before hs []))
    ∙ sym (file_left s (length ps) (suc place) block (world_of before hs []) (ap (blocks_from 1 ps) (sym file) ∙ stands.block))
