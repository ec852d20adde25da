use Rattle.std.proofs.Common.{◌≡◌, [], ◌∷◌, length, Err, Some, rules, ap, subst, sym, ◌∙◌}
use Rattle.node_build.specs.View.{nodes_of}
use Rattle.star_blocks.specs.Nested.{ops_of}
use Rattle.star_functions.specs.Table.{table_of}
use Rattle.star_resolve.specs.Frames.{boxed, with_unset}
use Rattle.star_spec.specs.Calls.{asking}
use Rattle.star_spec.specs.Eval.{starlark}
use Rattle.star_spec.specs.Hosts.{hosted}
use Rattle.star_steps.specs.Meets.{Meets, as_is}
use Rattle.star_values.proofs.Growing.{grows_then}
use Rattle.star_values.specs.Objects.{env_in}
use Rattle.star_values.specs.Owns.{Grows, OwnsEnv}
use Rattle.template_meaning.specs.Calls.{bottom, table_calls}
use Rattle.template_meaning.specs.Files.{bind_loaded}
use Rattle.template_meaning.specs.Run.{runs}
use Rattle.value_spec.specs.Outcomes.{done}
use Rattle.star_eval.specs.declared.session.Session.{Session}
use Rattle.star_eval.specs.Calling.{calls_at}
use Rattle.star_eval.specs.FileRun.{RunsAs, block_of}
use Rattle.star_eval.specs.Finishes.{block_ending, globals_of}
use Rattle.star_eval.specs.Meets.{arena_of, in_store, state_of}
use Rattle.star_eval.proofs.FileRuns.{file_runs, globals_kept, same_calls, unbound_runs}
use Rattle.star_eval.proofs.Growing.{env_kept}
use Rattle.star_eval.proofs.file.run_file.Goals as goal

pub bind_loaded-requires-clause-loaded : goal.bind_loaded-requires-clause-loaded
bind_loaded-requires-clause-loaded g c =
    (globals_kept (arena_of c.args.session.now) (arena_of (record c.args.session.now { arena = c.open_scope.new.arena })) c.args.loaded.now c.in_ok-scope.ensures.grows c.requires).0

pub run_block-requires-clause-nodes : goal.run_block-requires-clause-nodes
run_block-requires-clause-nodes g c = c.new-nodes.ensures.owned (arena_of c.replace-own.result)

pub run_block-requires-clause-scope : goal.run_block-requires-clause-scope
run_block-requires-clause-scope g c =
    let before = c.args.session.now in
    let s : Session = record before { arena = c.open_scope.new.arena } in
    let bound = c.bind_loaded.new.session in
    let scope = c.in_ok-scope.scope in
    subst (λ (x : Session). OwnsEnv (arena_of x) scope) (sym c.replace-own.ensures.value) (env_kept (arena_of s) (arena_of bound) scope c.in_ok-bind_loaded.ensures.acts.grows c.in_ok-scope.ensures.opens.owned).0

pub returns-in_err-bind_loaded-clause-runs : goal.returns-in_err-bind_loaded-clause-runs
returns-in_err-bind_loaded-clause-runs generic c = λ globals.
    let before = c.args.session.now in
    let s : Session = record before { arena = c.open_scope.new.arena } in
    let after = c.bind_loaded.new.session in
    let opened = c.in_ok-scope.ensures.opens in
    let scope = c.in_ok-scope.scope in
    let g = c.args.globals.now in
    let loaded = c.args.loaded.now in
    let kept = globals_kept (arena_of before) (arena_of s) loaded c.in_ok-scope.ensures.grows c.requires in
    let e = c.in_err-bind_loaded.ensures.acts in
    let y = c.in_err-bind_loaded.field-0.0 in
    let table = table_of c.args.functions.now in
    let names = globals_of (arena_of before) loaded in
    let host = c.args.host.now in
    let answers = generic.H.Host.answers in
    let fails = subst (Meets as_is (Err y) (state_of after))
    ((λ i. bind_loaded (globals_of (arena_of s) loaded) (env_in (arena_of s).held (c.as_slice.ensures i)) (state_of s)) ∙ (λ i. bind_loaded (kept.1 i) (opened.env i) (in_store (opened.store i) before.work.steps)))
    e.meaning in
    let stopped : c.from_residual-in_err-bind_loaded.result ≡ Err y = search rules in
    subst (λ r. RunsAs answers table (Some (block_of c.args.program.now)) names before.work.depth r after before host host) (sym stopped)
    (unbound_runs answers table names before.work.depth before after host (block_of c.args.program.now) g y globals fails (grows_then (arena_of before) (arena_of s) (arena_of after) c.in_ok-scope.ensures.grows e.grows))

pub returns-clause-runs : goal.returns-clause-runs
returns-clause-runs generic c = λ globals.
    let before = c.args.session.now in
    let s : Session = record before { arena = c.open_scope.new.arena } in
    let bound = c.bind_loaded.new.session in
    let own : c.replace-own.result ≡ bound = c.replace-own.ensures.value in
    let opened = c.in_ok-scope.ensures.opens in
    let scope = c.in_ok-scope.scope in
    let g = c.args.globals.now in
    let made = length (arena_of before).store in
    let depth = before.work.depth in
    let os = block_of c.args.program.now in
    let fs = c.in_ok-shared.field-0 in
    let table = table_of c.args.functions.now in
    let answers = generic.H.Host.answers in
    let now = c.run_block.new.host in
    let then = c.args.host.now in
    let e = c.in_ok-finished.finished in
    let ended = c.in_ok-finished.ensures in
    let acts = c.in_ok-bind_loaded.ensures.acts in
    let kept = globals_kept (arena_of before) (arena_of s) c.args.loaded.now c.in_ok-scope.ensures.grows c.requires in
    let same_env : env_in (arena_of bound).held scope ≡ boxed made g [] = ap (λ h. env_in h scope) acts.held ∙ opened.env in
    let call = same_calls fs table depth c.in_ok-shared.ensures in
    let binds : bind_loaded (globals_of (arena_of before) c.args.loaded.now) (boxed made g []) (with_unset (length g) (state_of before)) ≡ done tt (state_of bound) =
    (λ i. bind_loaded (sym kept.1 i) (sym opened.env i) (in_store (sym opened.store i) before.work.steps))
    ∙ (λ i. bind_loaded (globals_of (arena_of s) c.args.loaded.now) (env_in (arena_of s).held (sym c.as_slice.ensures i)) (state_of s)) ∙ acts.meaning in
    let ran : hosted answers (block_ending e) now ≡ hosted answers (runs starlark (table_calls starlark asking table depth) os (boxed made g []) (bottom 0 ∷ []) (state_of bound)) then =
    ended.ended
    ∙ (λ i. hosted answers (runs starlark (calls_at fs depth) (ops_of c.args.program.now.file (c.as_slice-2.ensures i)) (env_in (arena_of (own i)).held scope) (nodes_of (arena_of (own i)) c.new-nodes.result) (state_of (own i))) then)
    ∙ (λ i. hosted answers (runs starlark (sym call i) os (same_env i) (c.new-nodes.ensures.meaning (arena_of bound) i) (state_of bound)) then) in
    let variables = ended.finishes.env ∙ (λ i. env_in (arena_of (own i)).held scope) ∙ same_env in
    let grows = grows_then (arena_of before) (arena_of bound) (arena_of e.session) (grows_then (arena_of before) (arena_of s) (arena_of bound) c.in_ok-scope.ensures.grows acts.grows) (subst (λ (x : Session). Grows (arena_of x) (arena_of e.session)) own ended.finishes.grows) in
    file_runs answers table (globals_of (arena_of before) c.args.loaded.now) depth c.mark-mark.result.at before bound c.left.new.session now then os g e globals c.mark-mark.ensures binds variables grows e.result c.left.result ran c.left.ensures.leaves
