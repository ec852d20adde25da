use Rattle.std.proofs.Common.{◌≡◌, ◌-◌, None, Some, IfOk, Err, ap, option_map, subst, sym, ◌∙◌}
use Rattle.ytt_base.specs.declared.fault.FaultKind.TheVariants as kind
use Rattle.ytt_base.specs.Outcomes.{fault_at, fault_of}
use Rattle.code_spec.specs.Scopes.{ops_names}
use Rattle.object_arena.specs.Names.{function_in}
use Rattle.star_functions.specs.Table.{code_with}
use Rattle.star_functions.specs.View.{code_of}
use Rattle.star_spec.specs.Binding.{scope_of_call}
use Rattle.star_spec.specs.Calls.{enter_code, names_of, parameters_of}
use Rattle.star_spec.specs.Eval.{starlark}
use Rattle.star_steps.specs.Meets.{Meets, state_in}
use Rattle.star_values.specs.Objects.{env_in}
use Rattle.star_values.specs.Owns.{OwnsEnv}
use Rattle.star_values.specs.View.{arguments_in}
use Rattle.template_meaning.specs.Calls.{enter_ops}
use Rattle.value_spec.specs.Outcomes.{bad, then_do}
use Rattle.value_spec.specs.Values.{function_value}
use Rattle.star_eval.specs.Calling.{calls_at, functions_at}
use Rattle.star_eval.specs.Frames.{around_value}
use Rattle.star_eval.specs.Meets.{arena_of, state_of}
use Rattle.star_eval.specs.View.{arena_in, waiting_in}
use Rattle.star_eval.specs.declared.frame.Machine.{Machine}
use Rattle.star_eval.specs.declared.session.Session.{Session}
use Rattle.star_eval.proofs.Calling.{depth_wanting, found, not_found, refused, scope_given}
use Rattle.star_eval.proofs.Going.{goes_after, value_after}
use Rattle.star_eval.proofs.Growing.{kept}
use Rattle.star_eval.proofs.calls.call_function.Goals as goal

pub returns-then-m-eq0 : goal.returns-then-m-eq0
returns-then-m-eq0 c =
    let m = c.args.m.now in
    let a = arena_in m in
    let fs = m.code.functions in
    let p = c.args.place in
    let vs = arguments_in a.held c.args.args in
    let g = function_in a.held c.function-known.result.now in
    refused m (functions_at fs m.depth p (function_value c.args.function.at) vs) (fault_at kind.Depth p) c.failed.result c.requires.sound c.failed.ensures
    (depth_wanting fs p vs (state_of m.session) m.depth c.args.function.at g c.if-m-eq0.true c.function-known.ensures.here)

pub returns-in-None : goal.returns-in-None
returns-in-None c =
    let m = c.args.m.now in
    let a = arena_in m in
    let fs = m.code.functions in
    let p = c.args.place in
    let vs = arguments_in a.held c.args.args in
    let g = function_in a.held c.function-known.result.now in
    let none : code_with g.file g.number fs ≡ None = sym c.find.ensures ∙ ap (option_map (λ f. f.now.code)) c.in-None.is in
    refused m (functions_at fs m.depth p (function_value c.args.function.at) vs) (fault_of kind.CodeForm) c.ill_formed.result c.requires.sound c.ill_formed.ensures
    (not_found fs p vs (state_of m.session) m.depth c.args.function.at g c.if-m-eq0.false c.function-known.ensures.here none)

pub enter-requires-clause-sound : goal.enter-requires-clause-sound
enter-requires-clause-sound c =
    let m = c.args.m.now in
    let a = arena_in m in
    let s : Session = record m.session { arena = c.call_scope.new.arena } in
    let it = c.in-Some.found.now in
    let g = function_in a.held c.function-known.result.now in
    let gives = scope_given g.file m.session.work.steps c.args.function.at g it.code c.params_of-params.result.now it.fresh c.args.place (arguments_in a.held c.args.args) a (arena_of s) c.call_scope.result c.call_scope.ensures it.besides c.params_of-params.ensures c.function-known.ensures.here in
    (kept m s gives.grows c.requires.sound).sound

pub enter-requires-clause-scope : goal.enter-requires-clause-scope
enter-requires-clause-scope c =
    let m = c.args.m.now in
    let a = arena_in m in
    let s : Session = record m.session { arena = c.call_scope.new.arena } in
    let it = c.in-Some.found.now in
    let g = function_in a.held c.function-known.result.now in
    let gives = scope_given g.file m.session.work.steps c.args.function.at g it.code c.params_of-params.result.now it.fresh c.args.place (arguments_in a.held c.args.args) a (arena_of s) c.call_scope.result c.call_scope.ensures it.besides c.params_of-params.ensures c.function-known.ensures.here in
    subst ((λ r. IfOk r (OwnsEnv (arena_of s)))) c.in-Ok.is gives.owns

pub returns-in-Ok : goal.returns-in-Ok
returns-in-Ok c =
    let m = c.args.m.now in
    let a = arena_in m in
    let fs = m.code.functions in
    let p = c.args.place in
    let vs = arguments_in a.held c.args.args in
    let before = state_of m.session in
    let s : Session = record m.session { arena = c.call_scope.new.arena } in
    let it = c.in-Some.found.now in
    let g = function_in a.held c.function-known.result.now in
    let gives = scope_given g.file m.session.work.steps c.args.function.at g it.code c.params_of-params.result.now it.fresh p vs a (arena_of s) c.call_scope.result c.call_scope.ensures it.besides c.params_of-params.ensures c.function-known.ensures.here in
    let k = kept m s gives.grows c.requires.sound in
    let some : code_with g.file g.number fs ≡ Some it.code = sym c.find.ensures ∙ ap (option_map (λ f. f.now.code)) c.in-Some.is in
    let ends = scope_of_call p (parameters_of (code_of g.file it.code)) (names_of ops_names (code_of g.file it.code)) g.defaults vs g.env before in
    let opened = subst (λ r. Meets (env_in (arena_of s).held) r (state_in (arena_of s) m.session.work.steps) ends) c.in-Ok.is gives.meaning in
    goes_after a (arena_of s) c.enter.result c.enter.new.m k.grows
    (value_after m (record m { session = s }) k _ _ (found fs p vs before m.depth c.args.function.at g it.code c.if-m-eq0.false c.function-known.ensures.here some
    ∙ ap (λ o. then_do o (λ env. enter_code starlark (enter_ops starlark) (calls_at fs (m.depth - 1)) (code_of g.file it.code) env)) opened))
    c.enter.ensures

pub returns-in-Err-Fault : goal.returns-in-Err-Fault
returns-in-Err-Fault c =
    let m = c.args.m.now in
    let a = arena_in m in
    let fs = m.code.functions in
    let p = c.args.place in
    let vs = arguments_in a.held c.args.args in
    let before = state_of m.session in
    let s : Session = record m.session { arena = c.call_scope.new.arena } in
    let it = c.in-Some.found.now in
    let g = function_in a.held c.function-known.result.now in
    let gives = scope_given g.file m.session.work.steps c.args.function.at g it.code c.params_of-params.result.now it.fresh p vs a (arena_of s) c.call_scope.result c.call_scope.ensures it.besides c.params_of-params.ensures c.function-known.ensures.here in
    let k = kept m s gives.grows c.requires.sound in
    let n : Machine = record m { session = s } in
    let some : code_with g.file g.number fs ≡ Some it.code = sym c.find.ensures ∙ ap (option_map (λ f. f.now.code)) c.in-Some.is in
    let ends = scope_of_call p (parameters_of (code_of g.file it.code)) (names_of ops_names (code_of g.file it.code)) g.defaults vs g.env before in
    let refused = subst (λ r. Meets (env_in (arena_of s).held) r (state_in (arena_of s) m.session.work.steps) ends) (c.in-Err-Fault.is ∙ ap Err c.in-Err-Fault.field-0-is) gives.meaning in
    record {
      same = (λ i. around_value n (waiting_in n) (bad (c.in-Err-Fault.fault-is i) (state_of s))) ∙ value_after m n k _ _ (found fs p vs before m.depth c.args.function.at g it.code c.if-m-eq0.false c.function-known.ensures.here some
          ∙ ap (λ o. then_do o (λ env. enter_code starlark (enter_ops starlark) (calls_at fs (m.depth - 1)) (code_of g.file it.code) env)) refused);
      sound = k.sound;
      owned = tt;
      grows = k.grows;
    }
