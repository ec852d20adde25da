use Rattle.std.proofs.Common.{◌≡◌, Err, rules, subst, sym, ◌∙◌}
use Rattle.star_values.proofs.Growing.{grows_then}
use Rattle.star_values.specs.Objects.{env_in}
use Rattle.star_values.specs.Owns.{OwnsFields}
use Rattle.template_meaning.specs.Files.{bind_loaded}
use Rattle.star_eval.specs.Finishes.{globals_of}
use Rattle.star_eval.specs.Meets.{Acts, arena_of, state_of}
use Rattle.star_eval.proofs.FileRuns.{bound_stops, bound_turn, globals_kept}
use Rattle.star_eval.proofs.Growing.{env_kept}
use Rattle.star_eval.proofs.file.bind_loaded.Goals as goal

pub loop-first-preserved : goal.loop-first-preserved
loop-first-preserved c =
    let inv = c.loop-first.invariant in
    let e = c.in_ok-bind_name.ensures in
    let a = arena_of c.loop-first.session in
    let b = arena_of c.bind_name.new.session in
    let s = state_of c.loop-first.session in
    let bs = c.args.scope.now in
    let x = c.in-Some.first.now in
    let xs = c.in-Some.more.now in
    let split = c.in-Some.ensures.cases.0 in
    let own = subst (OwnsFields a) split inv.rest in
    record {
      same = inv.same ∙ (λ i. bind_loaded (globals_of a (split i)) (env_in a.held bs) s) ∙ bound_turn a x xs bs s (state_of c.bind_name.new.session) b e.acts.held e.acts.meaning;
      held = e.acts.held ∙ inv.held;
      scope = (env_kept a b bs e.acts.grows inv.scope).0;
      rest = (globals_kept a b xs e.acts.grows own.1).0;
      grows = grows_then (arena_of c.args.session.now) a b inv.grows e.acts.grows;
      work = e.work ∙ inv.work;
    }

pub returns-in_err-bind_name-clause-acts : goal.returns-in_err-bind_name-clause-acts
returns-in_err-bind_name-clause-acts c =
    let inv = c.loop-first.invariant in
    let e = c.in_err-bind_name.ensures.acts in
    let a = arena_of c.loop-first.session in
    let b = arena_of c.bind_name.new.session in
    let s = state_of c.loop-first.session in
    let bs = c.args.scope.now in
    let before = c.args.session.now in
    let split = c.in-Some.ensures.cases.0 in
    let start = bind_loaded (globals_of (arena_of before) c.args.loaded.now) (env_in (arena_of before).held bs) in
    let stopped : c.from_residual.result ≡ Err c.in_err-bind_name.field-0.0 = search rules in
    subst (λ r. Acts start r c.bind_name.new.session before) (sym stopped) (record {
      meaning = bound_stops a c.in-Some.first.now c.in-Some.more.now bs s (state_of c.bind_name.new.session) (start (state_of before)) c.in_err-bind_name.field-0.0 (inv.same ∙ (λ i. bind_loaded (globals_of a (split i)) (env_in a.held bs) s)) e.meaning;
      held = e.held ∙ inv.held;
      grows = grows_then (arena_of before) a b inv.grows e.grows;
    })
