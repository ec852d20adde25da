use Rattle.std.proofs.Common.{◌≡◌, ℕ, refl, subst, ◌∙◌}
use Rattle.star_spec.specs.Hosts.{hosted}
use Rattle.star_values.specs.Owns.{Grows}
use Rattle.star_eval.specs.declared.session.Session.{Session}
use Rattle.star_eval.specs.Finishes.{called}
use Rattle.star_eval.specs.Meets.{arena_of}
use Rattle.star_eval.proofs.FileRuns.{call_fails, call_gives}
use Rattle.star_eval.proofs.outside.call_function.Goals as goal

pub returns-in-Ok-clause-calls : goal.returns-in-Ok-clause-calls
returns-in-Ok-clause-calls g c =
    let before = c.args.session.now in
    let fs = c.args.functions.now in
    let table = c.in_ok-functions.functions in
    let e = c.in_ok-called.called in
    let own = c.replace-own.ensures.value in
    let answers = g.H.Host.answers in
    call_gives answers before _ e c.run_call.new.host c.args.host.now c.args.function c.args.args c.args.at fs table c.in_ok-functions.ensures refl refl
    (c.in_ok-called.ensures.ended ∙ (λ i. hosted answers (called table before.work.depth c.args.at c.args.function c.args.args (own i)) c.args.host.now))
    c.in_ok-called.ensures.owned (subst (λ (x : Session). Grows (arena_of x) (arena_of e.session)) own c.in_ok-called.ensures.grows) c.in-Ok.value c.in-Ok.is

pub returns-in-Err-clause-calls : goal.returns-in-Err-clause-calls
returns-in-Err-clause-calls g c =
    let before = c.args.session.now in
    let fs = c.args.functions.now in
    let table = c.in_ok-functions.functions in
    let e = c.in_ok-called.called in
    let own = c.replace-own.ensures.value in
    let answers = g.H.Host.answers in
    call_fails answers before _ e c.run_call.new.host c.args.host.now c.args.function c.args.args c.args.at fs table c.in_ok-functions.ensures refl refl
    (c.in_ok-called.ensures.ended ∙ (λ i. hosted answers (called table before.work.depth c.args.at c.args.function c.args.args (own i)) c.args.host.now))
    c.in_ok-called.ensures.owned (subst (λ (x : Session). Grows (arena_of x) (arena_of e.session)) own c.in_ok-called.ensures.grows) c.in-Err.fault c.in-Err.is
