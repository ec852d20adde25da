use Rattle.std.proofs.Common.{Err, ap, refl, subst, sym, ◌∙◌}
use Rattle.builtin_spec.specs.Dicts.{put_each}
use Rattle.star_calls.proofs.Kept.{pairs_kept}
use Rattle.star_steps.proofs.Names.{Each, OwnsPair, after_act, as_is, dict_put, give, grows_then, meets_stop, none_value, pairs_in, seen, state_in, then_do, value_of}
use Rattle.star_steps.specs.Meets.{stop_of}
use Rattle.star_builtins.proofs.Pairing.{refused_act, stopped_grown}
use Rattle.star_builtins.proofs.pairs.put_each.Goals as goal

pub returns-in-Err : goal.returns-in-Err
returns-in-Err c = λ n.
    let was = seen c.args.arena.now in
    let a = seen c.loop-pair.arena in
    let b = seen c.dict_put.new.self in
    let p = c.args.at in
    let r = c.args.dict.at in
    let q = c.in-Some.pair.now in
    let e = stop_of p c.in-Err.stop in
    let answer = dict_put r (value_of a q.0) (value_of a q.1) a.store in
    let refused = meets_stop as_is as_is e (state_in b n) (after_act p answer (state_in a n)) (λ u. put_each p r (pairs_in a.held c.in-Some.more.now)) (Err e) (refused_act p a b n answer c.in-Err.stop c.in-Err.ensures.meaning) refl in
    stopped_grown as_is e was b n _ (λ u. give none_value) (Err c.stop_at.result) _
    (ap (λ o. then_do o (λ u. give none_value)) (c.loop-pair.invariant.same n ∙ ap (λ ps. put_each p r (pairs_in a.held ps) (state_in a n)) c.in-Some.ensures.cases.0))
    refused (ap Err c.stop_at.ensures) (grows_then was a b c.loop-pair.invariant.grows c.dict_put.ensures.grows)

pub loop-pair-preserved : goal.loop-pair-preserved
loop-pair-preserved c =
    let was = seen c.args.arena.now in
    let a = seen c.loop-pair.arena in
    let b = seen c.dict_put.new.self in
    let p = c.args.at in
    let r = c.args.dict.at in
    let more = c.in-Some.more.now in
    let so_far = c.loop-pair.invariant in
    let done = c.in_default-dict_put.ensures in
    let owned = subst (Each (OwnsPair a)) c.in-Some.ensures.cases.0 so_far.rest in
    record {
      same = λ n.
          so_far.same n
          ∙ ap (λ ps. put_each p r (pairs_in a.held ps) (state_in a n)) c.in-Some.ensures.cases.0
          ∙ ap (λ x. then_do (after_act p x (state_in a n)) (λ u. put_each p r (pairs_in a.held more))) done.meaning
          ∙ ap (λ h. put_each p r (pairs_in h more) (state_in b n)) (sym done.held);
      rest = (pairs_kept a b more done.grows owned.1).0;
      grows = grows_then was a b so_far.grows done.grows;
    }
