use Rattle.std.proofs.Common.{ap, drop, map as each, subst, ◌+◌}
use Rattle.std.proofs.lemmas.List.{drop_all}
use Rattle.star_values.specs.Objects.{seen}
use Rattle.load_names.proofs.Making.{Made, all_made, calls_next, one_made}
use Rattle.load_names.proofs.module_values.make_calls.Goals as goal

pub loop-call-preserved : goal.loop-call-preserved
loop-call-preserved c =
    let calls = c.args.calls.now in
    let i = c.loop-call.call-index in
    let all = each (λ c. c.now) calls in
    let a = seen c.args.arena.now in
    let b = seen c.loop-call.arena in
    let made = c.loop-call.made in
    one_made c.args.of.now all (each (λ c. c.now) (drop (i + 1) calls)) _ made c.push.new.self c.in_ok-named.named a b (seen c.make_call.new.arena)
    (subst (λ left. Made c.args.of.now all left made a b) (calls_next calls i _ c.loop-call-test.true) c.loop-call.invariant) c.in_ok-named.ensures c.in_ok-push.ensures.ok

pub returns : goal.returns
returns c =
    let calls = c.args.calls.now in
    let m = c.loop-call.invariant in
    let none = ap (λ l. each (λ c. c.now) l) (drop_all c.loop-call.call-index calls c.loop-call-test.false) in
    record {
      fields = all_made c.args.of.now (each (λ c. c.now) calls) (each (λ c. c.now) (drop c.loop-call.call-index calls)) c.loop-call.made (seen c.args.arena.now) (seen c.loop-call.arena) none m;
      owns = m.owns;
      store = m.store;
      grows = m.grows;
    }
