use Rattle.std.proofs.Common.{subst, sym, ◌∙◌}
use Rattle.star_spec.specs.Calls.{asking as host_asking, resumed_with}
use Rattle.star_values.specs.Owns.{Owns, OwnsAll, OwnsFields}
use Rattle.star_values.specs.declared.value.CallArgs.{CallArgs}
use Rattle.star_values.specs.View.{arguments_in, fields_in, value_of, values_of}
use Rattle.value_spec.specs.Outcomes.{then_do}
use Rattle.value_spec.specs.Values.{arguments, values_from}
use Rattle.star_eval.specs.Calling.{calls_from}
use Rattle.star_eval.specs.Frames.{after_answer, around_value}
use Rattle.star_eval.specs.Hosts.{host_held, host_name, native_at}
use Rattle.star_eval.specs.Meets.{state_of}
use Rattle.star_eval.specs.View.{arena_in, setting_of, waiting_in}
use Rattle.star_eval.specs.declared.frame.Machine.{Machine}
use Rattle.star_eval.proofs.Going.{goes_after}
use Rattle.star_eval.proofs.Hosting.{waits_grows, waits_sound, waits_value}
use Rattle.star_eval.proofs.natives.call_for.Goals as goal

pub call_within-requires-clause-sound : goal.call_within-requires-clause-sound
call_within-requires-clause-sound c = waits_sound c.args.m.now c.wait_for.new.m c.args.asking c.args.tag c.in_ok-wait_for.ensures c.requires.sound c.requires.native

pub call_within-requires-clause-function : goal.call_within-requires-clause-function
call_within-requires-clause-function c = subst (λ (x : Machine). Owns (arena_in x) c.args.function) (sym c.in_ok-wait_for.ensures.is) c.requires.function

pub call_within-requires-clause-args : goal.call_within-requires-clause-args
call_within-requires-clause-args c = (
  subst (λ (x : Machine). OwnsAll (arena_in x) c.args.args) (sym c.in_ok-wait_for.ensures.is) c.requires.args,
  subst (OwnsFields (arena_in c.wait_for.new.m)) (sym c.new-named.ensures) tt,
)

pub returns : goal.returns
returns c =
    let m = c.args.m.now in
    let n = c.wait_for.new.m in
    let k = c.args.asking in
    let o = c.in_ok-wait_for.ensures in
    let a = arena_in m in
    let x = native_at a k.native in
    let given : CallArgs = record { positional = c.args.args; named = c.new-named.result } in
    goes_after a (arena_in n) c.call_within.result c.call_within.new.m (waits_grows m n k c.args.tag o c.requires.sound c.requires.native)
    (waits_value m n k c.args.tag o c.requires.sound c.requires.native
    (λ (x : Machine). calls_from (setting_of x).function k.left k.place (value_of (arena_in x) c.args.function) (arguments_in (arena_in x).held given) (state_of x.session))
    ∙ (λ i. around_value m (waiting_in m) (then_do (resumed_with host_asking k.place (host_name x) (host_held x) c.args.tag
    (calls_from (setting_of m).function k.left k.place (value_of a c.args.function) (arguments (values_from (values_of a c.args.args)) (fields_in a.held (c.new-named.ensures i))) (state_of m.session))) (after_answer m k))))
    c.call_within.ensures
