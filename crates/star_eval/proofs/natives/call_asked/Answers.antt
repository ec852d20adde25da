use Rattle.std.proofs.Common.{◌≡◌, ◌∙◌, ap, ◌-◌, nat_le, rules, sym, true, false}
use Rattle.ytt_base.specs.declared.fault.FaultKind.TheVariants as kind
use Rattle.ytt_base.specs.Outcomes.{fault_at}
use Rattle.star_spec.specs.Calls.{asking as host_asking, resumed_with}
use Rattle.star_values.specs.View.{value_of, values_of}
use Rattle.value_spec.specs.Outcomes.{Computation, call_then, then_do}
use Rattle.value_spec.specs.Values.{Value, arguments, no_fields, values_from}
use Rattle.star_eval.specs.Calling.{after_replied, calls_from}
use Rattle.star_eval.specs.Frames.{after_answer, around_value}
use Rattle.star_eval.specs.Hosts.{host_held, host_name, native_at}
use Rattle.star_eval.specs.Meets.{Here, state_of}
use Rattle.star_eval.specs.View.{arena_in, setting_of, waiting_in}
use Rattle.star_eval.proofs.Calling.{refused}
use Rattle.star_eval.proofs.Going.{goes}
use Rattle.star_eval.proofs.Hosting.{call_asked, call_refused}
use Rattle.star_eval.proofs.Rows.{step_taken, step_wanting}
use Rattle.star_eval.proofs.natives.call_asked.Goals as goal

pub returns-then-asking-eq0 : goal.returns-then-asking-eq0
returns-then-asking-eq0 c =
    let m = c.args.m.now in
    let a = arena_in m in
    let k = c.args.asking in
    let x = native_at a k.native in
    let g = value_of a c.args.function in
    let vs = arguments (values_from (values_of a c.args.args)) no_fields in
    refused m (after_answer m k (call_then g vs c.args.tag)) (fault_at kind.Steps k.place) c.failed.result c.requires.sound c.failed.ensures
    (call_refused (setting_of m).function k.place (host_name x) (host_held x) k.left g vs c.args.tag (state_of m.session) c.if-asking-eq0.true)

pub returns-then-m-eq0 : goal.returns-then-m-eq0
returns-then-m-eq0 c =
    let m = c.args.m.now in
    let a = arena_in m in
    let k = c.args.asking in
    let x = native_at a k.native in
    let f = (setting_of m).function in
    let s = state_of m.session in
    let g = value_of a c.args.function in
    let vs = arguments (values_from (values_of a c.args.args)) no_fields in
    let none : nat_le 1 m.session.work.steps ≡ false = search (rules, c.if-m-eq0.true) in
    let next : Computation Here Value = λ s. then_do (resumed_with host_asking k.place (host_name x) (host_held x) c.args.tag (calls_from f (k.left - 1) k.place g vs s)) (after_replied f (k.left - 1) k.place (host_name x) (host_held x)) in
    refused m (after_answer m k (call_then g vs c.args.tag)) (fault_at kind.Steps k.place) c.failed-then-m-eq0.result c.requires.sound c.failed-then-m-eq0.ensures
    ((λ i. call_asked f k.place (host_name x) (host_held x) k.left g vs c.args.tag c.if-asking-eq0.false i s) ∙ step_wanting k.place next s none)

pub returns : goal.returns
returns c =
    let m = c.args.m.now in
    let a = arena_in m in
    let k = c.args.asking in
    let x = native_at a k.native in
    let f = (setting_of m).function in
    let s = state_of m.session in
    let g = value_of a c.args.function in
    let vs = arguments (values_from (values_of a c.args.args)) no_fields in
    let enough : nat_le 1 m.session.work.steps ≡ true = search (rules, c.if-m-eq0.false) in
    let next : Computation Here Value = λ s. then_do (resumed_with host_asking k.place (host_name x) (host_held x) c.args.tag (calls_from f (k.left - 1) k.place g vs s)) (after_replied f (k.left - 1) k.place (host_name x) (host_held x)) in
    goes _ c.call_for.result c.call_for.new.m
    (ap (around_value m (waiting_in m)) (sym ((λ i. call_asked f k.place (host_name x) (host_held x) k.left g vs c.args.tag c.if-asking-eq0.false i s) ∙ step_taken k.place next s enough)))
    c.call_for.ensures
