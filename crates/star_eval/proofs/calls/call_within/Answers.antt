use Rattle.std.proofs.Common.{◌≡◌, ◌∙◌, ap, false, rules, sym}
use Rattle.ytt_base.specs.declared.fault.FaultKind.TheVariants as kind
use Rattle.ytt_base.specs.Outcomes.{fault_at}
use Rattle.star_values.specs.View.{arguments_in, value_of}
use Rattle.star_eval.specs.Calling.{calls_from}
use Rattle.star_eval.specs.Frames.{around_value}
use Rattle.star_eval.specs.Meets.{state_of}
use Rattle.star_eval.specs.View.{arena_in, setting_of, waiting_in}
use Rattle.star_eval.proofs.Calling.{by_function, by_nothing, is_called, refused}
use Rattle.star_eval.proofs.Going.{goes}
use Rattle.star_eval.proofs.calls.call_within.Goals as goal

pub returns-in-None : goal.returns-in-None
returns-in-None c =
    let m = c.args.m.now in
    let a = arena_in m in
    let v = value_of a c.args.function in
    let vs = arguments_in a.held c.args.args in
    let other : is_called v ≡ false = search (rules, c.in-None.is) in
    refused m (calls_from (setting_of m).function c.args.left c.args.place v vs) (fault_at kind.ValueKind c.args.place) c.failed.result c.requires.sound c.failed.ensures
    (by_nothing (setting_of m).function c.args.left c.args.place vs (state_of m.session) v other)

pub returns-in-Func : goal.returns-in-Func
returns-in-Func c =
    let m = c.args.m.now in
    let a = arena_in m in
    let f = (setting_of m).function in
    let p = c.args.place in
    let vs = arguments_in a.held c.args.args in
    let s = state_of m.session in
    goes _ c.call_function.result c.call_function.new.m
    (ap (around_value m (waiting_in m)) (sym (ap (λ g. calls_from f c.args.left p (value_of a g) vs s) c.in-Func.is ∙ by_function f c.args.left p vs s c.in-Func.function.at)))
    c.call_function.ensures
