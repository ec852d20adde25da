use Rattle.std.proofs.Common.{Err, Ok, ap, get_or, refl, subst, ◌∙◌}
use Rattle.builtin_spec.specs.Calls.{asked_row}
use Rattle.star_builtins.specs.Asked.{GivesAsked}
use Rattle.star_sorting.specs.View.{wanted_of}
use Rattle.star_spec.specs.Calls.{with_keys}
use Rattle.star_spec.specs.Eval.{starlark}
use Rattle.star_values.specs.View.{arguments_in, native_in, value_of, values_of}
use Rattle.star_values.specs.declared.value.Value.TheVariants as value
use Rattle.value_spec.specs.Values.{none_value, one_value}
use Rattle.star_eval.specs.Calling.{calls_from}
use Rattle.star_eval.specs.Meets.{arena_of, state_of}
use Rattle.star_eval.specs.View.{arena_in, setting_of}
use Rattle.star_eval.specs.declared.session.Session.{Session}
use Rattle.star_eval.proofs.Asking.{fault_given, keys_asked, value_given}
use Rattle.star_eval.proofs.Calling.{by_own, none_asked}
use Rattle.star_eval.proofs.calls.own_for_key.Goals as goal

pub unreachable-requires : goal.unreachable-requires
unreachable-requires c =
    let m = c.args.m.now in
    let a = arena_in m in
    let p = c.args.place in
    let x = native_in (get_or a.held c.args.native.at none_value) in
    let v = value_of a (value.Native c.args.native) in
    let vs = one_value (value_of a c.args.member) in
    let s : Session = record m.session { arena = c.own_call.new.arena; work = c.own_call.new.work } in
    let f = (setting_of m).function in
    let calls = calls_from f c.args.left in
    let row = subst (λ args. GivesAsked (asked_row p v (arguments_in a.held args)) c.own_call.result a (arena_of s) m.session.work.steps s.work.steps) c.requires.args c.own_call.ensures.row in
    none_asked p x (value_of a c.args.member) (state_of m.session) (state_of s) (wanted_of c.in-Ok-Keys._wanted) (value_of (arena_of s) c.in-Ok-Keys._function) (values_of (arena_of s) c.in-Ok-Keys._members)
    (keys_asked m s c.requires.sound (calls p v vs) (asked_row p v vs) (with_keys starlark calls p) (by_own f c.args.left p vs (state_of m.session) x c.requires.own) (λ w. refl)
    c.in-Ok-Keys._wanted c.in-Ok-Keys._function c.in-Ok-Keys._members c.own_call.result (c.in-Ok-Keys.is ∙ ap Ok c.in-Ok-Keys.field-0-is) row).meaning

pub returns-in-Ok-Value : goal.returns-in-Ok-Value
returns-in-Ok-Value c =
    let m = c.args.m.now in
    let a = arena_in m in
    let p = c.args.place in
    let x = native_in (get_or a.held c.args.native.at none_value) in
    let v = value_of a (value.Native c.args.native) in
    let vs = one_value (value_of a c.args.member) in
    let s : Session = record m.session { arena = c.own_call.new.arena; work = c.own_call.new.work } in
    let f = (setting_of m).function in
    let calls = calls_from f c.args.left in
    let row = subst (λ args. GivesAsked (asked_row p v (arguments_in a.held args)) c.own_call.result a (arena_of s) m.session.work.steps s.work.steps) c.requires.args c.own_call.ensures.row in
    value_given m s c.requires.sound (calls p v vs) (asked_row p v vs) (with_keys starlark calls p) (by_own f c.args.left p vs (state_of m.session) x c.requires.own) (λ w. refl)
    c.in-Ok-Value.value c.own_call.result (c.in-Ok-Value.is ∙ ap Ok c.in-Ok-Value.field-0-is) row

pub returns-in-Err-Fault : goal.returns-in-Err-Fault
returns-in-Err-Fault c =
    let m = c.args.m.now in
    let a = arena_in m in
    let p = c.args.place in
    let x = native_in (get_or a.held c.args.native.at none_value) in
    let v = value_of a (value.Native c.args.native) in
    let vs = one_value (value_of a c.args.member) in
    let s : Session = record m.session { arena = c.own_call.new.arena; work = c.own_call.new.work } in
    let f = (setting_of m).function in
    let calls = calls_from f c.args.left in
    let row = subst (λ args. GivesAsked (asked_row p v (arguments_in a.held args)) c.own_call.result a (arena_of s) m.session.work.steps s.work.steps) c.requires.args c.own_call.ensures.row in
    fault_given m s c.requires.sound (calls p v vs) (asked_row p v vs) (with_keys starlark calls p) (by_own f c.args.left p vs (state_of m.session) x c.requires.own) (λ w. refl)
    c.in-Err-Fault.fault c.own_call.result (c.in-Err-Fault.is ∙ ap Err c.in-Err-Fault.field-0-is) row
