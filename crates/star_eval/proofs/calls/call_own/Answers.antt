use Rattle.std.proofs.Common.{Err, Ok, ap, get_or, refl, subst, sym, ◌∙◌}
use Rattle.builtin_spec.specs.Calls.{asked_row}
use Rattle.star_spec.specs.Calls.{with_keys}
use Rattle.star_spec.specs.Eval.{starlark}
use Rattle.star_values.specs.View.{arguments_in, native_in, value_of}
use Rattle.star_values.specs.declared.value.Value.TheVariants as value
use Rattle.value_spec.specs.Values.{none_value}
use Rattle.star_eval.specs.Asking.{keys_in}
use Rattle.star_eval.specs.Calling.{calls_from}
use Rattle.star_eval.specs.Frames.{Goes, around_value}
use Rattle.star_eval.specs.Meets.{arena_of, state_of}
use Rattle.star_eval.specs.View.{arena_in, setting_of, waiting_in}
use Rattle.star_eval.specs.declared.frame.Control.TheVariants as control
use Rattle.star_eval.specs.declared.frame.Machine.{Machine}
use Rattle.star_eval.specs.declared.session.Session.{Session}
use Rattle.star_eval.proofs.Asking.{fault_given, keys_asked, value_given}
use Rattle.star_eval.proofs.Calling.{by_own}
use Rattle.star_eval.proofs.Going.{goes_after}
use Rattle.star_eval.proofs.calls.call_own.Goals as goal

pub returns-in-Ok-Value : goal.returns-in-Ok-Value
returns-in-Ok-Value c =
    let m = c.args.m.now in
    let a = arena_in m in
    let p = c.args.place in
    let x = native_in (get_or a.held c.args.native.at none_value) in
    let v = value_of a (value.Native c.args.native) in
    let vs = arguments_in a.held c.args.args in
    let s : Session = record m.session { arena = c.own_call.new.arena; work = c.own_call.new.work } in
    let f = (setting_of m).function in
    let calls = calls_from f c.args.left in
    value_given m s c.requires.sound (calls p v vs) (asked_row p v vs) (with_keys starlark calls p) (by_own f c.args.left p vs (state_of m.session) x c.requires.own) (λ w. refl)
    c.in-Ok-Value.value c.own_call.result (c.in-Ok-Value.is ∙ ap Ok c.in-Ok-Value.field-0-is) c.own_call.ensures.row

pub returns-in-Err-Fault : goal.returns-in-Err-Fault
returns-in-Err-Fault c =
    let m = c.args.m.now in
    let a = arena_in m in
    let p = c.args.place in
    let x = native_in (get_or a.held c.args.native.at none_value) in
    let v = value_of a (value.Native c.args.native) in
    let vs = arguments_in a.held c.args.args in
    let s : Session = record m.session { arena = c.own_call.new.arena; work = c.own_call.new.work } in
    let f = (setting_of m).function in
    let calls = calls_from f c.args.left in
    subst (λ d. Goes a (record m { session = s }) (control.Failed d) (around_value m (waiting_in m) (calls p v vs (state_of m.session)))) (sym c.in-Err-Fault.fault-is)
    (fault_given m s c.requires.sound (calls p v vs) (asked_row p v vs) (with_keys starlark calls p) (by_own f c.args.left p vs (state_of m.session) x c.requires.own) (λ w. refl)
    c.in-Err-Fault.fault c.own_call.result (c.in-Err-Fault.is ∙ ap Err c.in-Err-Fault.field-0-is) c.own_call.ensures.row)

pub next_key-requires-clause-sound : goal.next_key-requires-clause-sound
next_key-requires-clause-sound c =
    let m = c.args.m.now in
    let a = arena_in m in
    let p = c.args.place in
    let x = native_in (get_or a.held c.args.native.at none_value) in
    let v = value_of a (value.Native c.args.native) in
    let vs = arguments_in a.held c.args.args in
    let s : Session = record m.session { arena = c.own_call.new.arena; work = c.own_call.new.work } in
    let f = (setting_of m).function in
    let calls = calls_from f c.args.left in
    let it = keys_asked m s c.requires.sound (calls p v vs) (asked_row p v vs) (with_keys starlark calls p) (by_own f c.args.left p vs (state_of m.session) x c.requires.own) (λ w. refl)
    c.in-Ok-Keys.wanted c.in-Ok-Keys.function c.in-Ok-Keys.members c.own_call.result (c.in-Ok-Keys.is ∙ ap Ok c.in-Ok-Keys.field-0-is) c.own_call.ensures.row in
    it.kept.sound

pub next_key-requires-clause-function : goal.next_key-requires-clause-function
next_key-requires-clause-function c =
    let m = c.args.m.now in
    let a = arena_in m in
    let p = c.args.place in
    let x = native_in (get_or a.held c.args.native.at none_value) in
    let v = value_of a (value.Native c.args.native) in
    let vs = arguments_in a.held c.args.args in
    let s : Session = record m.session { arena = c.own_call.new.arena; work = c.own_call.new.work } in
    let f = (setting_of m).function in
    let calls = calls_from f c.args.left in
    let it = keys_asked m s c.requires.sound (calls p v vs) (asked_row p v vs) (with_keys starlark calls p) (by_own f c.args.left p vs (state_of m.session) x c.requires.own) (λ w. refl)
    c.in-Ok-Keys.wanted c.in-Ok-Keys.function c.in-Ok-Keys.members c.own_call.result (c.in-Ok-Keys.is ∙ ap Ok c.in-Ok-Keys.field-0-is) c.own_call.ensures.row in
    it.owns.0

pub next_key-requires-clause-members : goal.next_key-requires-clause-members
next_key-requires-clause-members c =
    let m = c.args.m.now in
    let a = arena_in m in
    let p = c.args.place in
    let x = native_in (get_or a.held c.args.native.at none_value) in
    let v = value_of a (value.Native c.args.native) in
    let vs = arguments_in a.held c.args.args in
    let s : Session = record m.session { arena = c.own_call.new.arena; work = c.own_call.new.work } in
    let f = (setting_of m).function in
    let calls = calls_from f c.args.left in
    let it = keys_asked m s c.requires.sound (calls p v vs) (asked_row p v vs) (with_keys starlark calls p) (by_own f c.args.left p vs (state_of m.session) x c.requires.own) (λ w. refl)
    c.in-Ok-Keys.wanted c.in-Ok-Keys.function c.in-Ok-Keys.members c.own_call.result (c.in-Ok-Keys.is ∙ ap Ok c.in-Ok-Keys.field-0-is) c.own_call.ensures.row in
    it.owns.1

pub returns-in-Ok-Keys : goal.returns-in-Ok-Keys
returns-in-Ok-Keys c =
    let m = c.args.m.now in
    let a = arena_in m in
    let p = c.args.place in
    let x = native_in (get_or a.held c.args.native.at none_value) in
    let v = value_of a (value.Native c.args.native) in
    let vs = arguments_in a.held c.args.args in
    let s : Session = record m.session { arena = c.own_call.new.arena; work = c.own_call.new.work } in
    let f = (setting_of m).function in
    let calls = calls_from f c.args.left in
    let it = keys_asked m s c.requires.sound (calls p v vs) (asked_row p v vs) (with_keys starlark calls p) (by_own f c.args.left p vs (state_of m.session) x c.requires.own) (λ w. refl)
    c.in-Ok-Keys.wanted c.in-Ok-Keys.function c.in-Ok-Keys.members c.own_call.result (c.in-Ok-Keys.is ∙ ap Ok c.in-Ok-Keys.field-0-is) c.own_call.ensures.row in
    let n : Machine = record m { session = s } in
    goes_after a (arena_of s) c.next_key.result c.next_key.new.m it.kept.grows
    (ap (λ ks. around_value n (waiting_in n) (keys_in n c.args.left p c.in-Ok-Keys.wanted c.in-Ok-Keys.function c.in-Ok-Keys.members ks (state_of s))) c.new-keys.ensures ∙ it.follows)
    c.next_key.ensures
