use Rattle.std.proofs.Common.{◌≡◌, ◌++◌, ◌∷◌, [], length, None, Some, ap, option_map, slice_get, sym, ◌∙◌}
use Rattle.builtin_spec.specs.Sorting.{wanted_row}
use Rattle.star_sorting.specs.View.{wanted_of}
use Rattle.star_steps.proofs.Meeting.{gives_same}
use Rattle.star_values.proofs.Growing.{each_at}
use Rattle.star_values.specs.Owns.{Owns}
use Rattle.star_values.specs.View.{value_in, value_of, values_of}
use Rattle.star_eval.specs.Asking.{called_with, keys_in}
use Rattle.star_eval.specs.Frames.{around_value}
use Rattle.star_eval.specs.Meets.{state_of}
use Rattle.star_eval.specs.View.{arena_in, setting_of, waiting_in}
use Rattle.star_eval.specs.declared.frame.Frame.TheVariants as frame
use Rattle.star_eval.specs.declared.frame.InValue.TheVariants as in_value
use Rattle.star_eval.proofs.Asking.{at_next, first_wanting, none_wanting, pushed}
use Rattle.star_eval.proofs.Going.{gives_on, goes}
use Rattle.star_eval.proofs.calls.next_key.Goals as goal

pub returns-in-None : goal.returns-in-None
returns-in-None c =
    let m = c.args.m.now in
    let a = arena_in m in
    let none : slice_get (values_of a c.args.members) (length (values_of a c.args.keys)) ≡ None = at_next a c.args.members c.args.keys c.len.result c.len.ensures ∙ ap (option_map (value_in a.held)) (sym c.in-None.ensures.value) in
    gives_on m (record m.session { arena = c.choose.new.arena; work = record m.session.work { steps = c.choose.new.steps } }) c.requires.sound (keys_in m c.args.left c.args.place c.args.wanted c.args.function c.args.members c.args.keys) c.choose.result c.settle.result
    (gives_same _ _ _ _ _ _ (none_wanting (setting_of m) c.args.left c.args.place (wanted_of c.args.wanted) (value_of a c.args.function) (values_of a c.args.members) (values_of a c.args.keys) (state_of m.session) none
    ∙ (λ i. wanted_row c.args.place (wanted_of c.args.wanted) (values_of a (sym c.as_slice.ensures i)) (values_of a (sym c.as_slice-in-None.ensures i)) (state_of m.session))) c.choose.ensures) c.settle.ensures

pub call_for_key-requires-clause-member : goal.call_for_key-requires-clause-member
call_for_key-requires-clause-member c =
    let a = arena_in c.args.m.now in
    each_at (Owns a) c.args.members c.len.result c.in-Some.member.now c.requires.members (sym c.in-Some.ensures.value)

pub returns : goal.returns
returns c =
    let m = c.args.m.now in
    let a = arena_in m in
    let v = value_of a c.in-Some.member.now in
    let p = c.args.place in
    let some : slice_get (values_of a c.args.members) (length (values_of a c.args.keys)) ≡ Some v = at_next a c.args.members c.args.keys c.len.result c.len.ensures ∙ ap (option_map (value_in a.held)) (sym c.in-Some.ensures.value) in
    goes _ c.call_for_key.result c.call_for_key.new.m
    (pushed m c.push.new.self (in_value.Key c.args.left p c.args.wanted c.args.function c.args.members c.args.keys) (c.in_ok-push-in-Some.ensures.ok ∙ ap (λ x. m.frames ++ frame.Value x ∷ []) c.in_ok-boxed-in-Some.ensures) (called_with m c.args.left p c.args.function c.in-Some.member.now (state_of m.session))
    ∙ ap (around_value m (waiting_in m)) (sym (first_wanting (setting_of m) c.args.left p (wanted_of c.args.wanted) (value_of a c.args.function) (values_of a c.args.members) (values_of a c.args.keys) v (state_of m.session) some)))
    c.call_for_key.ensures
