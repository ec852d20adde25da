use Rattle.std.proofs.Common.{[], ◌∷◌, sym, ap, ◌∙◌, ◌++◌}
use Rattle.std.proofs.lemmas.List.{map-append, append_assoc}
use Rattle.star_sorting.specs.View.{wanted_of}
use Rattle.star_tree.specs.Whole.{parameters_of, exprs_of}
use Rattle.star_values.specs.View.{value_in, value_of, values_of}
use Rattle.star_eval.specs.Doing.{keys_then, making, all_evaluated}
use Rattle.star_eval.specs.Frames.{around_value}
use Rattle.star_eval.specs.Meets.{state_of}
use Rattle.star_eval.specs.View.{arena_in, making_of, setting_of, value_frame, waiting_in, gathering_of}
use Rattle.star_eval.specs.Waiting.{value_goes, gathered}
use Rattle.star_eval.proofs.Going.{goes}
use Rattle.value_spec.specs.Outcomes.{then_do}
use Rattle.star_eval.proofs.give.give_value.Goals as goal

pub returns-in_ok-push-in-Default : goal.returns-in_ok-push-in-Default
returns-in_ok-push-in-Default c =
    let m = c.args.m.now in
    let a = arena_in m in
    let vs = c.in-Default.defaults in
    let behind = ap (values_of a) c.in_ok-push-in-Default.ensures.ok ∙ map-append (value_in a.held) vs (c.args.value ∷ []) in
    goes _ c.make_function.result c.make_function.new.m
    (ap (around_value m (waiting_in m))
    ((λ i. making (setting_of m) (making_of c.in-Default.making) (parameters_of m.code.file c.in-Default.rest.now) (behind i) (state_of m.session))
    ∙ sym (ap (λ f. value_goes (setting_of m) (value_frame a m.code.file f) (value_of a c.args.value) (state_of m.session)) c.in-Default.is)))
    c.make_function.ensures

pub returns-in_ok-push-in-Key : goal.returns-in_ok-push-in-Key
returns-in_ok-push-in-Key c =
    let m = c.args.m.now in
    let a = arena_in m in
    let behind = ap (values_of a) c.in_ok-push-in-Key.ensures.ok ∙ map-append (value_in a.held) c.in-Key.keys (c.args.value ∷ []) in
    goes _ c.next_key.result c.next_key.new.m
    (ap (around_value m (waiting_in m))
    ((λ i. keys_then (setting_of m) c.in-Key.left c.in-Key.place (wanted_of c.in-Key.wanted) (value_of a c.in-Key.function) (values_of a c.in-Key.members) (behind i) (state_of m.session))
    ∙ sym (ap (λ f. value_goes (setting_of m) (value_frame a m.code.file f) (value_of a c.args.value) (state_of m.session)) c.in-Key.is)))
    c.next_key.ensures

pub returns-in_ok-push-in-Member : goal.returns-in_ok-push-in-Member
returns-in_ok-push-in-Member c =
    let m = c.args.m.now in
    let a = arena_in m in
    let b = c.in-Member in
    let behind = ap (values_of a) c.in_ok-push-in-Member.ensures.ok ∙ map-append (value_in a.held) b.values (c.args.value ∷ []) in
    let all = all_evaluated (setting_of m) (exprs_of m.code.file b.rest.now) (state_of m.session) in
    let g = gathering_of b.gathering in
    goes _ c.gather.result c.gather.new.m
    (ap (around_value m (waiting_in m))
    ((λ i. then_do all (λ ws. gathered g (behind i ++ ws)))
    ∙ (λ i. then_do all (λ ws. gathered g (append_assoc (values_of a b.values) (value_of a c.args.value ∷ []) ws i)))
    ∙ sym (ap (λ f. value_goes (setting_of m) (value_frame a m.code.file f) (value_of a c.args.value) (state_of m.session)) b.is)))
    c.gather.ensures
