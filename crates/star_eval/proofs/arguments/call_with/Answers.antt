use Rattle.std.proofs.Common.{ap, sym, ◌∙◌}
use Rattle.std.proofs.lemmas.List.{nil_from_length}
use Rattle.star_tree.specs.Whole.{expr_of, exprs_of}
use Rattle.star_values.specs.View.{arguments_in, value_of}
use Rattle.value_spec.specs.Outcomes.{then_do}
use Rattle.star_eval.specs.Doing.{all_calls, argument_then, arguments_then, evaluated}
use Rattle.star_eval.specs.Frames.{around_value}
use Rattle.star_eval.specs.Meets.{state_of}
use Rattle.star_eval.specs.View.{arena_in, setting_of, waiting_in}
use Rattle.star_eval.proofs.Arguing.{argument_first, none_behind}
use Rattle.star_eval.proofs.Going.{goes}
use Rattle.star_eval.proofs.arguments.call_with.Goals as goal

pub returns-in-None : goal.returns-in-None
returns-in-None c =
    let m = c.args.m.now in
    let before = arguments_in (arena_in m).held c.args.given in
    let then = all_calls (setting_of m) c.args.place (value_of (arena_in m) c.args.function) in
    let none = nil_from_length c.args.exprs.now c.in-None.ensures.cases in
    goes _ c.call.result c.call.new.m
    (ap (around_value m (waiting_in m)) (sym (ap (λ es. arguments_then (setting_of m) (exprs_of m.code.file es) before then (state_of m.session)) none ∙ (λ i. none_behind (setting_of m) before then i (state_of m.session)))))
    c.call.ensures

pub returns-in-Some : goal.returns-in-Some
returns-in-Some c =
    let m = c.args.m.now in
    let f = m.code.file in
    let s = state_of m.session in
    let before = arguments_in (arena_in m).held c.args.given in
    let then = all_calls (setting_of m) c.args.place (value_of (arena_in m) c.args.function) in
    let e = expr_of f c.in-Some.first.now in
    let es = exprs_of f c.in-Some.rest.now in
    let some = c.in-Some.ensures.cases.0 in
    goes _ c.push_value.result c.push_value.new.m
    (ap (around_value m (waiting_in m))
    ((λ i. then_do (evaluated (setting_of m) (c.argument.ensures.value i) s) (argument_then (setting_of m) (c.argument.ensures.form i) es before then))
    ∙ sym (ap (λ xs. arguments_then (setting_of m) (exprs_of f xs) before then s) some ∙ (λ i. argument_first (setting_of m) before then e es i s))))
    c.push_value.ensures
