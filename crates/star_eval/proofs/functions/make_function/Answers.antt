use Rattle.std.proofs.Common.{◌≡◌, None, Some, ap, sym, ◌∙◌}
use Rattle.star_tree.specs.Whole.{expr_of, parameters_of}
use Rattle.star_values.specs.View.{values_of}
use Rattle.star_eval.specs.Doing.{next_default}
use Rattle.star_eval.specs.Frames.{around_value}
use Rattle.star_eval.specs.Meets.{state_of}
use Rattle.star_eval.specs.View.{arena_in, default_of, making_of, setting_of, waiting_in}
use Rattle.star_eval.proofs.Going.{goes}
use Rattle.star_eval.proofs.Making.{none_defaulted, one_defaulted}
use Rattle.star_eval.proofs.functions.make_function.Goals as goal

pub returns-in-None : goal.returns-in-None
returns-in-None c =
    let m = c.args.m.now in
    let ps = parameters_of m.code.file c.args.params.now in
    let before = values_of (arena_in m) c.args.defaults in
    let none : next_default ps ≡ None = sym (c.next_default.ensures m.code.file) ∙ ap (default_of m.code.file) c.in-None.is in
    goes _ c.made.result c.made.new.m (ap (around_value m (waiting_in m)) (sym (λ i. none_defaulted (setting_of m) (making_of c.args.making) before ps none i (state_of m.session)))) c.made.ensures

pub returns-in-Some : goal.returns-in-Some
returns-in-Some c =
    let m = c.args.m.now in
    let f = m.code.file in
    let ps = parameters_of f c.args.params.now in
    let before = values_of (arena_in m) c.args.defaults in
    let e = expr_of f c.in-Some.expr.now in
    let rest = parameters_of f c.in-Some.rest.now in
    let some : next_default ps ≡ Some (e, rest) = sym (c.next_default.ensures f) ∙ ap (default_of f) c.in-Some.is in
    goes _ c.push_value.result c.push_value.new.m (ap (around_value m (waiting_in m)) (sym (λ i. one_defaulted (setting_of m) (making_of c.args.making) before ps e rest some i (state_of m.session)))) c.push_value.ensures
