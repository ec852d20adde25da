use Rattle.std.proofs.Common.{rules, ◌≡◌, Some, true, nat_le, sym, ap, ◌∙◌}
use Rattle.star_tree.specs.Whole.{expr_of}
use Rattle.value_spec.specs.Outcomes.{take_if, then_do}
use Rattle.star_eval.specs.Doing.{acted, place_in}
use Rattle.star_eval.specs.Frames.{around_value}
use Rattle.star_eval.specs.Meets.{state_of}
use Rattle.star_eval.specs.View.{setting_of, waiting_in}
use Rattle.star_eval.proofs.Going.{goes}
use Rattle.star_eval.proofs.Says.{acts_as}
use Rattle.star_eval.proofs.eval.eval.Goals as goal

pub returns-else-m-eq0 : goal.returns-else-m-eq0
returns-else-m-eq0 c =
    let m = c.args.m.now in
    let s = state_of m.session in
    let here = setting_of m in
    let p = c.in-Some.place in
    let e = expr_of m.code.file c.args.expr.now in
    let place : place_in e ≡ Some p = sym c.place_of.ensures ∙ c.in-Some.is in
    let enough : nat_le 1 m.session.work.steps ≡ true = search (rules, c.if-m-eq0.false) in
    goes _ c.act.result c.act.new.m
    (ap (around_value m (waiting_in m)) (sym (ap (λ b. then_do (take_if b 1 p s) (λ u. acted here p e)) enough) ∙ (λ i. acts_as here e p place i s)))
    c.act.ensures
