use Rattle.std.proofs.Common.{◌≡◌, ◌++◌, ◌∷◌, ap, sym, ◌∙◌}
use Rattle.code_spec.specs.Code.{an_expr}
use Rattle.star_tree.specs.Whole.{expr_of, exprs_of}
use Rattle.star_values.specs.View.{values_of}
use Rattle.value_spec.specs.Outcomes.{give, then_do}
use Rattle.star_eval.specs.Doing.{all_evaluated, evaluated}
use Rattle.star_eval.specs.Frames.{around_value}
use Rattle.star_eval.specs.Meets.{state_of}
use Rattle.star_eval.specs.View.{arena_in, gathering_of, setting_of, waiting_in}
use Rattle.star_eval.specs.Waiting.{gathered}
use Rattle.value_spec.proofs.Computations.{then_assoc}
use Rattle.star_eval.proofs.Going.{goes}
use Rattle.star_eval.proofs.eval.gather.Goals as goal

pub returns-in-Some : goal.returns-in-Some
returns-in-Some c =
    let m = c.args.m.now in
    let f = m.code.file in
    let s = state_of m.session in
    let before = values_of (arena_in m) c.args.values in
    let e = expr_of f c.in-Some.member.now in
    let es = exprs_of f c.in-Some.rest.now in
    let g = gathering_of c.args.gathering in
    let is : exprs_of f c.args.members.now ≡ an_expr e es = ap (exprs_of f) c.in-Some.ensures.cases.0 in
    goes _ c.push_value.result c.push_value.new.m
    (ap (around_value m (waiting_in m))
    (sym (ap (λ xs. then_do (all_evaluated (setting_of m) xs s) (λ ws. gathered g (before ++ ws))) is
    ∙ then_assoc (evaluated (setting_of m) e s) (λ v t. then_do (all_evaluated (setting_of m) es t) (λ vs. give (v ∷ vs))) (λ ws. gathered g (before ++ ws))
    ∙ (λ i. then_do (evaluated (setting_of m) e s) (λ v t. then_assoc (all_evaluated (setting_of m) es t) (λ vs. give (v ∷ vs)) (λ ws. gathered g (before ++ ws)) i)))))
    c.push_value.ensures
