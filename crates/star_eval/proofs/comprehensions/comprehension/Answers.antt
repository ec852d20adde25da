use Rattle.std.proofs.lemmas.Grind.{common_steps}
use Rattle.std.proofs.Common.{arith, ◌≡◌, ◌∷◌, ap, map as each, sym, ◌∙◌}
use Rattle.code_spec.specs.Code as plain
use Rattle.star_tree.proofs.Forms.{clause_of-ForIn}
use Rattle.star_tree.specs.Listed.{clause_of, clauses_of}
use Rattle.star_tree.specs.Whole.{clauses_from, expr_of}
use Rattle.value_spec.specs.Outcomes.{then_do}
use Rattle.star_eval.specs.Doing.{comprehended, evaluated, first_done}
use Rattle.star_eval.specs.Frames.{around_value}
use Rattle.star_eval.specs.Meets.{state_of}
use Rattle.star_eval.specs.View.{arena_in, bag_of, setting_of, waiting_in}
use Rattle.star_eval.proofs.Clauses.{comprehended_first}
use Rattle.star_eval.proofs.Going.{goes}
use Rattle.star_eval.proofs.comprehensions.comprehension.Goals as goal

pub returns-in-Some-ForIn-default : goal.returns-in-Some-ForIn-default
returns-in-Some-ForIn-default c =
    let m = c.args.m.now in
    let f = m.code.file in
    let p = c.args.place in
    let s = state_of m.session in
    let here = setting_of m in
    let n = c.in-Some-ForIn-default in
    let x = expr_of f n._target in
    let e = expr_of f n.members in
    let cs = clauses_of f n._rest.now in
    let b = bag_of (arena_in m) f c.args.bag in
    let is : clauses_of f c.args.clauses.now ≡ plain.for_clause x e cs =
    ap (clauses_of f) (sym c.as_slice.ensures ∙ n.ensures.cases.0) ∙ ap (λ x. clauses_from (x ∷ each (clause_of f) n._rest.now)) (ap (clause_of f) n.field-0-0-is ∙ clause_of-ForIn f n._target n.members) in
    let members : expr_of f c.get.result.now ≡ e = grind (arith, common_steps) in
    goes _ c.push_value.result c.push_value.new.m
    (ap (around_value m (waiting_in m))
    ((λ i. then_do (evaluated here (members i) s) (first_done here p (clauses_of f c.args.clauses.now) b))
    ∙ (λ i. then_do (evaluated here e s) (first_done here p (is i) b))
    ∙ (λ i. sym (comprehended_first here p x e cs b) i s)
    ∙ sym (ap (λ cs. comprehended here p cs b s) is)))
    c.push_value.ensures
