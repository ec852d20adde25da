use Rattle.std.proofs.lemmas.Grind.{common_steps}
use Rattle.std.proofs.Common.{arith, ◌≡◌, ◌∷◌, if◌then◌else◌, sym, ap, map as each, ◌∙◌}
use Rattle.code_spec.specs.Code as plain
use Rattle.star_spec.specs.Eval.{truth_of}
use Rattle.star_spec.specs.Flow.{on}
use Rattle.star_tree.proofs.Forms.{clause_of-ForIn, clause_of-OnlyIf}
use Rattle.star_tree.specs.Listed.{clause_of, clauses_of}
use Rattle.star_tree.specs.Whole.{clauses_from, expr_of}
use Rattle.value_spec.specs.Outcomes.{give, then_do, ◌>>=◌}
use Rattle.star_eval.specs.Doing.{clause_looped, clauses_done, evaluated}
use Rattle.star_eval.specs.Frames.{around_bag}
use Rattle.star_eval.specs.Meets.{state_of}
use Rattle.star_eval.specs.View.{arena_in, bag_of, setting_of, waiting_in}
use Rattle.star_eval.proofs.Going.{goes}
use Rattle.star_eval.proofs.comprehensions.clauses.Goals as goal

pub returns-in-Some-ForIn-default : goal.returns-in-Some-ForIn-default
returns-in-Some-ForIn-default c =
    let m = c.args.m.now in
    let f = m.code.file in
    let b = bag_of (arena_in m) f c.args.bag in
    let p = c.args.place in
    let n = c.in-Some-ForIn-default in
    let is : clauses_of f c.args.clauses.now ≡ plain.for_clause (expr_of f n.target) (expr_of f n.members) (clauses_of f n.rest.now) =
    ap (clauses_of f) n.ensures.cases.0 ∙ ap (λ x. clauses_from (x ∷ each (clause_of f) n.rest.now)) (ap (clause_of f) n.field-0-0-is ∙ clause_of-ForIn f n.target n.members) in
    let members : expr_of f c.get-in-Some-ForIn-default.result.now ≡ expr_of f n.members = grind (arith, common_steps) in
    let target : expr_of f c.get.result.now ≡ expr_of f n.target = grind (arith, common_steps) in
    goes _ c.push_element.result c.push_element.new.m
    ((λ i. around_bag m (waiting_in m) (then_do (evaluated (setting_of m) (members i) (state_of m.session)) (λ v. clause_looped (setting_of m) p (target i) (clauses_of f n.rest.now) v b)))
    ∙ sym (ap (λ cs. around_bag m (waiting_in m) (clauses_done (setting_of m) p cs b (state_of m.session))) is))
    c.push_element.ensures

pub returns-in-Some-OnlyIf-default : goal.returns-in-Some-OnlyIf-default
returns-in-Some-OnlyIf-default c =
    let m = c.args.m.now in
    let f = m.code.file in
    let b = bag_of (arena_in m) f c.args.bag in
    let p = c.args.place in
    let n = c.in-Some-OnlyIf-default in
    let is : clauses_of f c.args.clauses.now ≡ plain.if_clause (expr_of f n.test) (clauses_of f n.rest.now) =
    ap (clauses_of f) n.ensures.cases.0 ∙ ap (λ x. clauses_from (x ∷ each (clause_of f) n.rest.now)) (ap (clause_of f) n.field-0-0-is ∙ clause_of-OnlyIf f n.test) in
    let test : expr_of f c.get-in-Some-OnlyIf-default.result.now ≡ expr_of f n.test = grind (arith, common_steps) in
    goes _ c.push_element-in-Some-OnlyIf-default.result c.push_element-in-Some-OnlyIf-default.new.m
    ((λ i. around_bag m (waiting_in m) (then_do (evaluated (setting_of m) (test i) (state_of m.session)) (λ v. truth_of v >>= λ holds. if holds then clauses_done (setting_of m) p (clauses_of f n.rest.now) b else give (on b))))
    ∙ sym (ap (λ cs. around_bag m (waiting_in m) (clauses_done (setting_of m) p cs b (state_of m.session))) is))
    c.push_element-in-Some-OnlyIf-default.ensures
