use Rattle.std.proofs.Common.{◌≡◌, ap, false, rules, subst, sym, ◌∙◌}
use Rattle.ytt_base.specs.Outcomes.{place_at}
use Rattle.code_spec.specs.Code as plain
use Rattle.star_tree.proofs.Forms.{expr_of-Index, expr_of-Name}
use Rattle.star_tree.specs.declared.code.Expr.{the_lemmas}
use Rattle.star_values.proofs.Growing.{grows_same}
use Rattle.star_tree.specs.Whole.{binary_operator_of, expr_of}
use Rattle.value_spec.specs.Outcomes.{then_do}
use Rattle.star_eval.specs.Frames.{Goes, around_flow}
use Rattle.star_eval.specs.Meets.{state_of}
use Rattle.star_eval.specs.Doing.{augmented, evaluated}
use Rattle.star_eval.specs.View.{arena_in, env_of, nodes_in, setting_of, waiting_in}
use Rattle.star_eval.specs.Waiting.{augment_of, statement_goes}
use Rattle.star_eval.proofs.Going.{goes}
use Rattle.star_eval.proofs.Rows.{not_augmented, takes_augment}
use Rattle.star_eval.proofs.run.augment.Goals as goal

pub returns-in-Name : goal.returns-in-Name
returns-in-Name c =
    let m = c.args.m.now in
    let b = c.in-Name in
    let e = expr_of m.code.file c.args.expr.now in
    goes _ c.augment_name.result c.augment_name.new.m
    (sym (ap (λ x. around_flow m (waiting_in m) (augmented (setting_of m) (binary_operator_of c.args.op) c.args.place x e (nodes_in m) (state_of m.session))) (ap (expr_of m.code.file) b.is ∙ expr_of-Name m.code.file b.line _)))
    c.augment_name.ensures

pub returns-in-List : goal.returns-in-List
returns-in-List c =
    let m = c.args.m.now in
    let x = expr_of m.code.file c.args.target.now in
    let e = expr_of m.code.file c.args.expr.now in
    let o = binary_operator_of c.args.op in
    let other : takes_augment x ≡ false = search (rules, the_lemmas, c.in-List.is) in
    subst (λ r. Goes (arena_in m) m r (around_flow m (waiting_in m) (augmented (setting_of m) o c.args.place x e (nodes_in m) (state_of m.session)))) (sym c.ill_flow.ensures) (record {
      same = λ i. around_flow m (waiting_in m) (sym (not_augmented (setting_of m) o c.args.place x e (nodes_in m) other) i (state_of m.session));
      sound = c.requires;
      owned = tt;
      grows = grows_same (arena_in m);
    })

pub returns-in-Index : goal.returns-in-Index
returns-in-Index c =
    let m = c.args.m.now in
    let env = env_of m in
    let k = nodes_in m in
    let s = state_of m.session in
    let b = c.in-Index in
    let o = binary_operator_of c.args.op in
    let e = expr_of m.code.file c.args.expr.now in
    let p = place_at m.code.file b.line in
    let is : expr_of m.code.file c.args.target.now ≡ plain.index p (expr_of m.code.file b.a) (expr_of m.code.file b.index) = ap (expr_of m.code.file) b.is ∙ expr_of-Index m.code.file b.line b.a b.index in
    goes _ c.within.result c.within.new.m
    ((λ i. around_flow m (waiting_in m) (then_do (evaluated (setting_of m) (expr_of m.code.file (c.get-in-Index.ensures i)) s) (λ v. statement_goes (setting_of m) (augment_of c.args.place o p (expr_of m.code.file (c.get.ensures i)) e) v k)))
    ∙ sym (ap (λ x. around_flow m (waiting_in m) (augmented (setting_of m) o c.args.place x e k s)) is))
    c.within.ensures
