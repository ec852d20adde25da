use Rattle.std.proofs.Common.{rules, ◌≡◌, ap, subst, sym, ◌∙◌}
use Rattle.ytt_base.specs.Outcomes.{place_at}
use Rattle.code_spec.specs.Code as plain
use Rattle.star_spec.specs.Names.{box_of, write_name}
use Rattle.star_tree.specs.Whole.{expr_of}
use Rattle.star_tree.specs.declared.code.Expr.{the_lemmas}
use Rattle.star_values.specs.Objects.{env_in}
use Rattle.star_values.specs.View.{value_of}
use Rattle.index_spec.specs.Index.{set_index_row}
use Rattle.star_tree.proofs.Forms.{expr_of-Index}
use Rattle.value_spec.specs.Outcomes.{then_do}
use Rattle.star_eval.specs.Frames.{GoesToValue, around_value}
use Rattle.star_eval.specs.Meets.{Acts, state_of}
use Rattle.star_eval.specs.Doing.{assigned, evaluated}
use Rattle.star_eval.specs.View.{arena_in, env_of, setting_of, waiting_in}
use Rattle.star_eval.specs.Waiting.{target_of, value_goes, with_none}
use Rattle.star_eval.proofs.Chaining.{index_goes}
use Rattle.star_eval.proofs.Going.{acts_on, goes}
use Rattle.star_eval.proofs.assign.assign.Goals as goal

pub returns-in-Name : goal.returns-in-Name
returns-in-Name c =
    let m = c.args.m.now in
    let v = value_of (arena_in m) c.args.value in
    let p = place_at m.code.file c.in-Name.line in
    let x = c.in-Name.name in
    let is : expr_of m.code.file c.args.target.now ≡ plain.name p x = search (rules, the_lemmas) in
    subst (λ e. GoesToValue c.settle_none.result (record m { session = c.write.new.session }) m (with_none (assigned (setting_of m) c.args.place e v))) (sym is)
    (acts_on m c.write.new.session c.requires.sound (write_name p x v (box_of x (env_of m))) c.write.result c.settle_none.result
    (subst (λ scope. Acts (write_name p x v (box_of x (env_in (arena_in m).held scope))) c.write.result c.write.new.session m.session) c.as_slice.ensures c.write.ensures) c.settle_none.ensures)

pub returns-in-Index : goal.returns-in-Index
returns-in-Index c =
    let m = c.args.m.now in
    let f = m.code.file in
    let s = state_of m.session in
    let b = c.in-Index in
    let v = value_of (arena_in m) c.args.value in
    let p = place_at f b.line in
    let is : expr_of f c.args.target.now ≡ plain.index p (expr_of f b.a) (expr_of f b.index) = ap (expr_of f) b.is ∙ expr_of-Index f b.line b.a b.index in
    goes _ c.within_index.result c.within_index.new.m
    (ap (around_value m (waiting_in m))
    ((λ i. then_do (evaluated (setting_of m) (expr_of f (c.get-in-Index.ensures i)) s) (value_goes (setting_of m) (target_of p (expr_of f (c.get.ensures i)) v)))
    ∙ sym (index_goes (evaluated (setting_of m) (expr_of f b.a) s) (λ x. evaluated (setting_of m) (expr_of f b.index)) (λ x y. set_index_row p x y v))
    ∙ sym (ap (λ e. with_none (assigned (setting_of m) c.args.place e v) s) is)))
    c.within_index.ensures
