use Rattle.std.proofs.Common.{◌≡◌, sym, ap, ◌∙◌}
use Rattle.ytt_base.specs.Outcomes.{place_at}
use Rattle.code_spec.specs.Code as plain
use Rattle.builtin_spec.specs.Operators.{operator_row}
use Rattle.star_tree.proofs.Forms.{expr_of-Binary, expr_of-Index, expr_of-Slice, expr_of-List, expr_of-Unary}
use Rattle.star_tree.specs.Listed.{optional_of}
use Rattle.star_tree.specs.Whole.{binary_operator_of, expr_of, exprs_of, unary_operator_of}
use Rattle.value_spec.specs.Outcomes.{then_do, ◌>>=◌, new_list}
use Rattle.star_eval.specs.Frames.{around_value}
use Rattle.star_eval.specs.Meets.{state_of}
use Rattle.star_eval.specs.Doing.{acted, evaluated, all_evaluated}
use Rattle.star_eval.specs.View.{env_of, setting_of, waiting_in}
use Rattle.star_eval.specs.Waiting.{bounds_of, index_of, value_goes}
use Rattle.star_eval.proofs.Going.{goes}
use Rattle.operator_spec.specs.Operators.{unary_row}
use Rattle.star_eval.proofs.eval.act.Goals as goal

pub returns-in-Binary : goal.returns-in-Binary
returns-in-Binary c =
    let m = c.args.m.now in
    let env = env_of m in
    let s = state_of m.session in
    let b = c.in-Binary in
    let is : expr_of m.code.file c.args.expr.now ≡ plain.binary (place_at m.code.file b.field-0) (binary_operator_of b.op) (expr_of m.code.file b.a) (expr_of m.code.file b.b) = ap (expr_of m.code.file) b.is ∙ expr_of-Binary m.code.file b.field-0 b.op b.a b.b in
    goes _ c.binary.result c.binary.new.m
    ((λ i. around_value m (waiting_in m) (then_do (evaluated (setting_of m) (expr_of m.code.file (c.get-in-Binary.ensures i)) s) (λ x. evaluated (setting_of m) (expr_of m.code.file (c.get-in-Binary-2.ensures i)) >>= operator_row c.args.place (binary_operator_of b.op) x)))
    ∙ sym (ap (λ e. around_value m (waiting_in m) (acted (setting_of m) c.args.place e s)) is))
    c.binary.ensures

pub returns-in-Index : goal.returns-in-Index
returns-in-Index c =
    let m = c.args.m.now in
    let env = env_of m in
    let s = state_of m.session in
    let b = c.in-Index in
    let is : expr_of m.code.file c.args.expr.now ≡ plain.index (place_at m.code.file b.field-0) (expr_of m.code.file b.a) (expr_of m.code.file b.index) = ap (expr_of m.code.file) b.is ∙ expr_of-Index m.code.file b.field-0 b.a b.index in
    goes _ c.within_index.result c.within_index.new.m
    ((λ i. around_value m (waiting_in m) (then_do (evaluated (setting_of m) (expr_of m.code.file (c.get-in-Index.ensures i)) s) (value_goes (setting_of m) (index_of c.args.place (expr_of m.code.file (c.get.ensures i))))))
    ∙ sym (ap (λ e. around_value m (waiting_in m) (acted (setting_of m) c.args.place e s)) is))
    c.within_index.ensures

pub returns-in-Slice : goal.returns-in-Slice
returns-in-Slice c =
    let m = c.args.m.now in
    let env = env_of m in
    let s = state_of m.session in
    let b = c.in-Slice in
    let is : expr_of m.code.file c.args.expr.now ≡ plain.slice (place_at m.code.file b.field-0) (expr_of m.code.file b.a) (optional_of m.code.file b.from) (optional_of m.code.file b.to) (optional_of m.code.file b.step) = ap (expr_of m.code.file) b.is ∙ expr_of-Slice m.code.file b.field-0 b.a b.from b.to b.step in
    goes _ c.within_index-in-Slice.result c.within_index-in-Slice.new.m
    ((λ i. around_value m (waiting_in m) (then_do (evaluated (setting_of m) (expr_of m.code.file (c.get-in-Slice.ensures i)) s) (value_goes (setting_of m) (bounds_of c.args.place (optional_of m.code.file b.from) (optional_of m.code.file b.to) (optional_of m.code.file b.step)))))
    ∙ sym (ap (λ e. around_value m (waiting_in m) (acted (setting_of m) c.args.place e s)) is))
    c.within_index-in-Slice.ensures

pub returns-in-List : goal.returns-in-List
returns-in-List c =
    let m = c.args.m.now in
    let s = state_of m.session in
    let b = c.in-List in
    let is : expr_of m.code.file c.args.expr.now ≡ plain.list (place_at m.code.file b.field-0) (exprs_of m.code.file b.members) = ap (expr_of m.code.file) b.is ∙ expr_of-List m.code.file b.field-0 b.members in
    goes _ c.row.result c.row.new.m
    ((λ i. around_value m (waiting_in m) (then_do (all_evaluated (setting_of m) (exprs_of m.code.file (c.as_slice.ensures i)) s) new_list))
    ∙ sym (ap (λ e. around_value m (waiting_in m) (acted (setting_of m) c.args.place e s)) is))
    c.row.ensures

pub returns-in-Unary : goal.returns-in-Unary
returns-in-Unary c =
    let m = c.args.m.now in
    let s = state_of m.session in
    let b = c.in-Unary in
    let is : expr_of m.code.file c.args.expr.now ≡ plain.unary (place_at m.code.file b.field-0) (unary_operator_of b.op) (expr_of m.code.file b.a) = ap (expr_of m.code.file) b.is ∙ expr_of-Unary m.code.file b.field-0 b.op b.a in
    goes _ c.push_value.result c.push_value.new.m
    ((λ i. around_value m (waiting_in m) (then_do (evaluated (setting_of m) (expr_of m.code.file (c.get-in-Unary.ensures i)) s) (unary_row c.args.place (unary_operator_of b.op))))
    ∙ sym (ap (λ e. around_value m (waiting_in m) (acted (setting_of m) c.args.place e s)) is))
    c.push_value.ensures
