use Rattle.std.proofs.Common.{rules, ◌≡◌, sym, ap, ◌∙◌, []}
use Rattle.ytt_base.specs.Outcomes.{place_at}
use Rattle.code_spec.specs.Blocks.{op_statement, op_for, op_def}
use Rattle.code_spec.specs.Code as plain
use Rattle.star_blocks.specs.Nested.{statement_of, ops_of}
use Rattle.star_blocks.specs.declared.block.Statement.{the_lemmas}
use Rattle.star_spec.specs.Flow.{on, out}
use Rattle.star_tree.specs.Whole.{expr_of, loaded_names_of, parameters_of}
use Rattle.value_spec.specs.Outcomes.{give, then_do}
use Rattle.star_eval.specs.Frames.{around_flow}
use Rattle.star_eval.specs.Meets.{state_of}
use Rattle.star_eval.specs.Doing.{assigned, done_after, concluded, looped, making, through, evaluated}
use Rattle.star_eval.specs.View.{nodes_in, setting_of, waiting_in, arena_in, env_of}
use Rattle.star_eval.proofs.Going.{goes}
use Rattle.std.specs.Option.{option_map}
use Rattle.star_spec.specs.Language.{returns}
use Rattle.star_spec.specs.Names.{box_of, write_name}
use Rattle.star_tree.specs.View.{item_kind_of}
use Rattle.star_values.proofs.Growing.{grows_same}
use Rattle.star_eval.proofs.run.act.Goals as goal

pub returns-in-Assign : goal.returns-in-Assign
returns-in-Assign c =
    let m = c.args.m.now in
    let p = c.args.place in
    let is : statement_of m.code.file c.args.statement.now ≡ op_statement (plain.assign (place_at m.code.file c.in-Assign.field-0) (expr_of m.code.file c.in-Assign.target) (expr_of m.code.file c.in-Assign.expr)) = search (rules, the_lemmas) in
    goes _ c.within-in-Assign.result c.within-in-Assign.new.m
    ((λ i. around_flow m (waiting_in m) (then_do (evaluated (setting_of m) (expr_of m.code.file (c.get-in-Assign-2.ensures i)) (state_of m.session)) (λ v s. then_do (assigned (setting_of m) p (expr_of m.code.file (c.get-in-Assign.ensures i)) v s) (λ u. give (on (nodes_in m))))))
    ∙ sym (ap (λ o. around_flow m (waiting_in m) (done_after (setting_of m) p o (nodes_in m) (state_of m.session))) is))
    c.within-in-Assign.ensures

pub returns-in-Expr : goal.returns-in-Expr
returns-in-Expr c =
    let m = c.args.m.now in
    let b = c.in-Expr in
    let is : statement_of m.code.file c.args.statement.now ≡ op_statement (plain.evaluate (place_at m.code.file b.field-0) (expr_of m.code.file b.expr)) = search (rules, the_lemmas) in
    goes _ c.within.result c.within.new.m
    ((λ i. around_flow m (waiting_in m) (then_do (evaluated (setting_of m) (expr_of m.code.file (c.get.ensures i)) (state_of m.session)) (λ v. give (on (nodes_in m)))))
    ∙ sym (ap (λ o. around_flow m (waiting_in m) (done_after (setting_of m) c.args.place o (nodes_in m) (state_of m.session))) is))
    c.within.ensures

pub returns-in-Load : goal.returns-in-Load
returns-in-Load c =
    let m = c.args.m.now in
    let b = c.in-Load in
    let is : statement_of m.code.file c.args.statement.now ≡ op_statement (plain.load (place_at m.code.file b.field-0) b.field-1 (loaded_names_of b.field-2)) = search (rules, the_lemmas) in
    record {
      same = sym (ap (λ o. around_flow m (waiting_in m) (done_after (setting_of m) c.args.place o (nodes_in m) (state_of m.session))) is);
      sound = c.requires;
      owned = tt;
      grows = grows_same (arena_in m);
    }

pub returns-in-Return : goal.returns-in-Return
returns-in-Return c =
    let m = c.args.m.now in
    let b = c.in-Return in
    let is : statement_of m.code.file c.args.statement.now ≡ op_statement (plain.return (place_at m.code.file b.field-0) (expr_of m.code.file b.expr)) = search (rules, the_lemmas) in
    goes _ c.within-in-Return.result c.within-in-Return.new.m
    ((λ i. around_flow m (waiting_in m) (then_do (evaluated (setting_of m) (expr_of m.code.file (c.get-in-Return.ensures i)) (state_of m.session)) (λ v. give (out (returns v) (nodes_in m)))))
    ∙ sym (ap (λ o. around_flow m (waiting_in m) (done_after (setting_of m) c.args.place o (nodes_in m) (state_of m.session))) is))
    c.within-in-Return.ensures

pub returns-in-Break : goal.returns-in-Break
returns-in-Break c =
    let m = c.args.m.now in
    let b = c.in-Break in
    let is : statement_of m.code.file c.args.statement.now ≡ op_statement (plain.break (place_at m.code.file b.field-0)) = search (rules, the_lemmas) in
    record {
      same = sym (ap (λ o. around_flow m (waiting_in m) (done_after (setting_of m) c.args.place o (nodes_in m) (state_of m.session))) is);
      sound = c.requires;
      owned = tt;
      grows = grows_same (arena_in m);
    }

pub returns-in-Continue : goal.returns-in-Continue
returns-in-Continue c =
    let m = c.args.m.now in
    let b = c.in-Continue in
    let is : statement_of m.code.file c.args.statement.now ≡ op_statement (plain.continue (place_at m.code.file b.field-0)) = search (rules, the_lemmas) in
    record {
      same = sym (ap (λ o. around_flow m (waiting_in m) (done_after (setting_of m) c.args.place o (nodes_in m) (state_of m.session))) is);
      sound = c.requires;
      owned = tt;
      grows = grows_same (arena_in m);
    }

pub returns-in-Pass : goal.returns-in-Pass
returns-in-Pass c =
    let m = c.args.m.now in
    let b = c.in-Pass in
    let is : statement_of m.code.file c.args.statement.now ≡ op_statement (plain.pass (place_at m.code.file b.field-0)) = search (rules, the_lemmas) in
    record {
      same = sym (ap (λ o. around_flow m (waiting_in m) (done_after (setting_of m) c.args.place o (nodes_in m) (state_of m.session))) is);
      sound = c.requires;
      owned = tt;
      grows = grows_same (arena_in m);
    }

pub returns-in-For : goal.returns-in-For
returns-in-For c =
    let m = c.args.m.now in
    let f = m.code.file in
    let b = c.in-For in
    let is : statement_of f c.args.statement.now ≡ op_for (place_at f b.field-0) (expr_of f b.target) (expr_of f b.expr) (ops_of f b.body) = search (rules, the_lemmas) in
    goes _ c.within-in-For.result c.within-in-For.new.m
    ((λ i. around_flow m (waiting_in m) (then_do (evaluated (setting_of m) (expr_of f (c.get-in-For-2.ensures i)) (state_of m.session))
    (λ v. looped (setting_of m) c.args.place (expr_of f (c.get-in-For.ensures i)) (through (setting_of m) (ops_of f (c.as_slice-in-For.ensures i))) v (nodes_in m))))
    ∙ sym (ap (λ o. around_flow m (waiting_in m) (done_after (setting_of m) c.args.place o (nodes_in m) (state_of m.session))) is))
    c.within-in-For.ensures

pub returns-in-Def : goal.returns-in-Def
returns-in-Def c =
    let m = c.args.m.now in
    let f = m.code.file in
    let b = c.in-Def in
    let p = c.args.place in
    let is : statement_of f c.args.statement.now ≡ op_def (place_at f b.field-0) b.number (option_map item_kind_of b.field-2) b.name (parameters_of f b.params) (ops_of f b.field-5) = search (rules, the_lemmas) in
    goes _ c.define.result c.define.new.m
    ((λ i. around_flow m (waiting_in m) (then_do (making (setting_of m) (record { place = p; name = b.name; number = b.number }) (parameters_of f (c.as_slice-in-Def.ensures i)) [] (state_of m.session))
    (λ g. concluded (write_name p b.name g (box_of b.name (env_of m))) (nodes_in m))))
    ∙ sym (ap (λ o. around_flow m (waiting_in m) (done_after (setting_of m) p o (nodes_in m) (state_of m.session))) is))
    c.define.ensures
