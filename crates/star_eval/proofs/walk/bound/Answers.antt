use Rattle.std.proofs.Common.{rules, ◌≡◌, ap, subst, sym}
use Rattle.ytt_base.specs.Outcomes.{place_at}
use Rattle.code_spec.specs.Code as plain
use Rattle.star_blocks.specs.Nested.{ops_of}
use Rattle.star_spec.specs.Names.{box_of, write_name}
use Rattle.star_tree.specs.Whole.{expr_of}
use Rattle.star_tree.specs.declared.code.Expr.{the_lemmas}
use Rattle.star_values.specs.Objects.{env_in}
use Rattle.star_values.specs.View.{value_of}
use Rattle.star_eval.specs.Doing.{assigned, through}
use Rattle.star_eval.specs.Frames.{GoesToFlow, around_flow}
use Rattle.star_eval.specs.Meets.{Acts, state_of}
use Rattle.star_eval.specs.View.{arena_in, env_of, nodes_in, setting_of, waiting_in}
use Rattle.star_eval.specs.Waiting.{turn_of}
use Rattle.star_eval.proofs.Chaining.{none_then}
use Rattle.star_eval.proofs.Going.{goes, runs_on}
use Rattle.star_eval.proofs.walk.bound.Goals as goal

pub returns-in-Name : goal.returns-in-Name
returns-in-Name c =
    let m = c.args.m.now in
    let v = value_of (arena_in m) c.args.value in
    let p = place_at m.code.file c.in-Name.line in
    let x = c.in-Name.name in
    let n = record m { session = c.write-done.new.session } in
    let is : expr_of m.code.file c.args.target.now ≡ plain.name p x = search (rules, the_lemmas) in
    subst (λ e. GoesToFlow c.settle_run.result n m (turn_of (setting_of m) c.args.place e (ops_of m.code.file c.args.body.now) v (nodes_in m))) (sym is)
    (runs_on m c.write-done.new.session c.requires.sound c.args.body (write_name p x v (box_of x (env_of m))) c.write-done.result c.settle_run.result
    (subst (λ scope. Acts (write_name p x v (box_of x (env_in (arena_in m).held scope))) c.write-done.result c.write-done.new.session m.session) c.as_slice.ensures c.write-done.ensures) c.settle_run.ensures)

pub returns-in_default : goal.returns-in_default
returns-in_default c =
    let m = c.args.m.now in
    let x = expr_of m.code.file c.args.target.now in
    let os = ops_of m.code.file c.args.body.now in
    goes _ c.push_statement.result c.push_statement.new.m
    (ap (around_flow m (waiting_in m)) (none_then (assigned (setting_of m) c.args.place x (value_of (arena_in m) c.args.value) (state_of m.session)) (through (setting_of m) os (nodes_in m))))
    c.push_statement.ensures
