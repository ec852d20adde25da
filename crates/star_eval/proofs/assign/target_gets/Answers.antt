use Rattle.std.proofs.Common.{rules, ◌≡◌, ap, subst, sym}
use Rattle.ytt_base.specs.Outcomes.{place_at}
use Rattle.code_spec.specs.Code as plain
use Rattle.star_spec.specs.Flow.{on}
use Rattle.star_tree.specs.Whole.{expr_of}
use Rattle.star_tree.specs.declared.code.Expr.{the_lemmas}
use Rattle.star_values.specs.View.{value_of}
use Rattle.value_spec.specs.Outcomes.{give}
use Rattle.star_eval.specs.Doing.{assigned, concluded}
use Rattle.star_eval.specs.Frames.{GoesToFlow, around_flow}
use Rattle.star_eval.specs.Meets.{state_of}
use Rattle.star_eval.specs.View.{arena_in, nodes_in, setting_of, waiting_in}
use Rattle.star_eval.proofs.Chaining.{none_then}
use Rattle.star_eval.proofs.Going.{goes}
use Rattle.star_eval.proofs.assign.target_gets.Goals as goal

pub returns-in-Name : goal.returns-in-Name
returns-in-Name c =
    let m = c.args.m.now in
    let is : expr_of m.code.file c.args.target.now ≡ plain.name (place_at m.code.file c.in-Name.line) c.in-Name.name = search (rules, the_lemmas) in
    subst (λ e. GoesToFlow c.name_gets.result c.name_gets.new.m m (concluded (assigned (setting_of m) c.args.place e (value_of (arena_in m) c.args.value)) (nodes_in m))) (sym is) c.name_gets.ensures

pub returns-in_default : goal.returns-in_default
returns-in_default c =
    let m = c.args.m.now in
    let to = assigned (setting_of m) c.args.place (expr_of m.code.file c.args.target.now) (value_of (arena_in m) c.args.value) in
    goes _ c.push_statement.result c.push_statement.new.m (ap (around_flow m (waiting_in m)) (none_then (to (state_of m.session)) (give (on (nodes_in m))))) c.push_statement.ensures
