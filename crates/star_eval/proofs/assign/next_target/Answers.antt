use Rattle.std.proofs.Common.{rules, ◌≡◌, ◌∷◌, [], ap, subst}
use Rattle.star_tree.specs.Whole.{expr_of, exprs_of}
use Rattle.star_values.specs.View.{value_of}
use Rattle.code_spec.specs.Code.{an_expr}
use Rattle.star_values.proofs.Growing.{grows_same}
use Rattle.star_eval.specs.Frames.{around_value}
use Rattle.star_eval.specs.Meets.{state_of}
use Rattle.star_eval.specs.Sources.{Advances, left_of}
use Rattle.star_eval.specs.View.{arena_in, setting_of, waiting_in}
use Rattle.star_eval.proofs.Going.{goes}
use Rattle.star_eval.proofs.Rows.{first_assigned, none_assigned}
use Rattle.star_eval.proofs.assign.next_target.Goals as goal

pub push_value-requires-clause-frame : goal.push_value-requires-clause-frame
push_value-requires-clause-frame c = let h = c.in_ok-advance.ensures in search (rules, h)

pub push_value-requires-clause-control : goal.push_value-requires-clause-control
push_value-requires-clause-control c = let h = c.in_ok-advance.ensures in search (rules, h)

pub returns-in-None-2 : goal.returns-in-None-2
returns-in-None-2 c =
    let m = c.args.m.now in
    let a = arena_in m in
    let none : left_of a c.args.source ≡ [] = subst (Advances a c.args.source) c.in-None-2.is c.in_ok-advance.ensures in
    record {
      same = ap (around_value m (waiting_in m)) (none_assigned c.args.place (setting_of m) (exprs_of m.code.file c.args.targets.now) (left_of a c.args.source) (state_of m.session) none);
      sound = c.requires.sound;
      owned = tt;
      grows = grows_same a;
    }

pub returns-in-Some-2 : goal.returns-in-Some-2
returns-in-Some-2 c =
    let m = c.args.m.now in
    let a = arena_in m in
    let h = c.in_ok-advance.ensures in
    let first : left_of a c.args.source ≡ value_of a c.in-Some-2.value ∷ left_of a c.in-Some-2.source = search (rules, h) in
    let targets : exprs_of m.code.file c.args.targets.now ≡ an_expr (expr_of m.code.file c.in-Some.target.now) (exprs_of m.code.file c.in-Some.rest.now) = search rules in
    goes _ c.push_value.result c.push_value.new.m
    (ap (around_value m (waiting_in m))
    (first_assigned c.args.place (setting_of m) (expr_of m.code.file c.in-Some.target.now) (exprs_of m.code.file c.in-Some.rest.now) (exprs_of m.code.file c.args.targets.now) (value_of a c.in-Some-2.value) (left_of a c.in-Some-2.source) (left_of a c.args.source) (state_of m.session) targets
    first))
    c.push_value.ensures
