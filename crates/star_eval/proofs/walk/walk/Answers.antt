use Rattle.std.proofs.Common.{◌≡◌, None, Some, ap, subst, sym, ◌∙◌}
use Rattle.star_blocks.specs.Nested.{ops_of}
use Rattle.star_spec.specs.Flow.{turns}
use Rattle.star_tree.specs.Whole.{expr_of}
use Rattle.star_values.specs.View.{value_of}
use Rattle.value_spec.specs.Members.{members_in, walked_in}
use Rattle.star_eval.specs.Doing.{assigned, through}
use Rattle.star_eval.specs.Frames.{around_flow}
use Rattle.star_eval.specs.Meets.{state_of}
use Rattle.star_eval.specs.Sources.{IsWalkOf, all_members, are_members, left_of, members_at}
use Rattle.star_eval.specs.View.{arena_in, nodes_in, setting_of, waiting_in}
use Rattle.star_eval.specs.Waiting.{turn_of}
use Rattle.star_eval.proofs.Going.{goes}
use Rattle.star_eval.proofs.Loops.{over_no_object, over_object}
use Rattle.star_eval.proofs.walk.walk.Goals as goal

pub returns-in-Some-2 : goal.returns-in-Some-2
returns-in-Some-2 c =
    let m = c.args.m.now in
    let a = arena_in m in
    let s = state_of m.session in
    let p = c.args.place in
    let v = value_of a c.args.value in
    let x = expr_of m.code.file c.args.target.now in
    let os = ops_of m.code.file c.args.body.now in
    let there : members_in s.store v ≡ Some (all_members a c.in-Some-2.members) = c.in_ok-members_of-in-None.ensures.members ∙ ap (are_members a) c.in-Some-2.is in
    let none : walked_in v ≡ None = subst (IsWalkOf a v) c.in-None.is (c.walk_of.ensures a c.requires.value) in
    goes _ c.turn.result c.turn.new.m
    (ap (around_flow m (waiting_in m)) ((λ i. turns p (turn_of (setting_of m) p x os) (left_of a (c.of.ensures i)) (nodes_in m) s)
    ∙ sym (over_no_object p (λ w. assigned (setting_of m) p x w) v (through (setting_of m) os) (nodes_in m) s (all_members a c.in-Some-2.members) there none)))
    c.turn.ensures

pub returns-in-Some : goal.returns-in-Some
returns-in-Some c =
    let m = c.args.m.now in
    let a = arena_in m in
    let s = state_of m.session in
    let p = c.args.place in
    let v = value_of a c.args.value in
    let x = expr_of m.code.file c.args.target.now in
    let os = ops_of m.code.file c.args.body.now in
    let walks = subst (IsWalkOf a v) c.in-Some.is (c.walk_of.ensures a c.requires.value) in
    goes _ c.walk_object.result c.walk_object.new.m
    (ap (around_flow m (waiting_in m)) (sym (over_object p (λ w. assigned (setting_of m) p x w) v (through (setting_of m) os) (nodes_in m) s (members_at c.in-Some.object.at a.store) walks.2 c.in-Some.object.at walks.0)))
    c.walk_object.ensures
