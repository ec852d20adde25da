use Rattle.std.proofs.Common.{◌≡◌, None, Some, ap, subst, sym, ◌∙◌}
use Rattle.star_spec.specs.Flow.{turns}
use Rattle.star_tree.specs.Listed.{clauses_of}
use Rattle.star_tree.specs.Whole.{expr_of}
use Rattle.star_values.specs.View.{value_of}
use Rattle.value_spec.specs.Members.{members_in, walked_in}
use Rattle.star_eval.specs.Doing.{assigned, clauses_done}
use Rattle.star_eval.specs.Frames.{around_bag}
use Rattle.star_eval.specs.Meets.{state_of}
use Rattle.star_eval.specs.Sources.{IsWalkOf, all_members, are_members, left_of}
use Rattle.star_eval.specs.View.{arena_in, bag_of, setting_of, waiting_in}
use Rattle.star_eval.specs.Waiting.{clause_turn_of}
use Rattle.star_eval.proofs.Going.{goes}
use Rattle.star_eval.proofs.Loops.{over_no_object}
use Rattle.star_eval.proofs.comprehensions.clause_loop.Goals as goal

pub returns : goal.returns
returns c =
    let m = c.args.m.now in
    let a = arena_in m in
    let s = state_of m.session in
    let p = c.args.place in
    let v = value_of a c.args.value in
    let x = expr_of m.code.file c.args.target.now in
    let cs = clauses_of m.code.file c.args.clauses.now in
    let b = bag_of a m.code.file c.args.bag in
    let there : members_in s.store v ≡ Some (all_members a c.in-Some-2.members) = c.in_ok-members_of-in-None.ensures.members ∙ ap (are_members a) c.in-Some-2.is in
    let none : walked_in v ≡ None = subst (IsWalkOf a v) c.in-None.is (c.walk_of.ensures a c.requires.value) in
    goes _ c.clause_turn.result c.clause_turn.new.m
    (ap (around_bag m (waiting_in m)) ((λ i. turns p (clause_turn_of (setting_of m) p x cs) (left_of a (c.of.ensures i)) b s)
    ∙ sym (over_no_object p (λ w. assigned (setting_of m) p x w) v (clauses_done (setting_of m) p cs) b s (all_members a c.in-Some-2.members) there none)))
    c.clause_turn.ensures
