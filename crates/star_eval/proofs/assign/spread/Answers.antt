use Rattle.std.proofs.Common.{rules, ◌≡◌, ◌==◌, Some, true, false, length, sym, ap, subst, ◌∙◌}
use Rattle.star_spec.specs.Eval.{count_exprs}
use Rattle.star_tree.specs.Whole.{exprs_of}
use Rattle.star_values.specs.View.{value_of}
use Rattle.value_spec.specs.Members.{count_in, members_in}
use Rattle.star_values.proofs.Growing.{grows_same}
use Rattle.star_eval.specs.declared.frame.Control.{Control}
use Rattle.star_eval.specs.Frames.{Goes, around_value}
use Rattle.star_eval.specs.Meets.{state_of}
use Rattle.star_eval.specs.Doing.{assigned_each, spread_over}
use Rattle.star_eval.specs.Sources.{all_members, are_members, left_of}
use Rattle.star_eval.specs.View.{arena_in, setting_of, waiting_in}
use Rattle.star_eval.specs.Waiting.{with_none}
use Rattle.star_eval.proofs.Counted.{as_counted}
use Rattle.star_eval.proofs.Going.{goes}
use Rattle.star_eval.proofs.Rows.{as_many, spread_on, spread_uncounted}
use Rattle.star_eval.proofs.assign.spread.Goals as goal

pub returns-then-member_count-targets : goal.returns-then-member_count-targets
returns-then-member_count-targets c =
    let m = c.args.m.now in
    let a = arena_in m in
    let s = state_of m.session in
    let es = exprs_of m.code.file c.args.targets.now in
    let v = value_of a c.args.value in
    let differs : (c.member_count.result == length c.args.targets.now) ≡ false = search rules in
    let other : (count_in s.store v == count_exprs es) ≡ false = (λ i. sym c.member_count.ensures i == as_many m.code.file c.args.targets.now i) ∙ differs in
    subst (λ (x : Control). Goes (arena_in m) m x (around_value m (waiting_in m) (with_none (spread_over (setting_of m) c.args.place es v) s))) (sym c.failed.ensures)
    (record {
      same = ap (around_value m (waiting_in m)) (spread_uncounted c.args.place (setting_of m) es v s (λ vs there. ap (λ n. n == count_exprs es) (sym (as_counted s.store v vs there)) ∙ other));
      sound = c.requires.sound;
      owned = tt;
      grows = grows_same a;
    })

pub returns-in-Some : goal.returns-in-Some
returns-in-Some c =
    let m = c.args.m.now in
    let a = arena_in m in
    let s = state_of m.session in
    let es = exprs_of m.code.file c.args.targets.now in
    let v = value_of a c.args.value in
    let vs = all_members a c.in-Some.members in
    let there : members_in s.store v ≡ Some vs = c.in_ok-members_of.ensures.members ∙ ap (are_members a) c.in-Some.is in
    let same : (c.member_count.result == length c.args.targets.now) ≡ true = search rules in
    let many : (length vs == count_exprs es) ≡ true = (λ i. (sym (as_counted s.store v vs there) ∙ sym c.member_count.ensures) i == as_many m.code.file c.args.targets.now i) ∙ same in
    goes _ c.next_target.result c.next_target.new.m
    (ap (around_value m (waiting_in m)) ((λ i. with_none (assigned_each (setting_of m) c.args.place es (left_of a (c.of.ensures i))) s) ∙ spread_on c.args.place (setting_of m) es v vs s there many))
    c.next_target.ensures
