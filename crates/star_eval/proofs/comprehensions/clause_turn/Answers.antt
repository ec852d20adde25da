use Rattle.std.proofs.Common.{rules, ◌≡◌, ◌==◌, ◌∷◌, [], true, false, sym, ap, subst, ◌∙◌}
use Rattle.star_spec.specs.Flow.{next_turn, turns}
use Rattle.star_tree.specs.Listed.{clauses_of}
use Rattle.star_tree.specs.Whole.{expr_of}
use Rattle.star_values.specs.View.{value_of}
use Rattle.value_spec.specs.Outcomes.{then_do}
use Rattle.star_values.proofs.Growing.{grows_same}
use Rattle.star_eval.specs.declared.frame.Control.{Control}
use Rattle.star_eval.specs.Frames.{Goes, around_bag}
use Rattle.star_eval.specs.Meets.{state_of}
use Rattle.star_eval.specs.Sources.{Advances, left_of}
use Rattle.star_eval.specs.View.{arena_in, bag_of, setting_of, waiting_in}
use Rattle.star_eval.specs.Waiting.{clause_turn_of}
use Rattle.star_eval.proofs.Going.{goes}
use Rattle.star_eval.proofs.Rows.{enough, none_left, step_taken, step_wanting}
use Rattle.star_eval.proofs.comprehensions.clause_turn.Goals as goal

pub enter-requires-clause-value : goal.enter-requires-clause-value
enter-requires-clause-value c = let h = c.in_ok-advance.ensures in search (rules, h)

pub enter-requires-clause-source : goal.enter-requires-clause-source
enter-requires-clause-source c = let h = c.in_ok-advance.ensures in search (rules, h)

pub returns-in-None : goal.returns-in-None
returns-in-None c =
    let m = c.args.m.now in
    let a = arena_in m in
    let b = bag_of a m.code.file c.args.bag in
    let f = clause_turn_of (setting_of m) c.args.place (expr_of m.code.file c.args.target.now) (clauses_of m.code.file c.args.clauses.now) in
    let none : left_of a c.args.source ≡ [] = subst (Advances a c.args.source) c.in-None.is c.in_ok-advance.ensures in
    record {
      same = sym (ap (λ vs. around_bag m (waiting_in m) (turns c.args.place f vs b (state_of m.session))) none);
      sound = c.requires.sound;
      owned = c.requires.bag;
      grows = grows_same a;
    }

pub returns-then-m-eq0 : goal.returns-then-m-eq0
returns-then-m-eq0 c =
    let m = c.args.m.now in
    let a = arena_in m in
    let s = state_of m.session in
    let p = c.args.place in
    let b = bag_of a m.code.file c.args.bag in
    let f = clause_turn_of (setting_of m) p (expr_of m.code.file c.args.target.now) (clauses_of m.code.file c.args.clauses.now) in
    let h = c.in_ok-advance.ensures in
    let first : left_of a c.args.source ≡ value_of a c.in-Some.value ∷ left_of a c.in-Some.source = search (rules, h) in
    let zero : (m.session.work.steps == 0) ≡ true = search rules in
    let ends = step_wanting p (f (value_of a c.in-Some.value) b) s (none_left m.session.work.steps zero) in
    subst (λ (x : Control). Goes (arena_in m) m x (around_bag m (waiting_in m) (turns p f (left_of a c.args.source) b s))) (sym c.lost.ensures) (record {
      same = ap (around_bag m (waiting_in m)) (sym (ap (λ vs. turns p f vs b s) first ∙ ap (λ o. then_do o (next_turn (turns p f (left_of a c.in-Some.source)))) ends));
      sound = c.requires.sound;
      owned = tt;
      grows = grows_same a;
    })

pub returns-else-m-eq0 : goal.returns-else-m-eq0
returns-else-m-eq0 c =
    let m = c.args.m.now in
    let a = arena_in m in
    let s = state_of m.session in
    let p = c.args.place in
    let b = bag_of a m.code.file c.args.bag in
    let f = clause_turn_of (setting_of m) p (expr_of m.code.file c.args.target.now) (clauses_of m.code.file c.args.clauses.now) in
    let h = c.in_ok-advance.ensures in
    let first : left_of a c.args.source ≡ value_of a c.in-Some.value ∷ left_of a c.in-Some.source = search (rules, h) in
    let some : (m.session.work.steps == 0) ≡ false = search rules in
    let goes_on = step_taken p (f (value_of a c.in-Some.value) b) s (enough m.session.work.steps some) in
    goes _ c.enter.result c.enter.new.m
    (ap (around_bag m (waiting_in m)) (sym (ap (λ vs. turns p f vs b s) first ∙ ap (λ o. then_do o (next_turn (turns p f (left_of a c.in-Some.source)))) goes_on)))
    c.enter.ensures
