use Rattle.std.proofs.Common.{sym, ◌∙◌}
use Rattle.star_spec.specs.Flow.{on}
use Rattle.value_spec.specs.Outcomes.{done}
use Rattle.star_eval.specs.Frames.{around_bag}
use Rattle.star_eval.specs.Meets.{arena_of, state_of}
use Rattle.star_eval.specs.View.{arena_in, bag_of, clauses_frame, setting_of, waiting_in}
use Rattle.star_eval.specs.Waiting.{clauses_end, unwind_bag}
use Rattle.star_eval.proofs.Going.{goes}
use Rattle.star_eval.proofs.Growing.{bag_kept, kept}
use Rattle.star_eval.proofs.went.next_clause_turn.Goals as goal

pub returns-in_ok-end-in-WalkEnd : goal.returns-in_ok-end-in-WalkEnd
returns-in_ok-end-in-WalkEnd c =
    let m = c.args.m.now in
    let a = arena_in m in
    let s = c.end.new.session in
    let e = c.in_ok-end-in-WalkEnd.ensures in
    let k = kept m s e.grows c.requires.sound in
    let b = bag_kept a (arena_of s) m.code.file e.grows c.args.bag c.requires.bag in
    record {
      same = (λ i. unwind_bag (k.setting i) (k.nodes i) (k.waiting i) (done (on (b.1 i)) (e.state i)))
          ∙ (λ i. around_bag m (waiting_in m) (clauses_end (setting_of m) (clauses_frame a m.code.file (sym c.in-WalkEnd.is i)) (done (on (bag_of a m.code.file c.args.bag)) (state_of m.session))));
      sound = k.sound;
      owned = b.0;
      grows = k.grows;
    }

pub returns-in-Turn : goal.returns-in-Turn
returns-in-Turn c =
    let m = c.args.m.now in
    goes _ c.clause_turn.result c.clause_turn.new.m
    (sym (λ i. around_bag m (waiting_in m) (clauses_end (setting_of m) (clauses_frame (arena_in m) m.code.file (c.in-Turn.is i)) (done (on (bag_of (arena_in m) m.code.file c.args.bag)) (state_of m.session)))))
    c.clause_turn.ensures
