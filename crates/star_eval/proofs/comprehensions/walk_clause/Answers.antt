use Rattle.std.proofs.Common.{◌++◌, ◌∷◌, [], ap, ◌∙◌, subst, sym, refl}
use Rattle.star_spec.specs.Flow.{turns}
use Rattle.star_tree.specs.Listed.{clauses_of}
use Rattle.star_tree.specs.Whole.{expr_of}
use Rattle.star_values.specs.Owns.{Grows}
use Rattle.star_eval.specs.declared.frame.Frame.TheVariants as frame
use Rattle.star_eval.specs.declared.frame.InClauses.TheVariants as in_clauses_frame
use Rattle.star_eval.specs.declared.frame.Machine.{Machine}
use Rattle.star_eval.specs.Meets.{arena_of, state_of}
use Rattle.star_eval.specs.Sources.{left_of}
use Rattle.star_eval.specs.View.{arena_in, bag_of, nodes_in, setting_of, waiting_in}
use Rattle.star_eval.specs.Waiting.{clause_turn_of, unwind_bag}
use Rattle.star_eval.proofs.Going.{goes_after}
use Rattle.star_eval.proofs.Growing.{bag_kept, kept, walked_kept}
use Rattle.star_eval.proofs.Walks.{pushed_sound, pushed_waits}
use Rattle.star_eval.proofs.comprehensions.walk_clause.Goals as goal

pub clause_turn-requires-clause-sound : goal.clause_turn-requires-clause-sound
clause_turn-requires-clause-sound c =
    let m = c.args.m.now in
    let s = c.begin.new.session in
    let g = c.in_ok-members.ensures.begins.grows in
    let ends = frame.Clauses (in_clauses_frame.WalkEnd c.args.object) in
    rw (c.in_ok-push_clauses.ensures) (pushed_sound m s ends (m.frames ++ ends ∷ []) g c.requires.sound (walked_kept (arena_in m) (arena_of s) c.args.object g c.requires.object) (λ i. m.frames ++ ends ∷ []))

pub clause_turn-requires-clause-source : goal.clause_turn-requires-clause-source
clause_turn-requires-clause-source c =
    let m = c.args.m.now in
    rw (c.in_ok-push_clauses.ensures) (rw c.of.ensures c.in_ok-members.ensures.owned)

pub clause_turn-requires-clause-bag : goal.clause_turn-requires-clause-bag
clause_turn-requires-clause-bag c =
    let m = c.args.m.now in
    rw (c.in_ok-push_clauses.ensures) (bag_kept (arena_in m) (arena_of c.begin.new.session) m.code.file c.in_ok-members.ensures.begins.grows c.args.bag c.requires.bag).0

pub returns : goal.returns
returns c =
    let m = c.args.m.now in
    let s = c.begin.new.session in
    let b = c.in_ok-members.ensures.begins in
    let k = kept m s b.grows c.requires.sound in
    let ends = frame.Clauses (in_clauses_frame.WalkEnd c.args.object) in
    let waits = pushed_waits m s ends (m.frames ++ ends ∷ []) b.grows c.requires.sound (walked_kept (arena_in m) (arena_of s) c.args.object b.grows c.requires.object) (λ i. m.frames ++ ends ∷ []) refl in
    let members = ap (left_of (arena_of s)) c.of.ensures ∙ sym c.in_ok-members.ensures.members in
    let gathered = (bag_kept (arena_in m) (arena_of s) m.code.file b.grows c.args.bag c.requires.bag).1 in
    let p = c.args.place in
    let is = c.in_ok-push_clauses.ensures in
    let x = λ (n : Machine). expr_of n.code.file c.args.target.now in
    let cs = λ (n : Machine). clauses_of n.code.file c.args.clauses.now in
    goes_after (arena_in m) (arena_in c.push_clauses.new.m) c.clause_turn.result c.clause_turn.new.m (subst (λ (n : Machine). Grows (arena_in m) (arena_in n)) (sym is) b.grows)
    ((λ i. unwind_bag (setting_of (is i)) (nodes_in (is i)) (waiting_in (is i)) (turns p (clause_turn_of (setting_of (is i)) p (x (is i)) (cs (is i))) (left_of (arena_in (is i)) c.of.result) (bag_of (arena_in (is i)) (is i).code.file c.args.bag) (state_of (is i).session)))
    ∙ (λ i. unwind_bag (k.setting i) (k.nodes i) (waits i) (turns p (clause_turn_of (k.setting i) p (x m) (cs m)) (members i) (gathered i) (b.state i))))
    c.clause_turn.ensures
