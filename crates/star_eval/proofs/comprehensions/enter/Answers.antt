use Rattle.std.proofs.Common.{◌++◌, ◌∷◌, [], ap, ◌∙◌, subst, sym, refl}
use Rattle.star_spec.specs.Flow.{next_turn, turns}
use Rattle.star_tree.specs.Listed.{clauses_of}
use Rattle.star_tree.specs.Whole.{expr_of}
use Rattle.star_values.specs.View.{value_of}
use Rattle.value_spec.specs.Outcomes.{then_do}
use Rattle.star_values.specs.Owns.{Grows}
use Rattle.star_eval.specs.declared.frame.Machine.{Machine}
use Rattle.star_eval.specs.declared.frame.Frame.TheVariants as frame
use Rattle.star_eval.specs.declared.frame.InClauses.TheVariants as in_clauses_frame
use Rattle.star_eval.specs.Doing.{assigned, clauses_done}
use Rattle.star_eval.specs.Frames.{around_bag}
use Rattle.star_eval.specs.Meets.{state_of}
use Rattle.star_eval.specs.Sources.{left_of}
use Rattle.star_eval.specs.View.{arena_in, bag_of, nodes_in, setting_of, waiting_in}
use Rattle.star_eval.specs.Waiting.{clause_turn_of, enter_clauses, in_element, unwind_value, with_none}
use Rattle.star_values.proofs.Growing.{grows_same}
use Rattle.star_eval.proofs.Chaining.{none_then}
use Rattle.star_eval.proofs.Going.{goes_after}
use Rattle.star_eval.proofs.Walks.{pushed_sound, pushed_waits}
use Rattle.star_eval.proofs.comprehensions.enter.Goals as goal

pub push_element-requires-clause-sound : goal.push_element-requires-clause-sound
push_element-requires-clause-sound c =
    let m = c.args.m.now in
    let a = arena_in m in
    let turn = frame.Clauses (in_clauses_frame.Turn c.args.place c.args.target c.args.clauses c.args.source) in
    rw (c.in_ok-push_clauses.ensures) (pushed_sound m m.session turn (m.frames ++ turn ∷ []) (grows_same a) c.requires.sound c.requires.source (λ i. m.frames ++ turn ∷ []))

pub push_element-requires-clause-frame : goal.push_element-requires-clause-frame
push_element-requires-clause-frame c = rw (c.in_ok-push_clauses.ensures) c.requires.bag

pub returns : goal.returns
returns c =
    let m = c.args.m.now in
    let a = arena_in m in
    let p = c.args.place in
    let x = expr_of m.code.file c.args.target.now in
    let cs = clauses_of m.code.file c.args.clauses.now in
    let v = value_of a c.args.value in
    let s = state_of m.session in
    let b = bag_of a m.code.file c.args.bag in
    let turn = frame.Clauses (in_clauses_frame.Turn p c.args.target c.args.clauses c.args.source) in
    let waits = pushed_waits m m.session turn (m.frames ++ turn ∷ []) (grows_same a) c.requires.sound c.requires.source (λ i. m.frames ++ turn ∷ []) refl in
    goes_after a (arena_in c.push_clauses.new.m) c.push_element.result c.push_element.new.m (subst (λ (n : Machine). Grows a (arena_in n)) (sym c.in_ok-push_clauses.ensures) (grows_same a))
    ((λ i. unwind_value (setting_of (c.in_ok-push_clauses.ensures i)) (nodes_in (c.in_ok-push_clauses.ensures i)) (in_element (enter_clauses p (clauses_of (c.in_ok-push_clauses.ensures i).code.file c.args.clauses.now) (bag_of (arena_in (c.in_ok-push_clauses.ensures i)) (c.in_ok-push_clauses.ensures i).code.file c.args.bag)) ∷ waiting_in (c.in_ok-push_clauses.ensures i))
    (with_none (assigned (setting_of (c.in_ok-push_clauses.ensures i)) p (expr_of (c.in_ok-push_clauses.ensures i).code.file c.args.target.now) (value_of (arena_in (c.in_ok-push_clauses.ensures i)) c.args.value)) (state_of (c.in_ok-push_clauses.ensures i).session)))
    ∙ (λ i. unwind_value (setting_of m) (nodes_in m) (in_element (enter_clauses p cs b) ∷ waits i) (with_none (assigned (setting_of m) p x v) s))
    ∙ ap (λ r. around_bag m (waiting_in m) (then_do r (next_turn (turns p (clause_turn_of (setting_of m) p x cs) (left_of a c.args.source))))) (none_then (assigned (setting_of m) p x v s) (clauses_done (setting_of m) p cs b)))
    c.push_element.ensures
