use Rattle.std.proofs.Common.{List, ◌++◌, ◌∷◌, [], true, ap, sym, ◌∙◌}
use Rattle.code_spec.specs.Names.{clauses_names}
use Rattle.code_spec.specs.Allowed.{parameter_names}
use Rattle.star_tree.specs.Whole.{expr_of, parameters_of}
use Rattle.star_tree.specs.declared.code.Clause as held
use Rattle.star_tree.specs.declared.code.Expr.{Expr}
use Rattle.star_resolve.specs.declared.event.Event.{Event}
use Rattle.star_resolve.specs.declared.event.Event.TheVariants as event
use Rattle.star_resolve.specs.Events.{clauses_events, expr_events, parameters_events}
use Rattle.star_resolve.specs.Functions.{scope_size}
use Rattle.star_tree.specs.Listed.{clauses_of}
use Rattle.star_resolve.proofs.Clauses.{clauses_turn, first_for, later_for, test_of}
use Rattle.star_resolve.proofs.Putting.{put_after, put_same, put_then}
use Rattle.star_tree.proofs.Forms.{expr_of-DictFor, expr_of-Lambda, expr_of-ListFor}
use Rattle.star_resolve.proofs.walk.+walk.Goals as goal
use Rattle.star_resolve.proofs.walk.+walk.Goals.{put_clauses-in-ForIn+in_ok-put_expr-in-ForIn+then-waiting+in_ok-put_leave-in-ForIn+in_ok-put_expr-in-ForIn-2+in_ok-put_enter-in-ForIn, put_clauses-in-ForIn+in_ok-put_expr-in-ForIn+else-waiting+in_ok-put_expr-in-ForIn-3, put_clauses-in-OnlyIf+in_ok-put_expr-in-OnlyIf}

pub put_expr-returns-in_ok-put_expr-in-Lambda : goal.put_expr-returns-in_ok-put_expr-in-Lambda
put_expr-returns-in_ok-put_expr-in-Lambda t c =
    let file = c.args.file in
    let r = c.put_leave.result in
    let old = c.args.events.now in
    let new = c.put_leave.new.events in
    let announced = c.put_function.new.events in
    let after_params = c.put_params.new.events in
    let names = parameter_names (parameters_of file c.in-Lambda.params) in
    let bound = c.in_ok-bound-in-Lambda.ensures file in
    let stands = c.in_ok-put_function-in-Lambda.ensures ∙ ap (λ xs. old ++ event.Function (scope_size xs) ∷ []) bound in
    let entered = c.in_ok-push-in-Lambda.ensures.ok ∙ ap (λ xs. after_params ++ event.Enter xs ∷ []) bound in
    put_same r old new _ _
    (put_after r old announced new (event.Function (scope_size names) ∷ []) _ stands
    (put_after r announced after_params new _ _ c.in_ok-put_params-in-Lambda.ensures
    (put_after r after_params c.push.new.self new (event.Enter names ∷ []) _ entered
    (put_after r c.push.new.self c.put_expr-in-Lambda.new.events new _ _ c.in_ok-put_expr-in-Lambda.ensures c.put_leave.ensures))))
    (ap (λ e. expr_events (expr_of file e)) c.in-Lambda.is
    ∙ ap expr_events (expr_of-Lambda file _ _ _ _)
    ∙ ap (λ e. event.Function (scope_size names) ∷ (parameters_events (parameters_of file c.in-Lambda.params) ++ (event.Enter names ∷ (expr_events (expr_of file e) ++ event.Leave ∷ [])))) (sym c.get-in-Lambda.ensures))

pub put_expr-returns-in_ok-put_expr-in-ListFor : goal.put_expr-returns-in_ok-put_expr-in-ListFor
put_expr-returns-in_ok-put_expr-in-ListFor t c =
    let file = c.args.file in
    let r = c.put_clauses.result in
    let old = c.args.events.now in
    let new = c.put_clauses.new.events in
    let names = clauses_names (clauses_of file c.in-ListFor.clauses) in
    put_same r old new _ _
    (put_after r old c.put_enter.new.events new (event.Enter names ∷ []) _ (c.in_ok-put_enter-in-ListFor.ensures file)
    (put_after r c.put_enter.new.events c.put_expr-in-ListFor.new.events new _ _ c.in_ok-put_expr-in-ListFor.ensures c.put_clauses.ensures))
    (ap (λ e. expr_events (expr_of file e)) c.in-ListFor.is
    ∙ ap expr_events (expr_of-ListFor file _ _ _)
    ∙ ap (λ e. event.Enter names ∷ (expr_events (expr_of file e) ++ clauses_events true names (clauses_of file c.in-ListFor.clauses))) (sym c.get-in-ListFor.ensures))

pub put_expr-returns-in_ok-put_expr-in-DictFor-2 : goal.put_expr-returns-in_ok-put_expr-in-DictFor-2
put_expr-returns-in_ok-put_expr-in-DictFor-2 t c =
    let file = c.args.file in
    let r = c.put_clauses-in-DictFor.result in
    let old = c.args.events.now in
    let new = c.put_clauses-in-DictFor.new.events in
    let entered = c.put_enter-in-DictFor.new.events in
    let after_key = c.put_expr-in-DictFor.new.events in
    let names = clauses_names (clauses_of file c.in-DictFor.clauses) in
    put_same r old new _ _
    (put_after r old entered new (event.Enter names ∷ []) _ (c.in_ok-put_enter-in-DictFor.ensures file)
    (put_after r entered after_key new _ _ c.in_ok-put_expr-in-DictFor.ensures
    (put_after r after_key c.put_expr-in-DictFor-2.new.events new _ _ c.in_ok-put_expr-in-DictFor-2.ensures c.put_clauses-in-DictFor.ensures)))
    (ap (λ e. expr_events (expr_of file e)) c.in-DictFor.is
    ∙ ap expr_events (expr_of-DictFor file _ _ _ _)
    ∙ (λ i. event.Enter names ∷ (expr_events (expr_of file (sym c.get-in-DictFor.ensures i)) ++ (expr_events (expr_of file (sym c.get-in-DictFor-2.ensures i)) ++ clauses_events true names (clauses_of file c.in-DictFor.clauses)))))

pub put_clauses-loop-clause-preserved : goal.put_clauses-loop-clause-preserved
put_clauses-loop-clause-preserved t c =
    let file = c.args.file in
    let names = clauses_names (clauses_of file c.args.clauses.now) in
    let now = c.loop-clause.events in
    let x = c.clause-item.result in
    let shown : Expr → List Event = λ e. expr_events (expr_of file e) in
    let turn = clauses_turn file names _ now c.match-clause.events c.args.clauses.now c.loop-clause.clause-index x c.loop-clause.waiting c.match-clause.waiting in
    let lt = rw c.as_slice-clause-items.ensures at c.loop-clause-test.true in
    let here = rw c.as_slice-clause-items.ensures at c.clause-item.is in
    elim c.match-clause.branch [
      | put_clauses-in-ForIn+in_ok-put_expr-in-ForIn+then-waiting+in_ok-put_leave-in-ForIn+in_ok-put_expr-in-ForIn-2+in_ok-put_enter-in-ForIn w ↦
          let one = shown w.get.result.now ++ (event.Leave ∷ (shown w.get-then-waiting.result.now ++ event.Enter names ∷ [])) in
          turn one lt here
          (λ cs. ap (λ b. clauses_events b names (clauses_of file (x ∷ cs))) w.if-waiting.true
          ∙ first_for file names x _ _ (w.in-ForIn.is ∙ (λ i. held.ForIn (sym w.get.ensures i) (sym w.get-then-waiting.ensures i))) cs
          ∙ ap (λ b. one ++ clauses_events b names (clauses_of file cs)) (sym w.waiting-is))
          c.loop-clause.invariant
          (w.events-is
          ∙ put_then now w.put_expr.new.events _ _ _ w.in_ok-put_expr-in-ForIn.ensures
          (put_then w.put_expr.new.events w.put_leave.new.events _ (event.Leave ∷ []) _ w.in_ok-put_leave-in-ForIn.ensures
          (put_then w.put_leave.new.events w.put_expr-then-waiting.new.events _ _ _ w.in_ok-put_expr-in-ForIn-2.ensures (w.in_ok-put_enter-in-ForIn.ensures file))))
      | put_clauses-in-ForIn+in_ok-put_expr-in-ForIn+else-waiting+in_ok-put_expr-in-ForIn-3 w ↦
          let one = shown w.get.result.now ++ shown w.get-else-waiting.result.now in
          turn one lt here
          (λ cs. ap (λ b. clauses_events b names (clauses_of file (x ∷ cs))) w.if-waiting.false
          ∙ later_for file names x _ _ (w.in-ForIn.is ∙ (λ i. held.ForIn (sym w.get.ensures i) (sym w.get-else-waiting.ensures i))) cs
          ∙ ap (λ b. one ++ clauses_events b names (clauses_of file cs)) (sym w.if-waiting.false ∙ sym w.waiting-is))
          c.loop-clause.invariant
          (w.events-is ∙ put_then now w.put_expr.new.events _ _ _ w.in_ok-put_expr-in-ForIn.ensures w.in_ok-put_expr-in-ForIn-3.ensures)
      | put_clauses-in-OnlyIf+in_ok-put_expr-in-OnlyIf w ↦
          let one = shown w.get-in-OnlyIf.result.now in
          turn one lt here
          (λ cs. test_of file c.loop-clause.waiting names x _ (w.in-OnlyIf.is ∙ (λ i. held.OnlyIf (sym w.get-in-OnlyIf.ensures i))) cs
          ∙ ap (λ b. one ++ clauses_events b names (clauses_of file cs)) (sym w.waiting-is))
          c.loop-clause.invariant
          (w.events-is ∙ w.in_ok-put_expr-in-OnlyIf.ensures)
    ]
