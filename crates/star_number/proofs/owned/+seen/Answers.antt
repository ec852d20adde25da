use Rattle.std.proofs.Common.{◌∙◌, refl, subst, sym}
use Rattle.std.proofs.lemmas.List.{drop_all}
use Rattle.star_number.proofs.Kept.{AllKept, Kept, call_kept, if_kept, members_kept, one_kept, turn_kept, two_kept}
use Rattle.star_number.proofs.owned.+seen.Goals.{has_no_lambda-then-has_no_lambda, has_no_lambda-else-has_no_lambda}
use Rattle.star_number.proofs.owned.+seen.Goals as goal

pub has_no_lambda-returns-in-List : goal.has_no_lambda-returns-in-List
has_no_lambda-returns-in-List t c = λ file yes. members_kept file _ _ c.in-List.is (c.none_has_lambda-in-List.ensures file yes)

pub has_no_lambda-returns-in-Unary : goal.has_no_lambda-returns-in-Unary
has_no_lambda-returns-in-Unary t c = λ file yes. one_kept file _ _ c.in-Unary.is (subst (Kept file) c.get-in-Unary.ensures (c.has_no_lambda-in-Unary.ensures file yes))

pub has_no_lambda-returns-then-has_no_lambda-2 : goal.has_no_lambda-returns-then-has_no_lambda-2
has_no_lambda-returns-then-has_no_lambda-2 t c = λ file yes.
    elim c.if-has_no_lambda.branch [
      | has_no_lambda-then-has_no_lambda w ↦
          if_kept file _ _ _ _ _ c.in-If.is (subst (Kept file) c.get.ensures (c.has_no_lambda.ensures file w.if-has_no_lambda.true))
          (subst (Kept file) w.get-then-has_no_lambda.ensures (w.has_no_lambda-then-has_no_lambda.ensures file (sym w.value-is ∙ c.if-has_no_lambda-2.true)))
          (subst (Kept file) c.get-then-has_no_lambda-2.ensures (c.has_no_lambda-then-has_no_lambda-2.ensures file yes))
      | has_no_lambda-else-has_no_lambda w ↦ cc
    ]

pub has_no_lambda-returns-then-has_no_lambda-3 : goal.has_no_lambda-returns-then-has_no_lambda-3
has_no_lambda-returns-then-has_no_lambda-3 t c = λ file yes.
    call_kept file _ _ _ _ c.in-Call.is (subst (Kept file) c.get-in-Call.ensures (c.has_no_lambda-in-Call.ensures file c.if-has_no_lambda-3.true)) (c.none_has_lambda.ensures file yes)

pub has_no_lambda-returns-then-has_no_lambda-4 : goal.has_no_lambda-returns-then-has_no_lambda-4
has_no_lambda-returns-then-has_no_lambda-4 t c = λ file yes.
    two_kept file _ _ _ c.in-Binary.is (subst (Kept file) c.get-in-Binary.ensures (c.has_no_lambda-in-Binary.ensures file c.if-has_no_lambda-4.true))
    (subst (Kept file) c.get-then-has_no_lambda-4.ensures (c.has_no_lambda-then-has_no_lambda-4.ensures file yes))

pub none_has_lambda-loop-expr-preserved : goal.none_has_lambda-loop-expr-preserved
none_has_lambda-loop-expr-preserved t c = λ file rest.
    c.loop-expr.invariant file
    (turn_kept file c.args.exprs.now c.loop-expr.expr-index c.expr-item.result (rw c.as_slice-expr-items.ensures at c.loop-expr-test.true) (rw c.as_slice-expr-items.ensures at c.expr-item.is)
    (c.has_no_lambda.ensures file c.if-not-has_no_lambda.false) rest)

pub none_has_lambda-returns : goal.none_has_lambda-returns
none_has_lambda-returns t c = λ file yes.
    c.loop-expr.invariant file (subst (AllKept file) (sym (drop_all c.loop-expr.expr-index c.args.exprs.now (rw c.as_slice-expr-items.ensures at c.loop-expr-test.false))) (λ n. refl))
