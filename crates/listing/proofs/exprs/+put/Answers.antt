use Rattle.std.proofs.Common.{◌++◌, refl, sym, ap, ◌∙◌, append_assoc, codes, string_bytes, rules}
use Rattle.listing_spec.specs.Listing.{clauses_phrases, entries_phrases, expr_phrase, exprs_phrases, parameters_phrases, pieces_phrases}
use Rattle.listing_spec.specs.Phrases.{phrase_text, spaced_text}
use Rattle.listing.specs.Forms.{parameter_phrase, separated_text, spaced_expr, spaced_optional}
use Rattle.star_tree.specs.Listed.{clause_of, clauses_of, entries_of, optional_of, piece_of, pieces_of}
use Rattle.star_tree.specs.Whole.{expr_of, exprs_of, parameter_of, parameters_of}
use Rattle.listing.proofs.Forming.{clauses_first, joined_separated, parameters_closed, parameters_then, pieces_first, put_whole, put_whole_if}
use Rattle.listing.proofs.Pushing.{put_done, put_next, put_same, put_turn}
use Rattle.listing.proofs.exprs.+put.Goals as goal

pub push_expr-returns : goal.push_expr-returns
push_expr-returns t c =
    let file = c.args.file in
    let e = expr_of file c.get-expr.result.now in
    put_same c.push-2.result (string_bytes c.args.out.now) (string_bytes c.push-2.new.out) (c.args.before.now ++ phrase_text (expr_phrase e)) _
    (put_whole_if c.push-2.result (string_bytes c.args.out.now) (string_bytes c.push.new.out) (string_bytes c.push_opening.new.out) (string_bytes c.push_inside.new.out) (string_bytes c.push-2.new.out) c.args.before.now c.closing.result.now e
    c.in_ok-push.ensures c.in_ok-push_opening.ensures c.in_ok-push_inside.ensures c.push-2.ensures (c.closing.ensures file))
    (ap (λ x. c.args.before.now ++ phrase_text (expr_phrase (expr_of file x))) (sym c.get-expr.ensures))

pub push_exprs-loop-expr-preserved : goal.push_exprs-loop-expr-preserved
push_exprs-loop-expr-preserved t c =
    let file = c.args.file in
    put_next _ (string_bytes c.loop-expr.out) (string_bytes c.push-in-loop-expr.new.out) c.args.exprs.now c.loop-expr.expr-index c.expr-item.result (λ es. spaced_text (exprs_phrases (exprs_of file es))) _
    (rw c.as_slice-expr-items.ensures at c.loop-expr-test.true) (rw c.as_slice-expr-items.ensures at c.expr-item.is) (λ ys. refl) c.loop-expr.invariant
    (put_whole (string_bytes c.loop-expr.out) (string_bytes c.push.new.out) (string_bytes c.push_opening.new.out) (string_bytes c.push_inside.new.out) _ (codes " ") c.closing.result.now (expr_of file c.expr-item.result)
    c.in_ok-push.ensures c.in_ok-push_opening.ensures c.in_ok-push_inside.ensures c.in_ok-push-2.ensures (c.closing.ensures file))

pub push_exprs-returns : goal.push_exprs-returns
push_exprs-returns t c =
    put_done _ (string_bytes c.loop-expr.out) c.args.exprs.now c.loop-expr.expr-index (λ es. spaced_text (exprs_phrases (exprs_of c.args.file es)))
    (rw c.as_slice-expr-items.ensures at c.loop-expr-test.false) refl c.loop-expr.invariant

pub push_entries-loop-entry-preserved : goal.push_entries-loop-entry-preserved
push_entries-loop-entry-preserved t c =
    put_next _ (string_bytes c.loop-entry.out) (string_bytes c.push_entry.new.out) c.args.entries.now c.loop-entry.entry-index c.entry-item.result (λ es. spaced_text (entries_phrases (entries_of c.args.file es))) _
    (rw c.as_slice-entry-items.ensures at c.loop-entry-test.true) (rw c.as_slice-entry-items.ensures at c.entry-item.is) (λ ys. refl) c.loop-entry.invariant c.in_ok-push_entry.ensures

pub push_entries-returns : goal.push_entries-returns
push_entries-returns t c =
    put_done _ (string_bytes c.loop-entry.out) c.args.entries.now c.loop-entry.entry-index (λ es. spaced_text (entries_phrases (entries_of c.args.file es)))
    (rw c.as_slice-entry-items.ensures at c.loop-entry-test.false) refl c.loop-entry.invariant

pub push_clauses-loop-clause-preserved : goal.push_clauses-loop-clause-preserved
push_clauses-loop-clause-preserved t c =
    let file = c.args.file in
    put_next _ (string_bytes c.loop-clause.out) (string_bytes c.push_clause.new.out) c.args.clauses.now c.loop-clause.clause-index c.clause-item.result (λ cs. spaced_text (clauses_phrases (clauses_of file cs))) _
    (rw c.as_slice-clause-items.ensures at c.loop-clause-test.true) (rw c.as_slice-clause-items.ensures at c.clause-item.is) (λ ys. clauses_first (clause_of file c.clause-item.result) _) c.loop-clause.invariant c.in_ok-push_clause.ensures

pub push_clauses-returns : goal.push_clauses-returns
push_clauses-returns t c =
    put_done _ (string_bytes c.loop-clause.out) c.args.clauses.now c.loop-clause.clause-index (λ cs. spaced_text (clauses_phrases (clauses_of c.args.file cs)))
    (rw c.as_slice-clause-items.ensures at c.loop-clause-test.false) refl c.loop-clause.invariant

pub push_pieces-loop-piece-preserved : goal.push_pieces-loop-piece-preserved
push_pieces-loop-piece-preserved t c =
    let file = c.args.file in
    put_next _ (string_bytes c.loop-piece.out) (string_bytes c.push_piece.new.out) c.args.pieces.now c.loop-piece.piece-index c.piece-item.result (λ ps. spaced_text (pieces_phrases (pieces_of file ps))) _
    (rw c.as_slice-piece-items.ensures at c.loop-piece-test.true) (rw c.as_slice-piece-items.ensures at c.piece-item.is) (λ ys. pieces_first (piece_of file c.piece-item.result) _) c.loop-piece.invariant c.in_ok-push_piece.ensures

pub push_pieces-returns : goal.push_pieces-returns
push_pieces-returns t c =
    put_done _ (string_bytes c.loop-piece.out) c.args.pieces.now c.loop-piece.piece-index (λ ps. spaced_text (pieces_phrases (pieces_of c.args.file ps)))
    (rw c.as_slice-piece-items.ensures at c.loop-piece-test.false) refl c.loop-piece.invariant

pub push_params-loop-param-init : goal.push_params-loop-param-init
push_params-loop-param-init t c = (search rules, ap (λ l. string_bytes c.push.new.out ++ l) (joined_separated (parameters_phrases (parameters_of c.args.file c.args.params.now))))

pub push_params-loop-param-preserved : goal.push_params-loop-param-preserved
push_params-loop-param-preserved t c =
    let file = c.args.file in
    let before = c.loop-param.between.now in (
      search rules,
      put_turn _ (string_bytes c.loop-param.out) (string_bytes c.push_param.new.out) c.args.params.now c.loop-param.param-index c.param-item.result
          (λ ps. separated_text before (parameters_phrases (parameters_of file ps))) (λ ps. separated_text (codes " ") (parameters_phrases (parameters_of file ps))) (before ++ phrase_text (parameter_phrase (parameter_of file c.param-item.result)))
          (rw c.as_slice-param-items.ensures at c.loop-param-test.true) (rw c.as_slice-param-items.ensures at c.param-item.is) (λ ys. parameters_then before (parameter_of file c.param-item.result) _) c.loop-param.invariant.1
          (c.in_ok-push_param.ensures ∙ ap (λ l. l ++ phrase_text (parameter_phrase (parameter_of file c.param-item.result))) c.in_ok-push-2.ensures ∙ append_assoc _ before _),
    )

pub push_params-returns : goal.push_params-returns
push_params-returns t c =
    let file = c.args.file in
    parameters_closed c.push-2.result _ (string_bytes c.push.new.out) (string_bytes c.loop-param.out) (string_bytes c.push-2.new.out) (parameters_phrases (parameters_of file c.args.params.now)) c.in_ok-push.ensures
    (put_done _ (string_bytes c.loop-param.out) c.args.params.now c.loop-param.param-index (λ ps. separated_text c.loop-param.between.now (parameters_phrases (parameters_of file ps)))
    (rw c.as_slice-param-items.ensures at c.loop-param-test.false) refl c.loop-param.invariant.1)
    c.push-2.ensures

pub push_optional-returns-in_ok-push_inside-in-Some : goal.push_optional-returns-in_ok-push_inside-in-Some
push_optional-returns-in_ok-push_inside-in-Some t c =
    let file = c.args.file in
    let e = expr_of file c.get-expr.result.now in
    put_same c.push-in-Some.result (string_bytes c.args.out.now) (string_bytes c.push-in-Some.new.out) (spaced_expr e) _
    (put_whole_if c.push-in-Some.result (string_bytes c.args.out.now) (string_bytes c.push.new.out) (string_bytes c.push_opening.new.out) (string_bytes c.push_inside.new.out) (string_bytes c.push-in-Some.new.out) (codes " ") c.closing.result.now e
    c.in_ok-push-in-Some.ensures c.in_ok-push_opening-in-Some.ensures c.in_ok-push_inside-in-Some.ensures c.push-in-Some.ensures (c.closing.ensures file))
    (ap (λ o. spaced_optional (optional_of file o)) c.in-Some.is ∙ ap (λ x. spaced_expr (expr_of file x)) (sym c.get-expr.ensures))
