use Rattle.std.proofs.Common.{◌∙◌, ap, map as each}
use Rattle.ytt_base.specs.Outcomes.{place_at}
use Rattle.code_spec.specs.Code as plain
use Rattle.code_spec.specs.Numbering.{number_clauses, number_entries, number_expr, number_exprs, number_optional, number_parameters, number_pieces, over_two}
use Rattle.star_tree.specs.Listed.{clause_of, clauses_of, entries_of, entry_of, optional_of, piece_of, pieces_of}
use Rattle.star_tree.specs.Whole.{binary_operator_of, clauses_from, entries_from, expr_of, exprs_from, exprs_of, parameter_of, parameters_from, parameters_of, pieces_from, unary_operator_of}
use Rattle.star_tree.proofs.Copied.{both_copied, copied}
use Rattle.star_tree.proofs.Forms.{expr_of-And, expr_of-Binary, expr_of-Call, expr_of-Dict, expr_of-DictFor, expr_of-Dot, expr_of-If, expr_of-Index, expr_of-Lambda, expr_of-List, expr_of-ListFor, expr_of-Named, expr_of-Or, expr_of-Slice, expr_of-Star, expr_of-Stars, expr_of-Template, expr_of-Tuple, expr_of-Unary}
use Rattle.star_number.specs.Rows.{number_clause, number_entry, number_parameter, number_piece}
use Rattle.star_number.proofs.Formed.{formed, four_parts, given, one_part, seen, three_parts, two_parts}
use Rattle.star_number.proofs.Rows.{clauses_row, entries_row, exprs_row, parameters_row, pieces_row, row_whole}
use Rattle.star_number.proofs.exprs.+number.Goals as goal

pub number_expr-returns-in_ok-members-in-List : goal.number_expr-returns-in_ok-members-in-List
number_expr-returns-in_ok-members-in-List t c =
    let file = c.args.file in
    let w = c.in-List in
    let part = c.in_ok-members-in-List in
    formed file c.args.expr.now _ _ _ c.args.next.now _
    (expr_of-List file w.line part.members)
    (one_part (plain.list (place_at file w.line)) (number_exprs (exprs_of file w.members)) _ _ _ part.ensures)
    (ap (expr_of file) w.is ∙ expr_of-List file w.line w.members)

pub number_expr-returns-in_ok-members-in-Tuple : goal.number_expr-returns-in_ok-members-in-Tuple
number_expr-returns-in_ok-members-in-Tuple t c =
    let file = c.args.file in
    let w = c.in-Tuple in
    let part = c.in_ok-members-in-Tuple in
    formed file c.args.expr.now _ _ _ c.args.next.now _
    (expr_of-Tuple file w.line part.members)
    (one_part (plain.tuple (place_at file w.line)) (number_exprs (exprs_of file w.members)) _ _ _ part.ensures)
    (ap (expr_of file) w.is ∙ expr_of-Tuple file w.line w.members)

pub number_expr-returns-in_ok-entries-in-Dict : goal.number_expr-returns-in_ok-entries-in-Dict
number_expr-returns-in_ok-entries-in-Dict t c =
    let file = c.args.file in
    let w = c.in-Dict in
    let part = c.in_ok-entries-in-Dict in
    formed file c.args.expr.now _ _ _ c.args.next.now _
    (expr_of-Dict file w.line part.entries)
    (one_part (plain.dict (place_at file w.line)) (number_entries (entries_of file w.entries)) _ _ _ part.ensures)
    (ap (expr_of file) w.is ∙ expr_of-Dict file w.line w.entries)

pub number_expr-returns-in_ok-a-in-Unary : goal.number_expr-returns-in_ok-a-in-Unary
number_expr-returns-in_ok-a-in-Unary t c =
    let file = c.args.file in
    let w = c.in-Unary in
    let part = c.in_ok-a-in-Unary in
    formed file c.args.expr.now _ _ _ c.args.next.now _
    (expr_of-Unary file w.line w.op part.a)
    (one_part (plain.unary (place_at file w.line) (unary_operator_of w.op)) (number_expr (expr_of file w.a)) _ _ _ part.ensures)
    (ap (expr_of file) w.is ∙ expr_of-Unary file w.line w.op w.a)

pub number_expr-returns-in_ok-a-in-Binary : goal.number_expr-returns-in_ok-a-in-Binary
number_expr-returns-in_ok-a-in-Binary t c =
    let file = c.args.file in
    let w = c.in-Binary in
    let two = c.in_ok-a-in-Binary in
    formed file c.args.expr.now _ _ _ c.args.next.now _
    (expr_of-Binary file w.line w.op two.a two.b)
    (two_parts (plain.binary (place_at file w.line) (binary_operator_of w.op)) (number_expr (expr_of file w.a)) (number_expr (expr_of file w.b)) _ _ _ _ _ (given (expr_of file) (number_expr (expr_of file w.a)) _ two.a _ _ c.number_boxed-in-Binary.ensures two.ensures.0) (given (expr_of file) (number_expr (expr_of file w.b)) _ two.b _ _ c.number_boxed-in-Binary-2.ensures two.ensures.1))
    (ap (expr_of file) w.is ∙ expr_of-Binary file w.line w.op w.a w.b)

pub number_expr-returns-in_ok-a-in-And : goal.number_expr-returns-in_ok-a-in-And
number_expr-returns-in_ok-a-in-And t c =
    let file = c.args.file in
    let w = c.in-And in
    let two = c.in_ok-a-in-And in
    formed file c.args.expr.now _ _ _ c.args.next.now _
    (expr_of-And file w.line two.a two.b)
    (two_parts (plain.conjunction (place_at file w.line)) (number_expr (expr_of file w.a)) (number_expr (expr_of file w.b)) _ _ _ _ _ (given (expr_of file) (number_expr (expr_of file w.a)) _ two.a _ _ c.number_boxed-in-And.ensures two.ensures.0) (given (expr_of file) (number_expr (expr_of file w.b)) _ two.b _ _ c.number_boxed-in-And-2.ensures two.ensures.1))
    (ap (expr_of file) w.is ∙ expr_of-And file w.line w.a w.b)

pub number_expr-returns-in_ok-a-in-Or : goal.number_expr-returns-in_ok-a-in-Or
number_expr-returns-in_ok-a-in-Or t c =
    let file = c.args.file in
    let w = c.in-Or in
    let two = c.in_ok-a-in-Or in
    formed file c.args.expr.now _ _ _ c.args.next.now _
    (expr_of-Or file w.line two.a two.b)
    (two_parts (plain.disjunction (place_at file w.line)) (number_expr (expr_of file w.a)) (number_expr (expr_of file w.b)) _ _ _ _ _ (given (expr_of file) (number_expr (expr_of file w.a)) _ two.a _ _ c.number_boxed-in-Or.ensures two.ensures.0) (given (expr_of file) (number_expr (expr_of file w.b)) _ two.b _ _ c.number_boxed-in-Or-2.ensures two.ensures.1))
    (ap (expr_of file) w.is ∙ expr_of-Or file w.line w.a w.b)

pub number_expr-returns-in_ok-a-in-If : goal.number_expr-returns-in_ok-a-in-If
number_expr-returns-in_ok-a-in-If t c =
    let file = c.args.file in
    let w = c.in-If in
    let all = c.in_ok-a-in-If in
    let front = both_copied _ _ _ all.a all.test c.both-in-If.ensures all.ensures.0 in
    formed file c.args.expr.now _ _ _ c.args.next.now _
    (expr_of-If file w.line all.test all.a all.b)
    (three_parts (λ x y z. plain.conditional (place_at file w.line) y x z) (number_expr (expr_of file w.a)) (number_expr (expr_of file w.test)) (number_expr (expr_of file w.b)) _ _ _ _ _ _ _
    (given (expr_of file) (number_expr (expr_of file w.a)) _ all.a _ _ c.number_boxed-in-If.ensures front.0) (given (expr_of file) (number_expr (expr_of file w.test)) _ all.test _ _ c.number_boxed-in-If-2.ensures front.1) (given (expr_of file) (number_expr (expr_of file w.b)) _ all.b _ _ c.number_boxed-in-If-3.ensures all.ensures.1))
    (ap (expr_of file) w.is ∙ expr_of-If file w.line w.test w.a w.b)

pub number_expr-returns-in_ok-function-in-Call : goal.number_expr-returns-in_ok-function-in-Call
number_expr-returns-in_ok-function-in-Call t c =
    let file = c.args.file in
    let w = c.in-Call in
    let two = c.in_ok-function-in-Call in
    formed file c.args.expr.now _ _ _ c.args.next.now _
    (expr_of-Call file w.line two.function two.args)
    (two_parts (plain.call (place_at file w.line)) (number_expr (expr_of file w.function)) (number_exprs (exprs_of file w.args)) _ _ _ _ _ (given (expr_of file) (number_expr (expr_of file w.function)) _ two.function _ _ c.number_boxed-in-Call.ensures two.ensures.0) (given (exprs_of file) (number_exprs (exprs_of file w.args)) _ two.args _ _ c.number_exprs-in-Call.ensures two.ensures.1))
    (ap (expr_of file) w.is ∙ expr_of-Call file w.line w.function w.args)

pub number_expr-returns-in_ok-name-in-Named : goal.number_expr-returns-in_ok-name-in-Named
number_expr-returns-in_ok-name-in-Named t c =
    let file = c.args.file in
    let w = c.in-Named in
    let two = c.in_ok-name-in-Named in
    formed file c.args.expr.now _ _ _ c.args.next.now _
    (expr_of-Named file w.line two.name two.a)
    ((λ i. seen (plain.named (place_at file w.line) (copied _ two.name w.name c.copy.ensures two.ensures.0 i) (expr_of file two.a)) c.number_boxed-in-Named.new.next)
    ∙ one_part (plain.named (place_at file w.line) w.name) (number_expr (expr_of file w.a)) _ _ _ (given (expr_of file) (number_expr (expr_of file w.a)) _ two.a _ _ c.number_boxed-in-Named.ensures two.ensures.1))
    (ap (expr_of file) w.is ∙ expr_of-Named file w.line w.name w.a)

pub number_expr-returns-in_ok-a-in-Star : goal.number_expr-returns-in_ok-a-in-Star
number_expr-returns-in_ok-a-in-Star t c =
    let file = c.args.file in
    let w = c.in-Star in
    let part = c.in_ok-a-in-Star in
    formed file c.args.expr.now _ _ _ c.args.next.now _
    (expr_of-Star file w.line part.a)
    (one_part (plain.starred (place_at file w.line)) (number_expr (expr_of file w.a)) _ _ _ part.ensures)
    (ap (expr_of file) w.is ∙ expr_of-Star file w.line w.a)

pub number_expr-returns-in_ok-a-in-Stars : goal.number_expr-returns-in_ok-a-in-Stars
number_expr-returns-in_ok-a-in-Stars t c =
    let file = c.args.file in
    let w = c.in-Stars in
    let part = c.in_ok-a-in-Stars in
    formed file c.args.expr.now _ _ _ c.args.next.now _
    (expr_of-Stars file w.line part.a)
    (one_part (plain.double_starred (place_at file w.line)) (number_expr (expr_of file w.a)) _ _ _ part.ensures)
    (ap (expr_of file) w.is ∙ expr_of-Stars file w.line w.a)

pub number_expr-returns-in_ok-a-in-Index : goal.number_expr-returns-in_ok-a-in-Index
number_expr-returns-in_ok-a-in-Index t c =
    let file = c.args.file in
    let w = c.in-Index in
    let two = c.in_ok-a-in-Index in
    formed file c.args.expr.now _ _ _ c.args.next.now _
    (expr_of-Index file w.line two.a two.b)
    (two_parts (plain.index (place_at file w.line)) (number_expr (expr_of file w.a)) (number_expr (expr_of file w.b)) _ _ _ _ _ (given (expr_of file) (number_expr (expr_of file w.a)) _ two.a _ _ c.number_boxed-in-Index.ensures two.ensures.0) (given (expr_of file) (number_expr (expr_of file w.b)) _ two.b _ _ c.number_boxed-in-Index-2.ensures two.ensures.1))
    (ap (expr_of file) w.is ∙ expr_of-Index file w.line w.a w.b)

pub number_expr-returns-in_ok-high-in-Slice : goal.number_expr-returns-in_ok-high-in-Slice
number_expr-returns-in_ok-high-in-Slice t c =
    let file = c.args.file in
    let w = c.in-Slice in
    let front = c.in_ok-a-in-Slice in
    let back = c.in_ok-high-in-Slice in
    formed file c.args.expr.now _ _ _ c.args.next.now _
    (expr_of-Slice file w.line front.a front.low back.high back.step)
    (four_parts (plain.slice (place_at file w.line)) (number_expr (expr_of file w.a)) (number_optional (optional_of file w.low)) (number_optional (optional_of file w.high)) (number_optional (optional_of file w.step)) _ _ _ _ _ _ _ _ _
    (given (expr_of file) (number_expr (expr_of file w.a)) _ front.a _ _ c.number_boxed-in-Slice.ensures front.ensures.0) (given (optional_of file) (number_optional (optional_of file w.low)) _ front.low _ _ c.number_optional.ensures front.ensures.1)
    (given (optional_of file) (number_optional (optional_of file w.high)) _ back.high _ _ c.number_optional-in-Slice.ensures back.ensures.0) (given (optional_of file) (number_optional (optional_of file w.step)) _ back.step _ _ c.number_optional-in-Slice-2.ensures back.ensures.1))
    (ap (expr_of file) w.is ∙ expr_of-Slice file w.line w.a w.low w.high w.step)

pub number_expr-returns-in_ok-a-in-Dot : goal.number_expr-returns-in_ok-a-in-Dot
number_expr-returns-in_ok-a-in-Dot t c =
    let file = c.args.file in
    let w = c.in-Dot in
    let two = c.in_ok-a-in-Dot in
    formed file c.args.expr.now _ _ _ c.args.next.now _
    (expr_of-Dot file w.line two.a two.name)
    ((λ i. seen (plain.attribute (place_at file w.line) (expr_of file two.a) (copied _ two.name w.name c.copy-in-Dot.ensures two.ensures.1 i)) c.number_boxed-in-Dot.new.next)
    ∙ one_part (λ b. plain.attribute (place_at file w.line) b w.name) (number_expr (expr_of file w.a)) _ _ _ (given (expr_of file) (number_expr (expr_of file w.a)) _ two.a _ _ c.number_boxed-in-Dot.ensures two.ensures.0))
    (ap (expr_of file) w.is ∙ expr_of-Dot file w.line w.a w.name)

pub number_expr-returns-in_ok-params-in-Lambda : goal.number_expr-returns-in_ok-params-in-Lambda
number_expr-returns-in_ok-params-in-Lambda t c =
    let file = c.args.file in
    let w = c.in-Lambda in
    let own = c.in_ok-number-in-Lambda in
    let two = c.in_ok-params-in-Lambda in
    let params = number_parameters (parameters_of file w.params) in
    let body = number_expr (expr_of file w.body) in
    formed file c.args.expr.now _ _ _ c.args.next.now _
    (expr_of-Lambda file w.line own.number two.params two.body)
    (two_parts (plain.lambda (place_at file w.line) own.number) params body _ _ _ _ _ (given (parameters_of file) params _ two.params _ _ c.number_params.ensures two.ensures.0) (given (expr_of file) body _ two.body _ _ c.number_boxed-in-Lambda.ensures two.ensures.1)
    ∙ (λ i. over_two (plain.lambda (place_at file w.line) (own.ensures.number i)) params body (own.ensures.next i)))
    (ap (expr_of file) w.is ∙ expr_of-Lambda file w.line _ w.params w.body)

pub number_expr-returns-in_ok-element-in-ListFor : goal.number_expr-returns-in_ok-element-in-ListFor
number_expr-returns-in_ok-element-in-ListFor t c =
    let file = c.args.file in
    let w = c.in-ListFor in
    let two = c.in_ok-element-in-ListFor in
    formed file c.args.expr.now _ _ _ c.args.next.now _
    (expr_of-ListFor file w.line two.element two.clauses)
    (two_parts (plain.list_comprehension (place_at file w.line)) (number_expr (expr_of file w.element)) (number_clauses (clauses_of file w.clauses)) _ _ _ _ _ (given (expr_of file) (number_expr (expr_of file w.element)) _ two.element _ _ c.number_boxed-in-ListFor.ensures two.ensures.0) (given (clauses_of file) (number_clauses (clauses_of file w.clauses)) _ two.clauses _ _ c.number_clauses.ensures two.ensures.1))
    (ap (expr_of file) w.is ∙ expr_of-ListFor file w.line w.element w.clauses)

pub number_expr-returns-in_ok-key-in-DictFor : goal.number_expr-returns-in_ok-key-in-DictFor
number_expr-returns-in_ok-key-in-DictFor t c =
    let file = c.args.file in
    let w = c.in-DictFor in
    let all = c.in_ok-key-in-DictFor in
    let pair = both_copied _ _ _ all.key all.value c.both-in-DictFor.ensures all.ensures.0 in
    formed file c.args.expr.now _ _ _ c.args.next.now _
    (expr_of-DictFor file w.line all.key all.value all.clauses)
    (three_parts (plain.dict_comprehension (place_at file w.line)) (number_expr (expr_of file w.key)) (number_expr (expr_of file w.value)) (number_clauses (clauses_of file w.clauses)) _ _ _ _ _ _ _
    (given (expr_of file) (number_expr (expr_of file w.key)) _ all.key _ _ c.number_boxed-in-DictFor.ensures pair.0) (given (expr_of file) (number_expr (expr_of file w.value)) _ all.value _ _ c.number_boxed-in-DictFor-2.ensures pair.1) (given (clauses_of file) (number_clauses (clauses_of file w.clauses)) _ all.clauses _ _ c.number_clauses-in-DictFor.ensures all.ensures.1))
    (ap (expr_of file) w.is ∙ expr_of-DictFor file w.line w.key w.value w.clauses)

pub number_expr-returns-in_ok-pieces-in-Template : goal.number_expr-returns-in_ok-pieces-in-Template
number_expr-returns-in_ok-pieces-in-Template t c =
    let file = c.args.file in
    let w = c.in-Template in
    let part = c.in_ok-pieces-in-Template in
    formed file c.args.expr.now _ _ _ c.args.next.now _
    (expr_of-Template file w.line part.pieces)
    (one_part (plain.text_template (place_at file w.line)) (number_pieces (pieces_of file w.pieces)) _ _ _ part.ensures)
    (ap (expr_of file) w.is ∙ expr_of-Template file w.line w.pieces)

pub number_exprs-returns : goal.number_exprs-returns
number_exprs-returns t c =
    let view = expr_of c.args.file in
    row_whole view number_expr exprs_from _ c.args.exprs.now c.loop-expr.numbered c.loop-expr.expr-index c.loop-expr.next c.args.next.now
    (rw c.as_slice-expr-items.ensures at c.loop-expr-test.false) (exprs_row (each view c.args.exprs.now) c.args.next.now) c.loop-expr.invariant

pub number_entries-returns : goal.number_entries-returns
number_entries-returns t c =
    let view = entry_of c.args.file in
    row_whole view number_entry entries_from _ c.args.entries.now c.loop-entry.numbered c.loop-entry.entry-index c.loop-entry.next c.args.next.now
    (rw c.as_slice-entry-items.ensures at c.loop-entry-test.false) (entries_row (each view c.args.entries.now) c.args.next.now) c.loop-entry.invariant

pub number_clauses-returns : goal.number_clauses-returns
number_clauses-returns t c =
    let view = clause_of c.args.file in
    row_whole view number_clause clauses_from _ c.args.clauses.now c.loop-clause.numbered c.loop-clause.clause-index c.loop-clause.next c.args.next.now
    (rw c.as_slice-clause-items.ensures at c.loop-clause-test.false) (clauses_row (each view c.args.clauses.now) c.args.next.now) c.loop-clause.invariant

pub number_pieces-returns : goal.number_pieces-returns
number_pieces-returns t c =
    let view = piece_of c.args.file in
    row_whole view number_piece pieces_from _ c.args.pieces.now c.loop-piece.numbered c.loop-piece.piece-index c.loop-piece.next c.args.next.now
    (rw c.as_slice-piece-items.ensures at c.loop-piece-test.false) (pieces_row (each view c.args.pieces.now) c.args.next.now) c.loop-piece.invariant

pub number_params-returns : goal.number_params-returns
number_params-returns t c =
    let view = parameter_of c.args.file in
    row_whole view number_parameter parameters_from _ c.args.params.now c.loop-param.numbered c.loop-param.param-index c.loop-param.next c.args.next.now
    (rw c.as_slice-param-items.ensures at c.loop-param-test.false) (parameters_row (each view c.args.params.now) c.args.next.now) c.loop-param.invariant
