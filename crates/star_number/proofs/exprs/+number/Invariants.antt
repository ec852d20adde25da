use Rattle.std.proofs.Common.{◌≡◌, drop, map as each}
use Rattle.code_spec.specs.Numbering.{number_expr}
use Rattle.star_tree.specs.Listed.{clause_of, entry_of, piece_of}
use Rattle.star_tree.specs.Whole.{expr_of, parameter_of}
use Rattle.star_number.specs.Rows.{behind, in_row, number_clause, number_entry, number_parameter, number_piece}
use Rattle.star_number.proofs.exprs.+number.Given as goal

abbrev pub invariant-number_exprs-loop-expr : goal.invariant-number_exprs-loop-expr
invariant-number_exprs-loop-expr l =
    behind (each (expr_of l.file) l.numbered) (in_row number_expr (each (expr_of l.file) (drop l.expr-index l.exprs)) l.next) ≡ in_row number_expr (each (expr_of l.file) l.exprs) l.initial.next

abbrev pub invariant-number_entries-loop-entry : goal.invariant-number_entries-loop-entry
invariant-number_entries-loop-entry l =
    behind (each (entry_of l.file) l.numbered) (in_row number_entry (each (entry_of l.file) (drop l.entry-index l.entries)) l.next) ≡ in_row number_entry (each (entry_of l.file) l.entries) l.initial.next

abbrev pub invariant-number_clauses-loop-clause : goal.invariant-number_clauses-loop-clause
invariant-number_clauses-loop-clause l =
    behind (each (clause_of l.file) l.numbered) (in_row number_clause (each (clause_of l.file) (drop l.clause-index l.clauses)) l.next) ≡ in_row number_clause (each (clause_of l.file) l.clauses) l.initial.next

abbrev pub invariant-number_pieces-loop-piece : goal.invariant-number_pieces-loop-piece
invariant-number_pieces-loop-piece l =
    behind (each (piece_of l.file) l.numbered) (in_row number_piece (each (piece_of l.file) (drop l.piece-index l.pieces)) l.next) ≡ in_row number_piece (each (piece_of l.file) l.pieces) l.initial.next

abbrev pub invariant-number_params-loop-param : goal.invariant-number_params-loop-param
invariant-number_params-loop-param l =
    behind (each (parameter_of l.file) l.numbered) (in_row number_parameter (each (parameter_of l.file) (drop l.param-index l.params)) l.next) ≡ in_row number_parameter (each (parameter_of l.file) l.params) l.initial.next
