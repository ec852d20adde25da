use Rattle.std.proofs.Common.{◌≡◌, ◌++◌, ℕ, drop}
use Rattle.star_functions.specs.Numbered.{clauses_functions, entries_functions, exprs_functions, parameters_functions, pieces_functions}
use Rattle.star_functions.specs.View.{all_of}
use Rattle.star_tree.specs.Listed.{clauses_of, entries_of, pieces_of}
use Rattle.star_tree.specs.Whole.{exprs_of, parameters_of}
use Rattle.star_functions.proofs.exprs.+exprs.Given as goal

abbrev pub invariant-find_in_clauses-loop-clause : goal.invariant-find_in_clauses-loop-clause
invariant-find_in_clauses-loop-clause l =
    (file : ℕ) → all_of file l.found ++ clauses_functions (clauses_of file (drop l.clause-index l.clauses)) ≡ all_of file l.initial.found ++ clauses_functions (clauses_of file l.clauses)

abbrev pub invariant-find_in_entries-loop-entry : goal.invariant-find_in_entries-loop-entry
invariant-find_in_entries-loop-entry l =
    (file : ℕ) → all_of file l.found ++ entries_functions (entries_of file (drop l.entry-index l.entries)) ≡ all_of file l.initial.found ++ entries_functions (entries_of file l.entries)

abbrev pub invariant-find_in_exprs-loop-expr : goal.invariant-find_in_exprs-loop-expr
invariant-find_in_exprs-loop-expr l =
    (file : ℕ) → all_of file l.found ++ exprs_functions (exprs_of file (drop l.expr-index l.exprs)) ≡ all_of file l.initial.found ++ exprs_functions (exprs_of file l.exprs)

abbrev pub invariant-find_in_params-loop-param : goal.invariant-find_in_params-loop-param
invariant-find_in_params-loop-param l =
    (file : ℕ) → all_of file l.found ++ parameters_functions (parameters_of file (drop l.param-index l.params)) ≡ all_of file l.initial.found ++ parameters_functions (parameters_of file l.params)

abbrev pub invariant-find_in_pieces-loop-piece : goal.invariant-find_in_pieces-loop-piece
invariant-find_in_pieces-loop-piece l =
    (file : ℕ) → all_of file l.found ++ pieces_functions (pieces_of file (drop l.piece-index l.pieces)) ≡ all_of file l.initial.found ++ pieces_functions (pieces_of file l.pieces)
