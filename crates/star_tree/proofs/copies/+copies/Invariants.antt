use Rattle.std.proofs.Common.{◌≡◌, take}
use Rattle.star_tree.proofs.copies.+copies.Given as goal

abbrev pub invariant-copy_exprs-loop-expr : goal.invariant-copy_exprs-loop-expr
invariant-copy_exprs-loop-expr l = l.copies ≡ take l.expr-index l.exprs

abbrev pub invariant-copy_entries-loop-entry : goal.invariant-copy_entries-loop-entry
invariant-copy_entries-loop-entry l = l.copies ≡ take l.entry-index l.entries

abbrev pub invariant-copy_clauses-loop-clause : goal.invariant-copy_clauses-loop-clause
invariant-copy_clauses-loop-clause l = l.copies ≡ take l.clause-index l.clauses

abbrev pub invariant-copy_params-loop-param : goal.invariant-copy_params-loop-param
invariant-copy_params-loop-param l = l.copies ≡ take l.param-index l.params

abbrev pub invariant-copy_pieces-loop-piece : goal.invariant-copy_pieces-loop-piece
invariant-copy_pieces-loop-piece l = l.copies ≡ take l.piece-index l.pieces
