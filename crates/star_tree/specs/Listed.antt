-- The plain data of parts of code.
use Rattle.std.specs.Prelude.{ℕ, List, Option, Some, None, map as each}
use Rattle.code_spec.specs.Code as plain
use Rattle.star_tree.specs.declared.code.Clause.{Clause, fold-Clause}
use Rattle.star_tree.specs.declared.code.Entry.{Entry, fold-Entry}
use Rattle.star_tree.specs.declared.code.Piece.{Piece, fold-Piece}
use Rattle.star_tree.specs.declared.code.Expr.{Expr}
use Rattle.star_tree.specs.Whole as whole
use Rattle.star_tree.specs.Whole.{clause_step, clauses_from, entries_from, entry_step, expr_of, expr_step, parameter_step, piece_step, pieces_from}

abbrev pub clause_of : (file : ℕ) → Clause → whole.Clause
clause_of file = fold-Clause whole.Clause whole.Entry plain.Expr whole.Parameter whole.Piece clause_step entry_step (expr_step file) parameter_step piece_step

abbrev pub entry_of : (file : ℕ) → Entry → whole.Entry
entry_of file = fold-Entry whole.Clause whole.Entry plain.Expr whole.Parameter whole.Piece clause_step entry_step (expr_step file) parameter_step piece_step

abbrev pub piece_of : (file : ℕ) → Piece → whole.Piece
piece_of file = fold-Piece whole.Clause whole.Entry plain.Expr whole.Parameter whole.Piece clause_step entry_step (expr_step file) parameter_step piece_step

abbrev pub clauses_of : (file : ℕ) → List Clause → plain.Clauses
clauses_of file cs = clauses_from (each (clause_of file) cs)

abbrev pub entries_of : (file : ℕ) → List Entry → plain.Entries
entries_of file es = entries_from (each (entry_of file) es)

abbrev pub pieces_of : (file : ℕ) → List Piece → plain.Pieces
pieces_of file ps = pieces_from (each (piece_of file) ps)

abbrev pub optional_of : (file : ℕ) → Option Expr → plain.OptionalExpr
optional_of file None = plain.absent
optional_of file (Some e) = plain.present (expr_of file e)
