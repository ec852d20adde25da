-- The plain data that the code of a file stands for, and its programs.
use Rattle.std.specs.Prelude.{ℕ, List, [], ◌∷◌, Option, Some, None, map as each}
use Rattle.std.specs.Option.{option_map}
use Rattle.ytt_base.specs.Outcomes.{place_at}
use Rattle.ytt_base.specs.View.{key_of}
use Rattle.star_tree.specs.View.{holds_of, item_kind_of}
use Rattle.code_spec.specs.Code as plain
use Rattle.code_spec.specs.CodeReading as read
use Rattle.code_spec.specs.Program as program
use Rattle.star_tree.specs.declared.code.UnOp.{UnOp}
use Rattle.star_tree.specs.declared.code.UnOp.TheVariants as unary
use Rattle.star_tree.specs.declared.code.BinOp.{BinOp}
use Rattle.star_tree.specs.declared.code.BinOp.TheVariants as binary
use Rattle.star_tree.specs.declared.code.Expr.{Expr, fold-Expr}
use Rattle.star_tree.specs.declared.code.Param.{Param, fold-Param}
use Rattle.star_tree.specs.declared.code.Clause.TheOpen.{Expr-F, Clause-F, Entry-F, Param-F, Piece-F}
use Rattle.star_tree.specs.declared.code.Header.{Header}
use Rattle.star_tree.specs.declared.code.Header.TheVariants as header
use Rattle.star_tree.specs.declared.code.Loaded.{Loaded}
use Rattle.star_tree.specs.declared.code.NodeOp.{NodeOp}
use Rattle.star_tree.specs.declared.code.NodeOp.TheVariants as node_op
use Rattle.star_tree.specs.declared.code.Stmt.{Stmt}
use Rattle.star_tree.specs.declared.code.Stmt.TheVariants as stmt
use Rattle.star_tree.specs.declared.code.Program.{Program}

abbrev pub unary_operator_of : UnOp → plain.UnaryOperator
unary_operator_of unary.Minus = plain.negation
unary_operator_of unary.Plus = plain.positive
unary_operator_of unary.Invert = plain.inversion
unary_operator_of unary.Not = plain.logical_not

abbrev pub binary_operator_of : BinOp → plain.BinaryOperator
binary_operator_of binary.Add = plain.addition
binary_operator_of binary.Subtract = plain.subtraction
binary_operator_of binary.Multiply = plain.multiplication
binary_operator_of binary.FloorDivide = plain.floor_division
binary_operator_of binary.Remainder = plain.remainder
binary_operator_of binary.BitAnd = plain.bit_and
binary_operator_of binary.BitOr = plain.bit_or
binary_operator_of binary.BitXor = plain.bit_xor
binary_operator_of binary.ShiftLeft = plain.shift_left
binary_operator_of binary.ShiftRight = plain.shift_right
binary_operator_of binary.Equal = plain.equal
binary_operator_of binary.Unequal = plain.unequal
binary_operator_of binary.Less = plain.less
binary_operator_of binary.Greater = plain.greater
binary_operator_of binary.AtMost = plain.at_most
binary_operator_of binary.AtLeast = plain.at_least
binary_operator_of binary.In = plain.contained
binary_operator_of binary.NotIn = plain.not_contained

-- ---- what stands in lists, with each expression inside seen already

pub data Clause : Type 0 where
  for_part : (target members : plain.Expr) → Clause
  if_part : plain.Expr → Clause

pub data Parameter : Type 0 where
  named_part : plain.Name → Parameter
  default_part : plain.Name → plain.Expr → Parameter
  bare_part : Parameter
  star_part : plain.Name → Parameter
  stars_part : plain.Name → Parameter

pub data Piece : Type 0 where
  written_part : List ℕ → Piece
  expr_part : plain.Expr → Piece

pub record Entry : Type 0 where
  pub key : plain.Expr
  pub value : plain.Expr

abbrev pub exprs_from : List plain.Expr → plain.Exprs
exprs_from [] = plain.no_exprs
exprs_from (e ∷ es) = plain.an_expr e (exprs_from es)

abbrev pub entries_from : List Entry → plain.Entries
entries_from [] = plain.no_entries
entries_from (e ∷ es) = plain.an_entry e.key e.value (entries_from es)

abbrev pub clauses_from : List Clause → plain.Clauses
clauses_from [] = plain.no_clauses
clauses_from (for_part t m ∷ cs) = plain.for_clause t m (clauses_from cs)
clauses_from (if_part e ∷ cs) = plain.if_clause e (clauses_from cs)

abbrev pub parameters_from : List Parameter → plain.Parameters
parameters_from [] = plain.no_parameters
parameters_from (named_part x ∷ ps) = plain.required x (parameters_from ps)
parameters_from (default_part x e ∷ ps) = plain.defaulted x e (parameters_from ps)
parameters_from (bare_part ∷ ps) = plain.bare_star (parameters_from ps)
parameters_from (star_part x ∷ ps) = plain.starred_parameter x (parameters_from ps)
parameters_from (stars_part x ∷ ps) = plain.double_starred_parameter x (parameters_from ps)

abbrev pub pieces_from : List Piece → plain.Pieces
pieces_from [] = plain.no_pieces
pieces_from (written_part t ∷ ps) = plain.text_piece t (pieces_from ps)
pieces_from (expr_part e ∷ ps) = plain.expr_piece e (pieces_from ps)

abbrev pub optional_from : Option plain.Expr → plain.OptionalExpr
optional_from None = plain.absent
optional_from (Some e) = plain.present e

-- ---- one level

abbrev pub expr_step : (file : ℕ) → Expr-F Clause Entry plain.Expr Parameter Piece → plain.Expr
expr_step file (Expr-F.Int l z) = plain.int (place_at file l) z
expr_step file (Expr-F.Text l t) = plain.text (place_at file l) t
expr_step file (Expr-F.Name l x) = plain.name (place_at file l) x
expr_step file (Expr-F.List l es) = plain.list (place_at file l) (exprs_from es)
expr_step file (Expr-F.Tuple l es) = plain.tuple (place_at file l) (exprs_from es)
expr_step file (Expr-F.Dict l es) = plain.dict (place_at file l) (entries_from es)
expr_step file (Expr-F.Unary l op a) = plain.unary (place_at file l) (unary_operator_of op) a
expr_step file (Expr-F.Binary l op a b) = plain.binary (place_at file l) (binary_operator_of op) a b
expr_step file (Expr-F.And l a b) = plain.conjunction (place_at file l) a b
expr_step file (Expr-F.Or l a b) = plain.disjunction (place_at file l) a b
expr_step file (Expr-F.If l c a b) = plain.conditional (place_at file l) c a b
expr_step file (Expr-F.Call l f es) = plain.call (place_at file l) f (exprs_from es)
expr_step file (Expr-F.Named l x e) = plain.named (place_at file l) x e
expr_step file (Expr-F.Star l e) = plain.starred (place_at file l) e
expr_step file (Expr-F.Stars l e) = plain.double_starred (place_at file l) e
expr_step file (Expr-F.Index l a i) = plain.index (place_at file l) a i
expr_step file (Expr-F.Slice l a i j k) = plain.slice (place_at file l) a (optional_from i) (optional_from j) (optional_from k)
expr_step file (Expr-F.Dot l a x) = plain.attribute (place_at file l) a x
expr_step file (Expr-F.Lambda l k ps e) = plain.lambda (place_at file l) k (parameters_from ps) e
expr_step file (Expr-F.ListFor l e cs) = plain.list_comprehension (place_at file l) e (clauses_from cs)
expr_step file (Expr-F.DictFor l k v cs) = plain.dict_comprehension (place_at file l) k v (clauses_from cs)
expr_step file (Expr-F.Template l ps) = plain.text_template (place_at file l) (pieces_from ps)

abbrev pub clause_step : Clause-F Clause Entry plain.Expr Parameter Piece → Clause
clause_step (Clause-F.ForIn t m) = for_part t m
clause_step (Clause-F.OnlyIf e) = if_part e

abbrev pub parameter_step : Param-F Clause Entry plain.Expr Parameter Piece → Parameter
parameter_step (Param-F.Required x) = named_part x
parameter_step (Param-F.Defaulted x e) = default_part x e
parameter_step Param-F.BareStar = bare_part
parameter_step (Param-F.Starred x) = star_part x
parameter_step (Param-F.DoubleStarred x) = stars_part x

abbrev pub piece_step : Piece-F Clause Entry plain.Expr Parameter Piece → Piece
piece_step (Piece-F.Written t) = written_part t
piece_step (Piece-F.Shown e) = expr_part e

abbrev pub entry_step : Entry-F Clause Entry plain.Expr Parameter Piece → Entry
entry_step (Entry-F.Pair k v) = record { key = k; value = v }

-- the expression, in a file of this number
abbrev pub expr_of : (file : ℕ) → Expr → plain.Expr
expr_of file = fold-Expr Clause Entry plain.Expr Parameter Piece clause_step entry_step (expr_step file) parameter_step piece_step

abbrev pub parameter_of : (file : ℕ) → Param → Parameter
parameter_of file = fold-Param Clause Entry plain.Expr Parameter Piece clause_step entry_step (expr_step file) parameter_step piece_step

abbrev pub exprs_of : (file : ℕ) → List Expr → plain.Exprs
exprs_of file es = exprs_from (each (expr_of file) es)

abbrev pub parameters_of : (file : ℕ) → List Param → plain.Parameters
parameters_of file ps = parameters_from (each (parameter_of file) ps)

abbrev pub loaded_names_of : List Loaded → plain.LoadedNames
loaded_names_of [] = plain.no_loaded
loaded_names_of (x ∷ xs) = plain.a_loaded x.bound x.origin (loaded_names_of xs)

-- ---- parts of nodes; code in one stands in a file of this number

abbrev pub part_of : (file : ℕ) → NodeOp → program.NodePart
part_of file (node_op.Start p kind h) = program.node_start p (item_kind_of kind) (holds_of h)
part_of file (node_op.Note p x es) = program.node_note p x (exprs_of file es)
part_of file (node_op.Key p k) = program.node_key p (key_of k)
part_of file (node_op.KeyFrom p e) = program.node_key_from p (expr_of file e)
part_of file (node_op.Value p k) = program.node_value p (key_of k)
part_of file (node_op.ValueFrom p e) = program.node_value_from p (expr_of file e)
part_of file (node_op.End p) = program.node_end p

-- ---- statements

abbrev pub instruction_of : (file : ℕ) → Stmt → program.Instruction
instruction_of file (stmt.Expr l e) = program.statement (plain.evaluate (place_at file l) (expr_of file e))
instruction_of file (stmt.Assign l t e) = program.statement (plain.assign (place_at file l) (expr_of file t) (expr_of file e))
instruction_of file (stmt.Augment l op o t e) = program.statement (plain.augment (place_at file l) (binary_operator_of op) (place_at file o) (expr_of file t) (expr_of file e))
instruction_of file (stmt.Load l t xs) = program.statement (plain.load (place_at file l) t (loaded_names_of xs))
instruction_of file (stmt.Return l e) = program.statement (plain.return (place_at file l) (expr_of file e))
instruction_of file (stmt.Break l) = program.statement (plain.break (place_at file l))
instruction_of file (stmt.Continue l) = program.statement (plain.continue (place_at file l))
instruction_of file (stmt.Pass l) = program.statement (plain.pass (place_at file l))
instruction_of file (stmt.If l e) = program.begin_if (place_at file l) (expr_of file e)
instruction_of file (stmt.Elif l e) = program.begin_elif (place_at file l) (expr_of file e)
instruction_of file (stmt.Else l) = program.begin_else (place_at file l)
instruction_of file (stmt.For l t e) = program.begin_for (place_at file l) (expr_of file t) (expr_of file e)
instruction_of file (stmt.Def l k fragment x ps) = program.begin_def (place_at file l) k (option_map item_kind_of fragment) x (parameters_of file ps)
instruction_of file (stmt.Close l) = program.close (place_at file l)
instruction_of file (stmt.Node o) = program.part (part_of file o)

abbrev pub instructions_of : (file : ℕ) → List Stmt → List program.Instruction
instructions_of file ss = each (instruction_of file) ss

abbrev pub program_of : Program → List program.Instruction
program_of p = instructions_of p.file p.code

-- ---- heads and ends of blocks in a template

abbrev pub header_of : (file : ℕ) → Header → read.Header
header_of file (header.If e) = read.if_header (expr_of file e)
header_of file (header.Elif e) = read.elif_header (expr_of file e)
header_of file header.Else = read.else_header
header_of file (header.For t e) = read.for_header (expr_of file t) (expr_of file e)
header_of file (header.Def x ps) = read.def_header x (parameters_of file ps)
header_of file header.End = read.end_header
