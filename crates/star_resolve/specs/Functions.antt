-- What the functions of a program bind, in text order, and how many variables a scope has. The functions are the `def` blocks
-- and the lambdas, in the order of their numbers.
use Rattle.std.specs.Prelude.{ℕ, List, [], ◌∷◌, ◌++◌, length, Option, Some, None}
use Rattle.code_spec.specs.Allowed.{parameter_names}
use Rattle.code_spec.specs.Blocks.{Op, op_part, op_statement, op_if, op_for, op_def, Ops, no_ops, an_op, Arms, no_arm, else_arm, arm, blocks}
use Rattle.code_spec.specs.Code as code
use Rattle.code_spec.specs.Code.{Name, Expr, Exprs, no_exprs, an_expr, OptionalExpr, absent, present, Entries, no_entries, an_entry, Clauses, no_clauses, for_clause, if_clause, Pieces, no_pieces, text_piece, expr_piece, Parameters, no_parameters, required, defaulted, bare_star, starred_parameter, double_starred_parameter, Statement, evaluate, assign, augment, load, return, break, continue, pass}
use Rattle.code_spec.specs.Program.{NodePart, node_start, node_note, node_key, node_key_from, node_value, node_value_from, node_end, Instruction}
use Rattle.code_spec.specs.Scopes.{ops_names}
use Rattle.star_resolve.specs.Variables.{each_once}

-- how many variables a scope has that binds these names
abbrev pub scope_size : List Name → ℕ
scope_size names = length (each_once names)

-- ---- in code

-- a lambda binds its parameters
abbrev mutual
  pub expr_functions : Expr → List (List Name)
  expr_functions (code.int p z) = []
  expr_functions (code.text p t) = []
  expr_functions (code.name p x) = []
  expr_functions (code.list p es) = exprs_functions es
  expr_functions (code.tuple p es) = exprs_functions es
  expr_functions (code.dict p es) = entries_functions es
  expr_functions (code.unary p o a) = expr_functions a
  expr_functions (code.binary p o a b) = expr_functions a ++ expr_functions b
  expr_functions (code.conjunction p a b) = expr_functions a ++ expr_functions b
  expr_functions (code.disjunction p a b) = expr_functions a ++ expr_functions b
  expr_functions (code.conditional p c a b) = expr_functions a ++ (expr_functions c ++ expr_functions b)
  expr_functions (code.call p f es) = expr_functions f ++ exprs_functions es
  expr_functions (code.named p x e) = expr_functions e
  expr_functions (code.starred p e) = expr_functions e
  expr_functions (code.double_starred p e) = expr_functions e
  expr_functions (code.index p a i) = expr_functions a ++ expr_functions i
  expr_functions (code.slice p a l h d) = expr_functions a ++ (optional_functions l ++ (optional_functions h ++ optional_functions d))
  expr_functions (code.attribute p a x) = expr_functions a
  expr_functions (code.lambda p number ps e) = parameter_names ps ∷ (parameters_functions ps ++ expr_functions e)
  expr_functions (code.list_comprehension p e cs) = expr_functions e ++ clauses_functions cs
  expr_functions (code.dict_comprehension p a b cs) = expr_functions a ++ (expr_functions b ++ clauses_functions cs)
  expr_functions (code.text_template p ps) = pieces_functions ps

  pub exprs_functions : Exprs → List (List Name)
  exprs_functions no_exprs = []
  exprs_functions (an_expr e es) = expr_functions e ++ exprs_functions es

  pub optional_functions : OptionalExpr → List (List Name)
  optional_functions absent = []
  optional_functions (present e) = expr_functions e

  pub entries_functions : Entries → List (List Name)
  entries_functions no_entries = []
  entries_functions (an_entry a b es) = expr_functions a ++ (expr_functions b ++ entries_functions es)

  pub clauses_functions : Clauses → List (List Name)
  clauses_functions no_clauses = []
  clauses_functions (for_clause x e cs) = expr_functions x ++ (expr_functions e ++ clauses_functions cs)
  clauses_functions (if_clause e cs) = expr_functions e ++ clauses_functions cs

  pub pieces_functions : Pieces → List (List Name)
  pieces_functions no_pieces = []
  pieces_functions (text_piece t ps) = pieces_functions ps
  pieces_functions (expr_piece e ps) = expr_functions e ++ pieces_functions ps

  pub parameters_functions : Parameters → List (List Name)
  parameters_functions no_parameters = []
  parameters_functions (required x ps) = parameters_functions ps
  parameters_functions (defaulted x e ps) = expr_functions e ++ parameters_functions ps
  parameters_functions (bare_star ps) = parameters_functions ps
  parameters_functions (starred_parameter x ps) = parameters_functions ps
  parameters_functions (double_starred_parameter x ps) = parameters_functions ps

abbrev pub statement_functions : Statement → List (List Name)
statement_functions (evaluate p e) = expr_functions e
statement_functions (assign p x e) = expr_functions x ++ expr_functions e
statement_functions (augment p o q x e) = expr_functions x ++ expr_functions e
statement_functions (load p path xs) = []
statement_functions (return p e) = expr_functions e
statement_functions (break p) = []
statement_functions (continue p) = []
statement_functions (pass p) = []

abbrev pub part_functions : NodePart → List (List Name)
part_functions (node_start p kind holds) = []
part_functions (node_note p x es) = exprs_functions es
part_functions (node_key p x) = []
part_functions (node_key_from p e) = expr_functions e
part_functions (node_value p x) = []
part_functions (node_value_from p e) = expr_functions e
part_functions (node_end p) = []

-- ---- in blocks

-- a `def` binds its parameters and the names of its block
abbrev mutual
  pub op_functions : Op → List (List Name)
  op_functions (op_part o) = part_functions o
  op_functions (op_statement s) = statement_functions s
  op_functions (op_if p branches) = arms_functions branches
  op_functions (op_for p x e body) = expr_functions x ++ (expr_functions e ++ ops_functions body)
  op_functions (op_def p number fragment x ps body) = (parameter_names ps ++ ops_names body) ∷ (parameters_functions ps ++ ops_functions body)

  pub ops_functions : Ops → List (List Name)
  ops_functions no_ops = []
  ops_functions (an_op o os) = op_functions o ++ ops_functions os

  pub arms_functions : Arms → List (List Name)
  arms_functions no_arm = []
  arms_functions (else_arm os) = ops_functions os
  arms_functions (arm e os more) = expr_functions e ++ (ops_functions os ++ arms_functions more)

-- ---- of a program

abbrev pub functions_of_file : Option Ops → List (List Name)
functions_of_file None = []
functions_of_file (Some os) = ops_functions os

abbrev pub program_functions : List Instruction → List (List Name)
program_functions is = functions_of_file (blocks is)
