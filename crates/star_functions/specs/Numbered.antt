-- The functions of code with their numbers, in the order in which one is looked for by its number.
use Rattle.std.specs.Prelude.{ℕ, List, [], ◌∷◌, ◌++◌, Option, None, nat_eq}
use Rattle.code_spec.specs.Blocks.{Op, op_part, op_statement, op_if, op_for, op_def, Ops, no_ops, an_op, Arms, no_arm, else_arm, arm}
use Rattle.code_spec.specs.Code as code
use Rattle.code_spec.specs.Code.{Expr, Exprs, no_exprs, an_expr, OptionalExpr, absent, present, Entries, no_entries, an_entry, Clauses, no_clauses, for_clause, if_clause, Pieces, no_pieces, text_piece, expr_piece, Parameters, no_parameters, required, defaulted, bare_star, starred_parameter, double_starred_parameter, Statement, evaluate, assign, augment, load, return, break, continue, pass}
use Rattle.code_spec.specs.Options.{or_else}
use Rattle.code_spec.specs.Program.{NodePart, node_start, node_note, node_key, node_key_from, node_value, node_value_from, node_end}
use Rattle.star_spec.specs.Calls.{Code, of_def, of_lambda}
use Rattle.star_spec.specs.Lambdas.{only_if}

-- a function with its number
pub record Numbered : Type 0 where
  pub number : ℕ
  pub code : Code Ops

-- the code of the first function with a number
abbrev pub first_with : ℕ → List Numbered → Option (Code Ops)
first_with k [] = None
first_with k (f ∷ fs) = or_else (only_if (nat_eq k f.number) f.code) (first_with k fs)

-- ---- in expressions

abbrev mutual
  pub expr_functions : Expr → List Numbered
  expr_functions (code.int p n) = []
  expr_functions (code.text p t) = []
  expr_functions (code.name p x) = []
  expr_functions (code.list p es) = exprs_functions es
  expr_functions (code.tuple p es) = exprs_functions es
  expr_functions (code.dict p es) = entries_functions es
  expr_functions (code.unary p o a) = expr_functions a
  expr_functions (code.binary p o a b) = expr_functions a ++ expr_functions b
  expr_functions (code.conjunction p a b) = expr_functions a ++ expr_functions b
  expr_functions (code.disjunction p a b) = expr_functions a ++ expr_functions b
  expr_functions (code.conditional p c a b) = expr_functions a ++ (expr_functions c ++ expr_functions b)
  expr_functions (code.call p f es) = expr_functions f ++ exprs_functions es
  expr_functions (code.named p x e) = expr_functions e
  expr_functions (code.starred p e) = expr_functions e
  expr_functions (code.double_starred p e) = expr_functions e
  expr_functions (code.index p a i) = expr_functions a ++ expr_functions i
  expr_functions (code.slice p a l h d) = expr_functions a ++ (optional_functions l ++ (optional_functions h ++ optional_functions d))
  expr_functions (code.attribute p a x) = expr_functions a
  expr_functions (code.lambda p n ps e) = record { number = n; code = of_lambda ps e } ∷ (parameters_functions ps ++ expr_functions e)
  expr_functions (code.list_comprehension p e cs) = expr_functions e ++ clauses_functions cs
  expr_functions (code.dict_comprehension p a b cs) = expr_functions a ++ (expr_functions b ++ clauses_functions cs)
  expr_functions (code.text_template p ps) = pieces_functions ps

  pub exprs_functions : Exprs → List Numbered
  exprs_functions no_exprs = []
  exprs_functions (an_expr e es) = expr_functions e ++ exprs_functions es

  pub optional_functions : OptionalExpr → List Numbered
  optional_functions absent = []
  optional_functions (present e) = expr_functions e

  pub entries_functions : Entries → List Numbered
  entries_functions no_entries = []
  entries_functions (an_entry a b es) = expr_functions a ++ (expr_functions b ++ entries_functions es)

  pub clauses_functions : Clauses → List Numbered
  clauses_functions no_clauses = []
  clauses_functions (for_clause x e cs) = expr_functions x ++ (expr_functions e ++ clauses_functions cs)
  clauses_functions (if_clause e cs) = expr_functions e ++ clauses_functions cs

  pub pieces_functions : Pieces → List Numbered
  pieces_functions no_pieces = []
  pieces_functions (text_piece t ps) = pieces_functions ps
  pieces_functions (expr_piece e ps) = expr_functions e ++ pieces_functions ps

  pub parameters_functions : Parameters → List Numbered
  parameters_functions no_parameters = []
  parameters_functions (required x ps) = parameters_functions ps
  parameters_functions (defaulted x e ps) = expr_functions e ++ parameters_functions ps
  parameters_functions (bare_star ps) = parameters_functions ps
  parameters_functions (starred_parameter x ps) = parameters_functions ps
  parameters_functions (double_starred_parameter x ps) = parameters_functions ps

-- ---- in blocks

abbrev pub statement_functions : Statement → List Numbered
statement_functions (evaluate p e) = expr_functions e
statement_functions (assign p x e) = expr_functions x ++ expr_functions e
statement_functions (augment p o q x e) = expr_functions x ++ expr_functions e
statement_functions (load p path xs) = []
statement_functions (return p e) = expr_functions e
statement_functions (break p) = []
statement_functions (continue p) = []
statement_functions (pass p) = []

abbrev pub part_functions : NodePart → List Numbered
part_functions (node_start p kind holds) = []
part_functions (node_note p x es) = exprs_functions es
part_functions (node_key p x) = []
part_functions (node_key_from p e) = expr_functions e
part_functions (node_value p x) = []
part_functions (node_value_from p e) = expr_functions e
part_functions (node_end p) = []

abbrev mutual
  pub op_functions : Op → List Numbered
  op_functions (op_part o) = part_functions o
  op_functions (op_statement s) = statement_functions s
  op_functions (op_if p more) = arms_functions more
  op_functions (op_for p x e body) = expr_functions x ++ (expr_functions e ++ ops_functions body)
  op_functions (op_def p n fragment x ps body) = record { number = n; code = of_def ps fragment body } ∷ (parameters_functions ps ++ ops_functions body)

  pub ops_functions : Ops → List Numbered
  ops_functions no_ops = []
  ops_functions (an_op o os) = op_functions o ++ ops_functions os

  pub arms_functions : Arms → List Numbered
  arms_functions no_arm = []
  arms_functions (else_arm os) = ops_functions os
  arms_functions (arm e os more) = expr_functions e ++ (ops_functions os ++ arms_functions more)
