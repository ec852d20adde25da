-- Starlark code as plain data: expressions, each with the place of the token that it stands at, their arguments,
-- clauses and parameters, and simple statements.
use Rattle.std.specs.Prelude.{ℤ, ℕ, List}
use Rattle.ytt_base.specs.declared.fault.Place.{Place}

-- a name, by its bytes
abbrev pub Name : Type 0
Name = List ℕ

-- `-a`, `+a`, `~a`, `not a`
pub data UnaryOperator : Type 0 where
  negation : UnaryOperator
  positive : UnaryOperator
  inversion : UnaryOperator
  logical_not : UnaryOperator

-- `+ - * // %`, `& | ^ << >>`, `== != < > <= >=`, `in` and `not in`
pub data BinaryOperator : Type 0 where
  addition : BinaryOperator
  subtraction : BinaryOperator
  multiplication : BinaryOperator
  floor_division : BinaryOperator
  remainder : BinaryOperator
  bit_and : BinaryOperator
  bit_or : BinaryOperator
  bit_xor : BinaryOperator
  shift_left : BinaryOperator
  shift_right : BinaryOperator
  equal : BinaryOperator
  unequal : BinaryOperator
  less : BinaryOperator
  greater : BinaryOperator
  at_most : BinaryOperator
  at_least : BinaryOperator
  contained : BinaryOperator
  not_contained : BinaryOperator

mutual
  -- A literal or a name stands at itself, an operation, `and` and `or` at the operator, a conditional at its `if`, a call,
  -- an index, a slice, a display and a comprehension at the opening bracket, a tuple without brackets at its first
  -- token, an attribute at the dot. A text is its bytes in UTF-8. An argument of a call may be `named` (`x=e`),
  -- `starred` (`*e`) or `double_starred` (`**e`). A lambda has a number in its file. A text template is what stands in
  -- a text between `(@=` and `@)`, with the text around it.
  pub data Expr : Type 0 where
    int : Place → ℤ → Expr
    text : Place → List ℕ → Expr
    name : Place → Name → Expr
    list : Place → Exprs → Expr
    tuple : Place → Exprs → Expr
    dict : Place → Entries → Expr
    unary : Place → UnaryOperator → Expr → Expr
    binary : Place → BinaryOperator → Expr → Expr → Expr
    conjunction : Place → Expr → Expr → Expr
    disjunction : Place → Expr → Expr → Expr
    conditional : Place → (test then_value else_value : Expr) → Expr
    call : Place → (function : Expr) → Exprs → Expr
    named : Place → Name → Expr → Expr
    starred : Place → Expr → Expr
    double_starred : Place → Expr → Expr
    index : Place → Expr → (at : Expr) → Expr
    slice : Place → Expr → (low high step : OptionalExpr) → Expr
    attribute : Place → Expr → Name → Expr
    lambda : Place → (number : ℕ) → Parameters → Expr → Expr
    list_comprehension : Place → Expr → Clauses → Expr
    dict_comprehension : Place → (key value : Expr) → Clauses → Expr
    text_template : Place → Pieces → Expr

  -- the arguments of a note or of a call, the members of a display, in their order
  pub data Exprs : Type 0 where
    no_exprs : Exprs
    an_expr : Expr → Exprs → Exprs

  -- a part that may be left out
  pub data OptionalExpr : Type 0 where
    absent : OptionalExpr
    present : Expr → OptionalExpr

  -- the entries of a dict display
  pub data Entries : Type 0 where
    no_entries : Entries
    an_entry : (key value : Expr) → Entries → Entries

  -- the clauses of a comprehension
  pub data Clauses : Type 0 where
    no_clauses : Clauses
    for_clause : (target members : Expr) → Clauses → Clauses
    if_clause : Expr → Clauses → Clauses

  -- the pieces of a text template
  pub data Pieces : Type 0 where
    no_pieces : Pieces
    text_piece : List ℕ → Pieces → Pieces
    expr_piece : Expr → Pieces → Pieces

  -- the parameters of a function: `x`, `x=e`, a `*` alone, `*x`, `**x`
  pub data Parameters : Type 0 where
    no_parameters : Parameters
    required : Name → Parameters → Parameters
    defaulted : Name → Expr → Parameters → Parameters
    bare_star : Parameters → Parameters
    starred_parameter : Name → Parameters → Parameters
    double_starred_parameter : Name → Parameters → Parameters

-- the names that a load statement binds, each with the name that it has in the loaded file
pub data LoadedNames : Type 0 where
  no_loaded : LoadedNames
  a_loaded : (bound origin : Name) → LoadedNames → LoadedNames

-- A statement that opens no block, at its line; a target is an expression. An augmented assignment has the place of its
-- operator too. A bare `return` returns the name None.
pub data Statement : Type 0 where
  evaluate : Place → Expr → Statement
  assign : Place → (target value : Expr) → Statement
  augment : Place → BinaryOperator → (operator_place : Place) → (target value : Expr) → Statement
  load : Place → (path : List ℕ) → LoadedNames → Statement
  return : Place → Expr → Statement
  break : Place → Statement
  continue : Place → Statement
  pass : Place → Statement
