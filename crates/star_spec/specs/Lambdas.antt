-- The lambda with a number in code.
use Rattle.std.specs.Prelude.{ℕ, Bool, true, false, Option, Some, None, nat_eq}
use Rattle.code_spec.specs.Code as code
use Rattle.code_spec.specs.Code.{Expr, Exprs, no_exprs, an_expr, OptionalExpr, absent, present, Entries, no_entries, an_entry, Clauses, no_clauses, for_clause, if_clause, Pieces, no_pieces, text_piece, expr_piece, Parameters, no_parameters, required, defaulted, bare_star, starred_parameter, double_starred_parameter, Statement, evaluate, assign, augment, load, return, break, continue, pass}
use Rattle.code_spec.specs.Options.{or_else}
use Rattle.star_spec.specs.Calls.{Code, of_lambda}

abbrev pub only_if : {A : Type 0} → Bool → A → Option A
only_if true a = Some a
only_if false a = None

pub record Lambda : Type 0 where
  pub parameters : Parameters
  pub body : Expr

abbrev mutual
  pub lambda_in : ℕ → Expr → Option Lambda
  lambda_in k (code.int p n) = None
  lambda_in k (code.text p t) = None
  lambda_in k (code.name p x) = None
  lambda_in k (code.list p es) = lambda_among k es
  lambda_in k (code.tuple p es) = lambda_among k es
  lambda_in k (code.dict p es) = lambda_in_entries k es
  lambda_in k (code.unary p o a) = lambda_in k a
  lambda_in k (code.binary p o a b) = or_else (lambda_in k a) (lambda_in k b)
  lambda_in k (code.conjunction p a b) = or_else (lambda_in k a) (lambda_in k b)
  lambda_in k (code.disjunction p a b) = or_else (lambda_in k a) (lambda_in k b)
  lambda_in k (code.conditional p c a b) = or_else (lambda_in k a) (or_else (lambda_in k c) (lambda_in k b))
  lambda_in k (code.call p f es) = or_else (lambda_in k f) (lambda_among k es)
  lambda_in k (code.named p x e) = lambda_in k e
  lambda_in k (code.starred p e) = lambda_in k e
  lambda_in k (code.double_starred p e) = lambda_in k e
  lambda_in k (code.index p a i) = or_else (lambda_in k a) (lambda_in k i)
  lambda_in k (code.slice p a l h d) = or_else (lambda_in k a) (or_else (lambda_in_part k l) (or_else (lambda_in_part k h) (lambda_in_part k d)))
  lambda_in k (code.attribute p a x) = lambda_in k a
  lambda_in k (code.lambda p n ps e) = or_else (only_if (nat_eq k n) (record { parameters = ps; body = e })) (or_else (lambda_in_parameters k ps) (lambda_in k e))
  lambda_in k (code.list_comprehension p e cs) = or_else (lambda_in k e) (lambda_in_clauses k cs)
  lambda_in k (code.dict_comprehension p a b cs) = or_else (lambda_in k a) (or_else (lambda_in k b) (lambda_in_clauses k cs))
  lambda_in k (code.text_template p ps) = lambda_in_pieces k ps

  pub lambda_among : ℕ → Exprs → Option Lambda
  lambda_among k no_exprs = None
  lambda_among k (an_expr e es) = or_else (lambda_in k e) (lambda_among k es)

  pub lambda_in_part : ℕ → OptionalExpr → Option Lambda
  lambda_in_part k absent = None
  lambda_in_part k (present e) = lambda_in k e

  pub lambda_in_entries : ℕ → Entries → Option Lambda
  lambda_in_entries k no_entries = None
  lambda_in_entries k (an_entry a b es) = or_else (lambda_in k a) (or_else (lambda_in k b) (lambda_in_entries k es))

  pub lambda_in_clauses : ℕ → Clauses → Option Lambda
  lambda_in_clauses k no_clauses = None
  lambda_in_clauses k (for_clause x e cs) = or_else (lambda_in k x) (or_else (lambda_in k e) (lambda_in_clauses k cs))
  lambda_in_clauses k (if_clause e cs) = or_else (lambda_in k e) (lambda_in_clauses k cs)

  pub lambda_in_pieces : ℕ → Pieces → Option Lambda
  lambda_in_pieces k no_pieces = None
  lambda_in_pieces k (text_piece t ps) = lambda_in_pieces k ps
  lambda_in_pieces k (expr_piece e ps) = or_else (lambda_in k e) (lambda_in_pieces k ps)

  pub lambda_in_parameters : ℕ → Parameters → Option Lambda
  lambda_in_parameters k no_parameters = None
  lambda_in_parameters k (required x ps) = lambda_in_parameters k ps
  lambda_in_parameters k (defaulted x e ps) = or_else (lambda_in k e) (lambda_in_parameters k ps)
  lambda_in_parameters k (bare_star ps) = lambda_in_parameters k ps
  lambda_in_parameters k (starred_parameter x ps) = lambda_in_parameters k ps
  lambda_in_parameters k (double_starred_parameter x ps) = lambda_in_parameters k ps

abbrev pub lambda_in_statement : ℕ → Statement → Option Lambda
lambda_in_statement k (evaluate p e) = lambda_in k e
lambda_in_statement k (assign p x e) = or_else (lambda_in k x) (lambda_in k e)
lambda_in_statement k (augment p o q x e) = or_else (lambda_in k x) (lambda_in k e)
lambda_in_statement k (load p path xs) = None
lambda_in_statement k (return p e) = lambda_in k e
lambda_in_statement k (break p) = None
lambda_in_statement k (continue p) = None
lambda_in_statement k (pass p) = None

-- its code, in a template and in a program alike
abbrev pub lambda_code : {B : Type 0} → Option Lambda → Option (Code B)
lambda_code None = None
lambda_code (Some l) = Some (of_lambda l.parameters l.body)
