-- The numbers of lambdas in code: in text order, from the first one that is free. Each pass gives the code with its
-- numbers, and the next number that is free.
use Rattle.std.specs.Prelude.{ℕ, suc}
use Rattle.code_spec.specs.Code as code
use Rattle.code_spec.specs.Code.{Expr, Exprs, no_exprs, an_expr, OptionalExpr, absent, present, Entries, no_entries, an_entry, Clauses, no_clauses, for_clause, if_clause, Pieces, no_pieces, text_piece, expr_piece, Parameters, no_parameters, required, defaulted, bare_star, starred_parameter, double_starred_parameter, Statement, evaluate, assign, augment, load, return, break, continue, pass}

-- what a pass gives
pub record Passed (A : Type 0) : Type 0 where
  pub result : A
  pub next : ℕ

abbrev pub Pass : Type 0 → Type 0
Pass A = (first : ℕ) → Passed A

abbrev pub keep : {A : Type 0} → A → Pass A
keep a = λ n. record { result = a; next = n }

abbrev pub over_one : {A B : Type 0} → (A → B) → Pass A → Pass B
over_one f a = λ n. record { result = f (a n).result; next = (a n).next }

-- one pass, and then another
abbrev pub over_two : {A B C : Type 0} → (A → B → C) → Pass A → Pass B → Pass C
over_two f a b = λ n. over_one (f (a n).result) b (a n).next

abbrev pub over_three : {A B C D : Type 0} → (A → B → C → D) → Pass A → Pass B → Pass C → Pass D
over_three f a b c = λ n. over_two (f (a n).result) b c (a n).next

abbrev pub over_four : {A B C D E : Type 0} → (A → B → C → D → E) → Pass A → Pass B → Pass C → Pass D → Pass E
over_four f a b c d = λ n. over_three (f (a n).result) b c d (a n).next

-- the next number, and then the rest
abbrev pub numbered_by : {A : Type 0} → (ℕ → Pass A) → Pass A
numbered_by f = λ n. f n (suc n)

abbrev mutual
  pub number_expr : Expr → Pass Expr
  number_expr (code.int p n) = keep (code.int p n)
  number_expr (code.text p t) = keep (code.text p t)
  number_expr (code.name p x) = keep (code.name p x)
  number_expr (code.list p es) = over_one (code.list p) (number_exprs es)
  number_expr (code.tuple p es) = over_one (code.tuple p) (number_exprs es)
  number_expr (code.dict p es) = over_one (code.dict p) (number_entries es)
  number_expr (code.unary p o a) = over_one (code.unary p o) (number_expr a)
  number_expr (code.binary p o a b) = over_two (code.binary p o) (number_expr a) (number_expr b)
  number_expr (code.conjunction p a b) = over_two (code.conjunction p) (number_expr a) (number_expr b)
  number_expr (code.disjunction p a b) = over_two (code.disjunction p) (number_expr a) (number_expr b)
  number_expr (code.conditional p c a b) = over_three (λ x y z. code.conditional p y x z) (number_expr a) (number_expr c) (number_expr b)
  number_expr (code.call p f es) = over_two (code.call p) (number_expr f) (number_exprs es)
  number_expr (code.named p x e) = over_one (code.named p x) (number_expr e)
  number_expr (code.starred p e) = over_one (code.starred p) (number_expr e)
  number_expr (code.double_starred p e) = over_one (code.double_starred p) (number_expr e)
  number_expr (code.index p a i) = over_two (code.index p) (number_expr a) (number_expr i)
  number_expr (code.slice p a l h d) = over_four (code.slice p) (number_expr a) (number_optional l) (number_optional h) (number_optional d)
  number_expr (code.attribute p a x) = over_one (λ b. code.attribute p b x) (number_expr a)
  number_expr (code.lambda p n ps e) = numbered_by (λ k. over_two (code.lambda p k) (number_parameters ps) (number_expr e))
  number_expr (code.list_comprehension p e cs) = over_two (code.list_comprehension p) (number_expr e) (number_clauses cs)
  number_expr (code.dict_comprehension p a b cs) = over_three (code.dict_comprehension p) (number_expr a) (number_expr b) (number_clauses cs)
  number_expr (code.text_template p ps) = over_one (code.text_template p) (number_pieces ps)

  pub number_exprs : Exprs → Pass Exprs
  number_exprs no_exprs = keep no_exprs
  number_exprs (an_expr e es) = over_two an_expr (number_expr e) (number_exprs es)

  pub number_optional : OptionalExpr → Pass OptionalExpr
  number_optional absent = keep absent
  number_optional (present e) = over_one present (number_expr e)

  pub number_entries : Entries → Pass Entries
  number_entries no_entries = keep no_entries
  number_entries (an_entry a b es) = over_three an_entry (number_expr a) (number_expr b) (number_entries es)

  pub number_clauses : Clauses → Pass Clauses
  number_clauses no_clauses = keep no_clauses
  number_clauses (for_clause x e cs) = over_three for_clause (number_expr x) (number_expr e) (number_clauses cs)
  number_clauses (if_clause e cs) = over_two if_clause (number_expr e) (number_clauses cs)

  pub number_pieces : Pieces → Pass Pieces
  number_pieces no_pieces = keep no_pieces
  number_pieces (text_piece t ps) = over_one (text_piece t) (number_pieces ps)
  number_pieces (expr_piece e ps) = over_two expr_piece (number_expr e) (number_pieces ps)

  pub number_parameters : Parameters → Pass Parameters
  number_parameters no_parameters = keep no_parameters
  number_parameters (required x ps) = over_one (required x) (number_parameters ps)
  number_parameters (defaulted x e ps) = over_two (defaulted x) (number_expr e) (number_parameters ps)
  number_parameters (bare_star ps) = over_one bare_star (number_parameters ps)
  number_parameters (starred_parameter x ps) = over_one (starred_parameter x) (number_parameters ps)
  number_parameters (double_starred_parameter x ps) = over_one (double_starred_parameter x) (number_parameters ps)

abbrev pub number_statement : Statement → Pass Statement
number_statement (evaluate p e) = over_one (evaluate p) (number_expr e)
number_statement (assign p x e) = over_two (assign p) (number_expr x) (number_expr e)
number_statement (augment p o q x e) = over_two (augment p o q) (number_expr x) (number_expr e)
number_statement (load p path xs) = keep (load p path xs)
number_statement (return p e) = over_one (return p) (number_expr e)
number_statement (break p) = keep (break p)
number_statement (continue p) = keep (continue p)
number_statement (pass p) = keep (pass p)
