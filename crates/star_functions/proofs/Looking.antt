-- The first function with a number among those of code is the one that the definition finds.
use Rattle.std.proofs.Common.{◌≡◌, ℕ, Bool, true, false, nat_eq, List, [], ◌∷◌, ◌++◌, Option, Some, None, refl, sym, ap, ◌∙◌}
use Rattle.code_spec.specs.Blocks.{Op, op_part, op_statement, op_if, op_for, op_def, Ops, no_ops, an_op, Arms, no_arm, else_arm, arm}
use Rattle.code_spec.specs.Code as code
use Rattle.code_spec.specs.Code.{Expr, Exprs, no_exprs, an_expr, OptionalExpr, absent, present, Entries, no_entries, an_entry, Clauses, no_clauses, for_clause, if_clause, Pieces, no_pieces, text_piece, expr_piece, Parameters, no_parameters, required, defaulted, bare_star, starred_parameter, double_starred_parameter, Statement, evaluate, assign, augment, load, return, break, continue, pass}
use Rattle.code_spec.specs.Options.{or_else}
use Rattle.code_spec.specs.Program.{NodePart, node_start, node_note, node_key, node_key_from, node_value, node_value_from, node_end}
use Rattle.star_spec.specs.Calls.{Code, of_lambda}
use Rattle.star_spec.specs.Lambdas.{Lambda, lambda_among, lambda_code, lambda_in, lambda_in_clauses, lambda_in_entries, lambda_in_parameters, lambda_in_part, lambda_in_pieces, lambda_in_statement, only_if}
use Rattle.template_meaning.specs.Calls.{arms_function, op_function, ops_function, part_function}
use Rattle.star_functions.specs.Numbered.{Numbered, arms_functions, clauses_functions, entries_functions, expr_functions, exprs_functions, first_with, op_functions, ops_functions, optional_functions, parameters_functions, part_functions, pieces_functions, statement_functions}

pub or_assoc : {A : Type 0} (a b c : Option A) → or_else (or_else a b) c ≡ or_else a (or_else b c)
or_assoc None b c = refl
or_assoc (Some x) b c = refl

-- the first among some, and then others
first_append : (k : ℕ) (fs gs : List Numbered) → first_with k (fs ++ gs) ≡ or_else (first_with k fs) (first_with k gs)
first_append k [] gs = refl
first_append k (f ∷ fs) gs =
    ap (or_else (only_if (nat_eq k f.number) f.code)) (first_append k fs gs)
    ∙ sym (or_assoc (only_if (nat_eq k f.number) f.code) (first_with k fs) (first_with k gs))

code_or : (a b : Option Lambda) → or_else (lambda_code {B = Ops} a) (lambda_code b) ≡ lambda_code (or_else a b)
code_or None b = refl
code_or (Some l) b = refl

abbrev lambda_of : Lambda → Code Ops
lambda_of l = of_lambda l.parameters l.body

only_code : (b : Bool) (l : Lambda) → only_if b (lambda_of l) ≡ lambda_code (only_if b l)
only_code true l = refl
only_code false l = refl

both : (k : ℕ) (fs gs : List Numbered) (a b : Option (Code Ops)) → first_with k fs ≡ a → first_with k gs ≡ b → first_with k (fs ++ gs) ≡ or_else a b
both k fs gs a b e f = first_append k fs gs ∙ (λ i. or_else (e i) (f i))

two : (k : ℕ) (fs gs : List Numbered) (a b : Option Lambda) → first_with k fs ≡ lambda_code a → first_with k gs ≡ lambda_code b → first_with k (fs ++ gs) ≡ lambda_code (or_else a b)
two k fs gs a b e f = both k fs gs _ _ e f ∙ code_or a b

module _ (k : ℕ) where
  mutual
    first_in : (e : Expr) → first_with k (expr_functions e) ≡ lambda_code (lambda_in k e)
    first_in (code.int p n) = refl
    first_in (code.text p t) = refl
    first_in (code.name p x) = refl
    first_in (code.list p es) = first_among es
    first_in (code.tuple p es) = first_among es
    first_in (code.dict p es) = first_in_entries es
    first_in (code.unary p o a) = first_in a
    first_in (code.binary p o a b) = two k _ _ _ _ (first_in a) (first_in b)
    first_in (code.conjunction p a b) = two k _ _ _ _ (first_in a) (first_in b)
    first_in (code.disjunction p a b) = two k _ _ _ _ (first_in a) (first_in b)
    first_in (code.conditional p c a b) = two k _ _ _ _ (first_in a) (two k _ _ _ _ (first_in c) (first_in b))
    first_in (code.call p f es) = two k _ _ _ _ (first_in f) (first_among es)
    first_in (code.named p x e) = first_in e
    first_in (code.starred p e) = first_in e
    first_in (code.double_starred p e) = first_in e
    first_in (code.index p a i) = two k _ _ _ _ (first_in a) (first_in i)
    first_in (code.slice p a l h d) = two k _ _ _ _ (first_in a) (two k _ _ _ _ (first_in_part l) (two k _ _ _ _ (first_in_part h) (first_in_part d)))
    first_in (code.attribute p a x) = first_in a
    first_in (code.lambda p n ps e) =
        (λ i. or_else (only_code (nat_eq k n) (record { parameters = ps; body = e }) i) (two k _ _ _ _ (first_in_parameters ps) (first_in e) i))
        ∙ code_or (only_if (nat_eq k n) (record { parameters = ps; body = e })) (or_else (lambda_in_parameters k ps) (lambda_in k e))
    first_in (code.list_comprehension p e cs) = two k _ _ _ _ (first_in e) (first_in_clauses cs)
    first_in (code.dict_comprehension p a b cs) = two k _ _ _ _ (first_in a) (two k _ _ _ _ (first_in b) (first_in_clauses cs))
    first_in (code.text_template p ps) = first_in_pieces ps

    first_among : (es : Exprs) → first_with k (exprs_functions es) ≡ lambda_code (lambda_among k es)
    first_among no_exprs = refl
    first_among (an_expr e es) = two k _ _ _ _ (first_in e) (first_among es)

    first_in_part : (o : OptionalExpr) → first_with k (optional_functions o) ≡ lambda_code (lambda_in_part k o)
    first_in_part absent = refl
    first_in_part (present e) = first_in e

    first_in_entries : (es : Entries) → first_with k (entries_functions es) ≡ lambda_code (lambda_in_entries k es)
    first_in_entries no_entries = refl
    first_in_entries (an_entry a b es) = two k _ _ _ _ (first_in a) (two k _ _ _ _ (first_in b) (first_in_entries es))

    first_in_clauses : (cs : Clauses) → first_with k (clauses_functions cs) ≡ lambda_code (lambda_in_clauses k cs)
    first_in_clauses no_clauses = refl
    first_in_clauses (for_clause x e cs) = two k _ _ _ _ (first_in x) (two k _ _ _ _ (first_in e) (first_in_clauses cs))
    first_in_clauses (if_clause e cs) = two k _ _ _ _ (first_in e) (first_in_clauses cs)

    first_in_pieces : (ps : Pieces) → first_with k (pieces_functions ps) ≡ lambda_code (lambda_in_pieces k ps)
    first_in_pieces no_pieces = refl
    first_in_pieces (text_piece t ps) = first_in_pieces ps
    first_in_pieces (expr_piece e ps) = two k _ _ _ _ (first_in e) (first_in_pieces ps)

    first_in_parameters : (ps : Parameters) → first_with k (parameters_functions ps) ≡ lambda_code (lambda_in_parameters k ps)
    first_in_parameters no_parameters = refl
    first_in_parameters (required x ps) = first_in_parameters ps
    first_in_parameters (defaulted x e ps) = two k _ _ _ _ (first_in e) (first_in_parameters ps)
    first_in_parameters (bare_star ps) = first_in_parameters ps
    first_in_parameters (starred_parameter x ps) = first_in_parameters ps
    first_in_parameters (double_starred_parameter x ps) = first_in_parameters ps

  first_in_statement : (s : Statement) → first_with k (statement_functions s) ≡ lambda_code (lambda_in_statement k s)
  first_in_statement (evaluate p e) = first_in e
  first_in_statement (assign p x e) = two k _ _ _ _ (first_in x) (first_in e)
  first_in_statement (augment p o q x e) = two k _ _ _ _ (first_in x) (first_in e)
  first_in_statement (load p path xs) = refl
  first_in_statement (return p e) = first_in e
  first_in_statement (break p) = refl
  first_in_statement (continue p) = refl
  first_in_statement (pass p) = refl

  first_in_node : (o : NodePart) → first_with k (part_functions o) ≡ part_function k o
  first_in_node (node_start p kind holds) = refl
  first_in_node (node_note p x es) = first_among es
  first_in_node (node_key p x) = refl
  first_in_node (node_key_from p e) = first_in e
  first_in_node (node_value p x) = refl
  first_in_node (node_value_from p e) = first_in e
  first_in_node (node_end p) = refl

  mutual
    first_in_op : (o : Op) → first_with k (op_functions o) ≡ op_function k o
    first_in_op (op_part o) = first_in_node o
    first_in_op (op_statement s) = first_in_statement s
    first_in_op (op_if p more) = first_in_arms more
    first_in_op (op_for p x e body) = both k _ _ _ _ (first_in x) (both k _ _ _ _ (first_in e) (first_in_ops body))
    first_in_op (op_def p n fragment x ps body) = ap (or_else (only_if (nat_eq k n) _)) (both k _ _ _ _ (first_in_parameters ps) (first_in_ops body))

    pub first_in_ops : (os : Ops) → first_with k (ops_functions os) ≡ ops_function k os
    first_in_ops no_ops = refl
    first_in_ops (an_op o os) = both k _ _ _ _ (first_in_op o) (first_in_ops os)

    first_in_arms : (more : Arms) → first_with k (arms_functions more) ≡ arms_function k more
    first_in_arms no_arm = refl
    first_in_arms (else_arm os) = first_in_ops os
    first_in_arms (arm e os more) = both k _ _ _ _ (first_in e) (both k _ _ _ _ (first_in_ops os) (first_in_arms more))
