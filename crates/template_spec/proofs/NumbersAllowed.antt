-- Numbers change nothing of which names stand in code.
use Rattle.std.proofs.Common.{◌≡◌, ℕ, suc, List, [], ◌∷◌, refl, sym, ap, ◌∙◌}
use Rattle.code_spec.specs.Allowed.{AllowedClauses, AllowedEntries, AllowedExpr, AllowedExprs, AllowedFunction, AllowedOptional, AllowedParameters, AllowedPieces, AllowedStatement, AllowedTarget, AllowedTargets, ParametersLeft, after_default, all_left, are_distinct, is_single, named_left, none_left, parameter_names}
use Rattle.code_spec.specs.Code as code
use Rattle.code_spec.specs.Code.{Name, Expr, Exprs, no_exprs, an_expr, OptionalExpr, absent, present, Entries, no_entries, an_entry, Clauses, no_clauses, for_clause, if_clause, Pieces, no_pieces, text_piece, expr_piece, Parameters, no_parameters, required, defaulted, bare_star, starred_parameter, double_starred_parameter, Statement, evaluate, assign, augment, load, return, break, continue, pass}
use Rattle.code_spec.specs.Numbering.{number_clauses, number_entries, number_expr, number_exprs, number_optional, number_parameters, number_pieces, number_statement}
use Rattle.code_spec.specs.Program.{NodePart, node_start, node_note, node_key, node_key_from, node_value, node_value_from, node_end, Instruction, part, statement, begin_if, begin_elif, begin_else, begin_for, begin_def, close}
use Rattle.template_spec.specs.Numbered.{number_instruction, number_part, number_program}
use Rattle.template_spec.specs.WellNested.{AllowedInstruction, AllowedPart, AllowedProgram}

names_kept : (ps : Parameters) (n : ℕ) → parameter_names (number_parameters ps n).result ≡ parameter_names ps
names_kept no_parameters n = refl
names_kept (required x ps) n = ap (λ l. x ∷ l) (names_kept ps n)
names_kept (defaulted x e ps) n = ap (λ l. x ∷ l) (names_kept ps (number_expr e n).next)
names_kept (bare_star ps) n = names_kept ps n
names_kept (starred_parameter x ps) n = ap (λ l. x ∷ l) (names_kept ps n)
names_kept (double_starred_parameter x ps) n = ap (λ l. x ∷ l) (names_kept ps n)

mutual
  expr_allowed : (e : Expr) (n : ℕ) → AllowedExpr e → AllowedExpr (number_expr e n).result
  expr_allowed (code.int p z) n h = h
  expr_allowed (code.text p t) n h = h
  expr_allowed (code.name p x) n h = h
  expr_allowed (code.list p es) n h = exprs_allowed es n h
  expr_allowed (code.tuple p es) n h = exprs_allowed es n h
  expr_allowed (code.dict p es) n h = entries_allowed es n h
  expr_allowed (code.unary p o a) n h = expr_allowed a n h
  expr_allowed (code.binary p o a b) n h = (expr_allowed a n h.0, expr_allowed b (number_expr a n).next h.1)
  expr_allowed (code.conjunction p a b) n h = (expr_allowed a n h.0, expr_allowed b (number_expr a n).next h.1)
  expr_allowed (code.disjunction p a b) n h = (expr_allowed a n h.0, expr_allowed b (number_expr a n).next h.1)
  expr_allowed (code.conditional p c a b) n h =
      let first = (number_expr a n).next in
      (expr_allowed c first h.0, expr_allowed a n h.1, expr_allowed b (number_expr c first).next h.2)
  expr_allowed (code.call p f es) n h = (expr_allowed f n h.0, exprs_allowed es (number_expr f n).next h.1)
  expr_allowed (code.named p x e) n h = (h.0, expr_allowed e n h.1)
  expr_allowed (code.starred p e) n h = expr_allowed e n h
  expr_allowed (code.double_starred p e) n h = expr_allowed e n h
  expr_allowed (code.index p a i) n h = (expr_allowed a n h.0, expr_allowed i (number_expr a n).next h.1)
  expr_allowed (code.slice p a l k d) n h =
      let low = (number_expr a n).next in
      let high = (number_optional l low).next in
      (expr_allowed a n h.0, optional_allowed l low h.1, optional_allowed k high h.2, optional_allowed d (number_optional k high).next h.3)
  expr_allowed (code.attribute p a x) n h = (expr_allowed a n h.0, h.1)
  expr_allowed (code.lambda p number ps e) n h =
      (parameters_allowed all_left ps (suc n) h.0, ap are_distinct (names_kept ps (suc n)) ∙ h.1, expr_allowed e (number_parameters ps (suc n)).next h.2)
  expr_allowed (code.list_comprehension p e cs) n h = (expr_allowed e n h.0, clauses_allowed cs (number_expr e n).next h.1)
  expr_allowed (code.dict_comprehension p a b cs) n h =
      let second = (number_expr a n).next in
      (expr_allowed a n h.0, expr_allowed b second h.1, clauses_allowed cs (number_expr b second).next h.2)
  expr_allowed (code.text_template p ps) n h = pieces_allowed ps n h

  exprs_allowed : (es : Exprs) (n : ℕ) → AllowedExprs es → AllowedExprs (number_exprs es n).result
  exprs_allowed no_exprs n h = h
  exprs_allowed (an_expr e es) n h = (expr_allowed e n h.0, exprs_allowed es (number_expr e n).next h.1)

  optional_allowed : (o : OptionalExpr) (n : ℕ) → AllowedOptional o → AllowedOptional (number_optional o n).result
  optional_allowed absent n h = h
  optional_allowed (present e) n h = expr_allowed e n h

  entries_allowed : (es : Entries) (n : ℕ) → AllowedEntries es → AllowedEntries (number_entries es n).result
  entries_allowed no_entries n h = h
  entries_allowed (an_entry a b es) n h =
      let second = (number_expr a n).next in
      (expr_allowed a n h.0, expr_allowed b second h.1, entries_allowed es (number_expr b second).next h.2)

  clauses_allowed : (cs : Clauses) (n : ℕ) → AllowedClauses cs → AllowedClauses (number_clauses cs n).result
  clauses_allowed no_clauses n h = h
  clauses_allowed (for_clause x e cs) n h =
      let members = (number_expr x n).next in
      (target_allowed x n h.0, expr_allowed e members h.1, clauses_allowed cs (number_expr e members).next h.2)
  clauses_allowed (if_clause e cs) n h = (expr_allowed e n h.0, clauses_allowed cs (number_expr e n).next h.1)

  pieces_allowed : (ps : Pieces) (n : ℕ) → AllowedPieces ps → AllowedPieces (number_pieces ps n).result
  pieces_allowed no_pieces n h = h
  pieces_allowed (text_piece t ps) n h = pieces_allowed ps n h
  pieces_allowed (expr_piece e ps) n h = (expr_allowed e n h.0, pieces_allowed ps (number_expr e n).next h.1)

  parameters_allowed : (left : ParametersLeft) (ps : Parameters) (n : ℕ) → AllowedParameters left ps → AllowedParameters left (number_parameters ps n).result
  parameters_allowed left no_parameters n h = h
  parameters_allowed left (required x ps) n h = (h.0, h.1, parameters_allowed left ps n h.2)
  parameters_allowed left (defaulted x e ps) n h = (h.0, h.1, expr_allowed e n h.2, parameters_allowed (after_default left) ps (number_expr e n).next h.3)
  parameters_allowed left (bare_star ps) n h = (h.0, parameters_allowed named_left ps n h.1)
  parameters_allowed left (starred_parameter x ps) n h = (h.0, h.1, parameters_allowed named_left ps n h.2)
  parameters_allowed left (double_starred_parameter x ps) n h = (h.0, h.1, parameters_allowed none_left ps n h.2)

  target_allowed : (e : Expr) (n : ℕ) → AllowedTarget e → AllowedTarget (number_expr e n).result
  target_allowed (code.name p x) n h = h
  target_allowed (code.index p a i) n h = (expr_allowed a n h.0, expr_allowed i (number_expr a n).next h.1)
  target_allowed (code.list p (an_expr e es)) n h = (target_allowed e n h.0, targets_allowed es (number_expr e n).next h.1)
  target_allowed (code.tuple p (an_expr e es)) n h = (target_allowed e n h.0, targets_allowed es (number_expr e n).next h.1)
  target_allowed e n h = absurd h

  targets_allowed : (es : Exprs) (n : ℕ) → AllowedTargets es → AllowedTargets (number_exprs es n).result
  targets_allowed no_exprs n h = h
  targets_allowed (an_expr e es) n h = (target_allowed e n h.0, targets_allowed es (number_expr e n).next h.1)

single_kept : (e : Expr) (n : ℕ) → is_single e ≡ is_single (number_expr e n).result
single_kept (code.int p z) n = refl
single_kept (code.text p t) n = refl
single_kept (code.name p x) n = refl
single_kept (code.list p es) n = refl
single_kept (code.tuple p es) n = refl
single_kept (code.dict p es) n = refl
single_kept (code.unary p o a) n = refl
single_kept (code.binary p o a b) n = refl
single_kept (code.conjunction p a b) n = refl
single_kept (code.disjunction p a b) n = refl
single_kept (code.conditional p c a b) n = refl
single_kept (code.call p f es) n = refl
single_kept (code.named p x e) n = refl
single_kept (code.starred p e) n = refl
single_kept (code.double_starred p e) n = refl
single_kept (code.index p a i) n = refl
single_kept (code.slice p a l k d) n = refl
single_kept (code.attribute p a x) n = refl
single_kept (code.lambda p number ps e) n = refl
single_kept (code.list_comprehension p e cs) n = refl
single_kept (code.dict_comprehension p a b cs) n = refl
single_kept (code.text_template p ps) n = refl

statement_allowed : (s : Statement) (n : ℕ) → AllowedStatement s → AllowedStatement (number_statement s n).result
statement_allowed (evaluate p e) n h = expr_allowed e n h
statement_allowed (assign p x e) n h = (target_allowed x n h.0, expr_allowed e (number_expr x n).next h.1)
statement_allowed (augment p o q x e) n h = (sym (single_kept x n) ∙ h.0, target_allowed x n h.1, expr_allowed e (number_expr x n).next h.2)
statement_allowed (load p path xs) n h = h
statement_allowed (return p e) n h = expr_allowed e n h
statement_allowed (break p) n h = h
statement_allowed (continue p) n h = h
statement_allowed (pass p) n h = h

function_allowed : (x : Name) (ps : Parameters) (n : ℕ) → AllowedFunction x ps → AllowedFunction x (number_parameters ps n).result
function_allowed x ps n h = (h.0, parameters_allowed all_left ps n h.1, ap are_distinct (names_kept ps n) ∙ h.2)

part_allowed : (o : NodePart) (n : ℕ) → AllowedPart o → AllowedPart (number_part o n).result
part_allowed (node_start p kind holds) n h = h
part_allowed (node_note p x es) n h = exprs_allowed es n h
part_allowed (node_key p x) n h = h
part_allowed (node_key_from p e) n h = expr_allowed e n h
part_allowed (node_value p x) n h = h
part_allowed (node_value_from p e) n h = expr_allowed e n h
part_allowed (node_end p) n h = h

instruction_allowed : (i : Instruction) (n : ℕ) → AllowedInstruction i → AllowedInstruction (number_instruction i n).result
instruction_allowed (part o) n h = part_allowed o n h
instruction_allowed (statement s) n h = statement_allowed s n h
instruction_allowed (begin_if p e) n h = expr_allowed e n h
instruction_allowed (begin_elif p e) n h = expr_allowed e n h
instruction_allowed (begin_else p) n h = h
instruction_allowed (begin_for p x e) n h = (target_allowed x n h.0, expr_allowed e (number_expr x n).next h.1)
instruction_allowed (begin_def p number fragment x ps) n h = function_allowed x ps (suc n) h
instruction_allowed (close p) n h = h

pub program_allowed : (is : List Instruction) (n : ℕ) → AllowedProgram is → AllowedProgram (number_program is n).result
program_allowed [] n h = h
program_allowed (i ∷ is) n h = (instruction_allowed i n h.0, program_allowed is (number_instruction i n).next h.1)
