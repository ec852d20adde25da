-- The events of code, in text order.
use Rattle.std.specs.Prelude.{ℕ, Bool, true, false, List, [], ◌∷◌, ◌++◌}
use Rattle.code_spec.specs.Code as code
use Rattle.code_spec.specs.Code.{Name, Expr, Exprs, no_exprs, an_expr, OptionalExpr, absent, present, Entries, no_entries, an_entry, Clauses, no_clauses, for_clause, if_clause, Pieces, no_pieces, text_piece, expr_piece, Parameters, no_parameters, required, defaulted, bare_star, starred_parameter, double_starred_parameter, LoadedNames, no_loaded, a_loaded, Statement, evaluate, assign, augment, load, return, break, continue, pass}
use Rattle.code_spec.specs.Program.{NodePart, node_start, node_note, node_key, node_key_from, node_value, node_value_from, node_end, Instruction, part, statement, begin_if, begin_elif, begin_else, begin_for, begin_def, close}
use Rattle.ytt_base.specs.declared.fault.Place.{Place}
use Rattle.code_spec.specs.Names.{clauses_names}
use Rattle.code_spec.specs.Allowed.{parameter_names}
use Rattle.star_resolve.specs.declared.event.Event.{Event}
use Rattle.star_resolve.specs.declared.event.Event.TheVariants as event
use Rattle.star_resolve.specs.Functions.{scope_size}
use Rattle.star_resolve.specs.Gathered.{front, behind}

-- A comprehension is left for its first members, and entered anew behind them: that is still to come where it is
-- `waiting`.
abbrev mutual
  pub expr_events : Expr → List Event
  expr_events (code.int p z) = []
  expr_events (code.text p t) = []
  expr_events (code.name p x) = event.Name p x ∷ []
  expr_events (code.list p es) = exprs_events es
  expr_events (code.tuple p es) = exprs_events es
  expr_events (code.dict p es) = entries_events es
  expr_events (code.unary p o a) = expr_events a
  expr_events (code.binary p o a b) = expr_events a ++ expr_events b
  expr_events (code.conjunction p a b) = expr_events a ++ expr_events b
  expr_events (code.disjunction p a b) = expr_events a ++ expr_events b
  expr_events (code.conditional p c a b) = expr_events a ++ (expr_events c ++ expr_events b)
  expr_events (code.call p f es) = expr_events f ++ exprs_events es
  expr_events (code.named p x e) = expr_events e
  expr_events (code.starred p e) = expr_events e
  expr_events (code.double_starred p e) = expr_events e
  expr_events (code.index p a i) = expr_events a ++ expr_events i
  expr_events (code.slice p a l h d) = expr_events a ++ (optional_events l ++ (optional_events h ++ optional_events d))
  expr_events (code.attribute p a x) = expr_events a
  expr_events (code.lambda p number ps e) = event.Function (scope_size (parameter_names ps)) ∷ (parameters_events ps ++ (event.Enter (parameter_names ps) ∷ (expr_events e ++ event.Leave ∷ [])))
  expr_events (code.list_comprehension p e cs) = event.Enter (clauses_names cs) ∷ (expr_events e ++ clauses_events true (clauses_names cs) cs)
  expr_events (code.dict_comprehension p a b cs) = event.Enter (clauses_names cs) ∷ (expr_events a ++ (expr_events b ++ clauses_events true (clauses_names cs) cs))
  expr_events (code.text_template p ps) = pieces_events ps

  pub exprs_events : Exprs → List Event
  exprs_events no_exprs = []
  exprs_events (an_expr e es) = expr_events e ++ exprs_events es

  pub optional_events : OptionalExpr → List Event
  optional_events absent = []
  optional_events (present e) = expr_events e

  pub entries_events : Entries → List Event
  entries_events no_entries = []
  entries_events (an_entry a b es) = expr_events a ++ (expr_events b ++ entries_events es)

  pub clauses_events : (waiting : Bool) → (names : List Name) → Clauses → List Event
  clauses_events waiting names no_clauses = event.Leave ∷ []
  clauses_events true names (for_clause x e cs) = expr_events x ++ (event.Leave ∷ (expr_events e ++ (event.Enter names ∷ clauses_events false names cs)))
  clauses_events false names (for_clause x e cs) = expr_events x ++ (expr_events e ++ clauses_events false names cs)
  clauses_events waiting names (if_clause e cs) = expr_events e ++ clauses_events waiting names cs

  pub pieces_events : Pieces → List Event
  pieces_events no_pieces = []
  pieces_events (text_piece t ps) = pieces_events ps
  pieces_events (expr_piece e ps) = expr_events e ++ pieces_events ps

  pub parameters_events : Parameters → List Event
  parameters_events no_parameters = []
  parameters_events (required x ps) = parameters_events ps
  parameters_events (defaulted x e ps) = expr_events e ++ parameters_events ps
  parameters_events (bare_star ps) = parameters_events ps
  parameters_events (starred_parameter x ps) = parameters_events ps
  parameters_events (double_starred_parameter x ps) = parameters_events ps

abbrev pub loaded_events : Place → LoadedNames → List Event
loaded_events p no_loaded = []
loaded_events p (a_loaded x origin xs) = event.Name p x ∷ loaded_events p xs

abbrev pub statement_events : Statement → List Event
statement_events (evaluate p e) = expr_events e
statement_events (assign p x e) = expr_events x ++ expr_events e
statement_events (augment p o q x e) = expr_events x ++ expr_events e
statement_events (load p path xs) = loaded_events p xs
statement_events (return p e) = expr_events e
statement_events (break p) = []
statement_events (continue p) = []
statement_events (pass p) = []

abbrev pub part_events : NodePart → List Event
part_events (node_start p kind holds) = []
part_events (node_note p x es) = exprs_events es
part_events (node_key p x) = []
part_events (node_key_from p e) = expr_events e
part_events (node_value p x) = []
part_events (node_value_from p e) = expr_events e
part_events (node_end p) = []

-- where the function that it begins, if it begins one, binds these names
abbrev pub instruction_events : (names : List Name) → Instruction → List Event
instruction_events names (part o) = part_events o
instruction_events names (statement s) = statement_events s
instruction_events names (begin_if p e) = expr_events e ++ event.Block ∷ []
instruction_events names (begin_elif p e) = expr_events e
instruction_events names (begin_else p) = []
instruction_events names (begin_for p x e) = expr_events x ++ (expr_events e ++ event.Block ∷ [])
instruction_events names (begin_def p number fragment x ps) = event.Name p x ∷ (event.Function (scope_size names) ∷ (parameters_events ps ++ event.Enter names ∷ []))
instruction_events names (close p) = event.Leave ∷ []

abbrev pub functions_after : Instruction → List (List Name) → List (List Name)
functions_after (part o) functions = functions
functions_after (statement s) functions = functions
functions_after (begin_if p e) functions = functions
functions_after (begin_elif p e) functions = functions
functions_after (begin_else p) functions = functions
functions_after (begin_for p x e) functions = functions
functions_after (begin_def p number fragment x ps) functions = behind functions
functions_after (close p) functions = functions

-- where its functions bind these names
abbrev pub program_events : (functions : List (List Name)) → List Instruction → List Event
program_events functions [] = []
program_events functions (i ∷ is) = instruction_events (front functions) i ++ program_events (functions_after i functions) is

-- how many variables the functions have that stand in events
abbrev pub sizes_in : List Event → List ℕ
sizes_in [] = []
sizes_in (event.Function n ∷ es) = n ∷ sizes_in es
sizes_in (event.Name p x ∷ es) = sizes_in es
sizes_in (event.Enter names ∷ es) = sizes_in es
sizes_in (event.Block ∷ es) = sizes_in es
sizes_in (event.Leave ∷ es) = sizes_in es
