-- Scopes: which variable a name is. A file, a function and a comprehension have names of their own: all that they bind
-- anywhere, also further on. A name is the variable of the innermost one around it that binds it; where none does, it is
-- one of the language's own, or unknown.
use Rattle.std.specs.Prelude.{ℕ, Bool, true, false, ◌||◌, List, [], ◌∷◌, ◌++◌, Option, Some, None, if◌then◌else◌, bytes_eq}
use Rattle.ytt_base.specs.declared.fault.Place.{Place}
use Rattle.code_spec.specs.Code as code
use Rattle.code_spec.specs.Code.{Name, Expr, Exprs, no_exprs, an_expr, OptionalExpr, absent, present, Entries, no_entries, an_entry, Clauses, no_clauses, for_clause, if_clause, Pieces, no_pieces, text_piece, expr_piece, Parameters, no_parameters, required, defaulted, bare_star, starred_parameter, double_starred_parameter, LoadedNames, no_loaded, a_loaded, Statement, evaluate, assign, augment, load, return, break, continue, pass}
use Rattle.code_spec.specs.Program.{NodePart, node_start, node_note, node_key, node_key_from, node_value, node_value_from, node_end, Instruction}
use Rattle.code_spec.specs.Blocks.{Op, op_part, op_statement, op_if, op_for, op_def, Ops, no_ops, an_op, Arms, no_arm, else_arm, arm, blocks}
use Rattle.code_spec.specs.Allowed.{parameter_names}
use Rattle.code_spec.specs.Options.{further}
use Rattle.code_spec.specs.Names.{target_names, clauses_names, statement_names}

-- ---- the names that a scope binds, in text order

-- in the block of a file or of a function; the names inside inner functions and comprehensions are theirs
abbrev mutual
  pub op_names : Op → List Name
  op_names (op_part o) = []
  op_names (op_statement s) = statement_names s
  op_names (op_if p branches) = arms_names branches
  op_names (op_for p x e body) = target_names x ++ ops_names body
  op_names (op_def p number fragment x ps body) = x ∷ []

  pub ops_names : Ops → List Name
  ops_names no_ops = []
  ops_names (an_op o os) = op_names o ++ ops_names os

  pub arms_names : Arms → List Name
  arms_names no_arm = []
  arms_names (else_arm os) = ops_names os
  arms_names (arm e os more) = ops_names os ++ arms_names more

-- ---- names where they stand

-- what each function and each comprehension around a place binds, the innermost first
abbrev pub Around : Type 0
Around = List (List Name)

-- a name that stands somewhere, to be read or to be bound
pub record Use : Type 0 where
  pub place : Place
  pub name : Name
  pub around : Around

abbrev pub use_at : Around → Place → Name → Use
use_at around p x = record { place = p; name = x; around = around }

-- The uses in code, in text order. A default belongs to what stands around its function. The first members of a
-- comprehension belong to what stands around it (`first`), and all else in it to the comprehension.
abbrev mutual
  pub expr_uses : Around → Expr → List Use
  expr_uses around (code.int p z) = []
  expr_uses around (code.text p t) = []
  expr_uses around (code.name p x) = use_at around p x ∷ []
  expr_uses around (code.list p es) = exprs_uses around es
  expr_uses around (code.tuple p es) = exprs_uses around es
  expr_uses around (code.dict p es) = entries_uses around es
  expr_uses around (code.unary p o a) = expr_uses around a
  expr_uses around (code.binary p o a b) = expr_uses around a ++ expr_uses around b
  expr_uses around (code.conjunction p a b) = expr_uses around a ++ expr_uses around b
  expr_uses around (code.disjunction p a b) = expr_uses around a ++ expr_uses around b
  expr_uses around (code.conditional p c a b) = expr_uses around a ++ (expr_uses around c ++ expr_uses around b)
  expr_uses around (code.call p f es) = expr_uses around f ++ exprs_uses around es
  expr_uses around (code.named p x e) = expr_uses around e
  expr_uses around (code.starred p e) = expr_uses around e
  expr_uses around (code.double_starred p e) = expr_uses around e
  expr_uses around (code.index p a i) = expr_uses around a ++ expr_uses around i
  expr_uses around (code.slice p a l h d) = expr_uses around a ++ (optional_uses around l ++ (optional_uses around h ++ optional_uses around d))
  expr_uses around (code.attribute p a x) = expr_uses around a
  expr_uses around (code.lambda p number ps e) = parameters_uses around ps ++ expr_uses (parameter_names ps ∷ around) e
  expr_uses around (code.list_comprehension p e cs) = expr_uses (clauses_names cs ∷ around) e ++ clauses_uses around (clauses_names cs ∷ around) cs
  expr_uses around (code.dict_comprehension p a b cs) =
      expr_uses (clauses_names cs ∷ around) a ++ (expr_uses (clauses_names cs ∷ around) b ++ clauses_uses around (clauses_names cs ∷ around) cs)
  expr_uses around (code.text_template p ps) = pieces_uses around ps

  pub exprs_uses : Around → Exprs → List Use
  exprs_uses around no_exprs = []
  exprs_uses around (an_expr e es) = expr_uses around e ++ exprs_uses around es

  pub optional_uses : Around → OptionalExpr → List Use
  optional_uses around absent = []
  optional_uses around (present e) = expr_uses around e

  pub entries_uses : Around → Entries → List Use
  entries_uses around no_entries = []
  entries_uses around (an_entry a b es) = expr_uses around a ++ (expr_uses around b ++ entries_uses around es)

  pub clauses_uses : (first around : Around) → Clauses → List Use
  clauses_uses first around no_clauses = []
  clauses_uses first around (for_clause x e cs) = expr_uses around x ++ (expr_uses first e ++ clauses_uses around around cs)
  clauses_uses first around (if_clause e cs) = expr_uses around e ++ clauses_uses first around cs

  pub pieces_uses : Around → Pieces → List Use
  pieces_uses around no_pieces = []
  pieces_uses around (text_piece t ps) = pieces_uses around ps
  pieces_uses around (expr_piece e ps) = expr_uses around e ++ pieces_uses around ps

  pub parameters_uses : Around → Parameters → List Use
  parameters_uses around no_parameters = []
  parameters_uses around (required x ps) = parameters_uses around ps
  parameters_uses around (defaulted x e ps) = expr_uses around e ++ parameters_uses around ps
  parameters_uses around (bare_star ps) = parameters_uses around ps
  parameters_uses around (starred_parameter x ps) = parameters_uses around ps
  parameters_uses around (double_starred_parameter x ps) = parameters_uses around ps

abbrev pub loaded_uses : Around → Place → LoadedNames → List Use
loaded_uses around p no_loaded = []
loaded_uses around p (a_loaded x origin xs) = use_at around p x ∷ loaded_uses around p xs

abbrev pub statement_uses : Around → Statement → List Use
statement_uses around (evaluate p e) = expr_uses around e
statement_uses around (assign p x e) = expr_uses around x ++ expr_uses around e
statement_uses around (augment p o q x e) = expr_uses around x ++ expr_uses around e
statement_uses around (load p path xs) = loaded_uses around p xs
statement_uses around (return p e) = expr_uses around e
statement_uses around (break p) = []
statement_uses around (continue p) = []
statement_uses around (pass p) = []

abbrev pub part_uses : Around → NodePart → List Use
part_uses around (node_start p kind holds) = []
part_uses around (node_note p x es) = exprs_uses around es
part_uses around (node_key p x) = []
part_uses around (node_key_from p e) = expr_uses around e
part_uses around (node_value p x) = []
part_uses around (node_value_from p e) = expr_uses around e
part_uses around (node_end p) = []

-- a function binds its parameters and the names of its block
abbrev mutual
  pub op_uses : Around → Op → List Use
  op_uses around (op_part o) = part_uses around o
  op_uses around (op_statement s) = statement_uses around s
  op_uses around (op_if p branches) = arms_uses around branches
  op_uses around (op_for p x e body) = expr_uses around x ++ (expr_uses around e ++ ops_uses around body)
  op_uses around (op_def p number fragment x ps body) = use_at around p x ∷ (parameters_uses around ps ++ ops_uses ((parameter_names ps ++ ops_names body) ∷ around) body)

  pub ops_uses : Around → Ops → List Use
  ops_uses around no_ops = []
  ops_uses around (an_op o os) = op_uses around o ++ ops_uses around os

  pub arms_uses : Around → Arms → List Use
  arms_uses around no_arm = []
  arms_uses around (else_arm os) = ops_uses around os
  arms_uses around (arm e os more) = expr_uses around e ++ (ops_uses around os ++ arms_uses around more)

-- ---- of a program

abbrev pub names_of_file : Option Ops → List Name
names_of_file None = []
names_of_file (Some os) = ops_names os

abbrev pub uses_of_file : Option Ops → List Use
uses_of_file None = []
uses_of_file (Some os) = ops_uses [] os

-- the globals
abbrev pub program_names : List Instruction → List Name
program_names is = names_of_file (blocks is)

abbrev pub program_uses : List Instruction → List Use
program_uses is = uses_of_file (blocks is)

-- ---- what a name is

-- a variable of the function or comprehension that so many others stand inside, one of the file, one of the language, or
-- bound nowhere
pub data Home : Type 0 where
  local : (outward : ℕ) → Home
  global : Home
  builtin : Home
  unknown : Home

abbrev pub binds : Name → List Name → Bool
binds x [] = false
binds x (y ∷ ys) = bytes_eq y x || binds x ys

-- how far out the innermost one that binds the name stands
abbrev pub outward : Name → Around → Option ℕ
outward x [] = None
outward x (names ∷ around) = if binds x names then Some 0 else further (outward x around)

abbrev pub home_by : Option ℕ → (is_global is_builtin : Bool) → Home
home_by (Some n) g b = local n
home_by None true b = global
home_by None false true = builtin
home_by None false false = unknown

abbrev pub home_of : (globals builtins : List Name) → Use → Home
home_of globals builtins u = home_by (outward u.name u.around) (binds u.name globals) (binds u.name builtins)

abbrev pub first_if_unknown : Home → Use → Option Use → Option Use
first_if_unknown unknown u later = Some u
first_if_unknown _ u later = later

-- the first name that is bound nowhere
abbrev pub unknown_first : (globals builtins : List Name) → List Use → Option Use
unknown_first globals builtins [] = None
unknown_first globals builtins (u ∷ us) = first_if_unknown (home_of globals builtins u) u (unknown_first globals builtins us)
