-- Which names, targets and parameters may stand in code.
use Rattle.std.specs.Prelude.{Bool, true, false, not, ◌&&◌, ◌||◌, ◌==◌, List, [], ◌∷◌, codes, bytes_eq, IsTrue}
use Rattle.std.specs.Char.{is_ascii_alphabetic, is_ascii_alphanumeric}
use Rattle.std.specs.List.{list_all}
use Rattle.code_spec.specs.Code as code
use Rattle.code_spec.specs.Code.{Name, Expr, Exprs, no_exprs, an_expr, OptionalExpr, absent, present, Entries, no_entries, an_entry, Clauses, no_clauses, for_clause, if_clause, Pieces, no_pieces, text_piece, expr_piece, Parameters, no_parameters, required, defaulted, bare_star, starred_parameter, double_starred_parameter, Statement, evaluate, assign, augment, load, return, break, continue, pass}

-- ---- names

abbrev pub has_name : Name → List Name → Bool
has_name x [] = false
has_name x (y ∷ ys) = bytes_eq x y || has_name x ys

abbrev pub keywords : List Name
keywords =
    codes "and" ∷ codes "break" ∷ codes "continue" ∷ codes "def" ∷ codes "elif" ∷ codes "else" ∷ codes "end" ∷ codes "for" ∷ codes "if" ∷ codes "in"
    ∷ codes "lambda" ∷ codes "load" ∷ codes "not" ∷ codes "or" ∷ codes "pass" ∷ codes "return" ∷ []

-- words that are neither keywords nor names
abbrev pub refused_words : List Name
refused_words =
    codes "as" ∷ codes "class" ∷ codes "del" ∷ codes "except" ∷ codes "finally" ∷ codes "from" ∷ codes "global" ∷ codes "import" ∷ codes "is"
    ∷ codes "nonlocal" ∷ codes "raise" ∷ codes "try" ∷ codes "while" ∷ codes "with" ∷ codes "yield" ∷ []

-- built-in names that can't be assigned to
abbrev pub constants : List Name
constants = codes "None" ∷ codes "True" ∷ codes "False" ∷ []

abbrev pub begins_name : Name → Bool
begins_name [] = false
begins_name (b ∷ bs) = is_ascii_alphabetic b || b == 95

-- letters, digits and `_`, no digit first
abbrev pub is_name : Name → Bool
is_name x = begins_name x && (list_all (λ b. is_ascii_alphanumeric b || b == 95) x && not (has_name x keywords || has_name x refused_words))

-- ---- parameters

-- what may still come: any parameter; none without a default before a star; those by name alone; none
pub data ParametersLeft : Type 0 where
  all_left : ParametersLeft
  defaults_left : ParametersLeft
  named_left : ParametersLeft
  none_left : ParametersLeft

abbrev pub before_star : ParametersLeft → Bool
before_star all_left = true
before_star defaults_left = true
before_star _ = false

abbrev pub takes_required : ParametersLeft → Bool
takes_required all_left = true
takes_required named_left = true
takes_required _ = false

abbrev pub takes_any : ParametersLeft → Bool
takes_any none_left = false
takes_any _ = true

abbrev pub after_default : ParametersLeft → ParametersLeft
after_default all_left = defaults_left
after_default left = left

abbrev pub parameter_names : Parameters → List Name
parameter_names no_parameters = []
parameter_names (required x ps) = x ∷ parameter_names ps
parameter_names (defaulted x e ps) = x ∷ parameter_names ps
parameter_names (bare_star ps) = parameter_names ps
parameter_names (starred_parameter x ps) = x ∷ parameter_names ps
parameter_names (double_starred_parameter x ps) = x ∷ parameter_names ps

abbrev pub are_distinct : List Name → Bool
are_distinct [] = true
are_distinct (x ∷ xs) = not (has_name x xs) && are_distinct xs

-- ---- code

abbrev mutual
  pub AllowedExpr : Expr → Type 0
  AllowedExpr (code.int p n) = Unit {0}
  AllowedExpr (code.text p t) = Unit {0}
  AllowedExpr (code.name p x) = IsTrue (is_name x)
  AllowedExpr (code.list p es) = AllowedExprs es
  AllowedExpr (code.tuple p es) = AllowedExprs es
  AllowedExpr (code.dict p es) = AllowedEntries es
  AllowedExpr (code.unary p o a) = AllowedExpr a
  AllowedExpr (code.binary p o a b) = AllowedExpr a × AllowedExpr b
  AllowedExpr (code.conjunction p a b) = AllowedExpr a × AllowedExpr b
  AllowedExpr (code.disjunction p a b) = AllowedExpr a × AllowedExpr b
  AllowedExpr (code.conditional p c a b) = AllowedExpr c × AllowedExpr a × AllowedExpr b
  AllowedExpr (code.call p f es) = AllowedExpr f × AllowedExprs es
  AllowedExpr (code.named p x e) = IsTrue (is_name x) × AllowedExpr e
  AllowedExpr (code.starred p e) = AllowedExpr e
  AllowedExpr (code.double_starred p e) = AllowedExpr e
  AllowedExpr (code.index p a i) = AllowedExpr a × AllowedExpr i
  AllowedExpr (code.slice p a l h d) = AllowedExpr a × AllowedOptional l × AllowedOptional h × AllowedOptional d
  AllowedExpr (code.attribute p a x) = AllowedExpr a × IsTrue (is_name x)
  AllowedExpr (code.lambda p n ps e) = AllowedParameters all_left ps × IsTrue (are_distinct (parameter_names ps)) × AllowedExpr e
  AllowedExpr (code.list_comprehension p e cs) = AllowedExpr e × AllowedClauses cs
  AllowedExpr (code.dict_comprehension p a b cs) = AllowedExpr a × AllowedExpr b × AllowedClauses cs
  AllowedExpr (code.text_template p ps) = AllowedPieces ps

  pub AllowedExprs : Exprs → Type 0
  AllowedExprs no_exprs = Unit {0}
  AllowedExprs (an_expr e es) = AllowedExpr e × AllowedExprs es

  pub AllowedOptional : OptionalExpr → Type 0
  AllowedOptional absent = Unit {0}
  AllowedOptional (present e) = AllowedExpr e

  pub AllowedEntries : Entries → Type 0
  AllowedEntries no_entries = Unit {0}
  AllowedEntries (an_entry a b es) = AllowedExpr a × AllowedExpr b × AllowedEntries es

  pub AllowedClauses : Clauses → Type 0
  AllowedClauses no_clauses = Unit {0}
  AllowedClauses (for_clause x e cs) = AllowedTarget x × AllowedExpr e × AllowedClauses cs
  AllowedClauses (if_clause e cs) = AllowedExpr e × AllowedClauses cs

  pub AllowedPieces : Pieces → Type 0
  AllowedPieces no_pieces = Unit {0}
  AllowedPieces (text_piece t ps) = AllowedPieces ps
  AllowedPieces (expr_piece e ps) = AllowedExpr e × AllowedPieces ps

  -- the names and defaults of parameters that come in their order
  pub AllowedParameters : ParametersLeft → Parameters → Type 0
  AllowedParameters left no_parameters = Unit {0}
  AllowedParameters left (required x ps) = IsTrue (takes_required left) × IsTrue (is_name x) × AllowedParameters left ps
  AllowedParameters left (defaulted x e ps) = IsTrue (takes_any left) × IsTrue (is_name x) × AllowedExpr e × AllowedParameters (after_default left) ps
  AllowedParameters left (bare_star ps) = IsTrue (before_star left) × AllowedParameters named_left ps
  AllowedParameters left (starred_parameter x ps) = IsTrue (before_star left) × IsTrue (is_name x) × AllowedParameters named_left ps
  AllowedParameters left (double_starred_parameter x ps) = IsTrue (takes_any left) × IsTrue (is_name x) × AllowedParameters none_left ps

  -- a name that is no constant, an index, or a tuple or list of targets, at least one
  pub AllowedTarget : Expr → Type 0
  AllowedTarget (code.name p x) = IsTrue (is_name x && not (has_name x constants))
  AllowedTarget (code.index p a i) = AllowedExpr a × AllowedExpr i
  AllowedTarget (code.list p (an_expr e es)) = AllowedTarget e × AllowedTargets es
  AllowedTarget (code.tuple p (an_expr e es)) = AllowedTarget e × AllowedTargets es
  AllowedTarget _ = ⊥

  pub AllowedTargets : Exprs → Type 0
  AllowedTargets no_exprs = Unit {0}
  AllowedTargets (an_expr e es) = AllowedTarget e × AllowedTargets es

-- an augmented target is a name or an index
abbrev pub is_single : Expr → Bool
is_single (code.name p x) = true
is_single (code.index p a i) = true
is_single _ = false

abbrev pub AllowedStatement : Statement → Type 0
AllowedStatement (evaluate p e) = AllowedExpr e
AllowedStatement (assign p x e) = AllowedTarget x × AllowedExpr e
AllowedStatement (augment p o q x e) = IsTrue (is_single x) × AllowedTarget x × AllowedExpr e
AllowedStatement (load p path xs) = Unit {0}
AllowedStatement (return p e) = AllowedExpr e
AllowedStatement (break p) = Unit {0}
AllowedStatement (continue p) = Unit {0}
AllowedStatement (pass p) = Unit {0}

-- a function's name, and its parameters
abbrev pub AllowedFunction : Name → Parameters → Type 0
AllowedFunction x ps = IsTrue (is_name x) × AllowedParameters all_left ps × IsTrue (are_distinct (parameter_names ps))
