-- The names of the language, and the names that targets and statements bind.
use Rattle.std.specs.Prelude.{Bool, false, ◌||◌, List, [], ◌∷◌, ◌++◌, bytes_eq, codes}
use Rattle.code_spec.specs.Code.{Name, Expr, name, list, tuple, Exprs, no_exprs, an_expr, Clauses, no_clauses, for_clause, if_clause, LoadedNames, no_loaded, a_loaded, Statement, assign, augment, load}

-- ---- the names of the language

-- those of its own functions
abbrev pub own_functions : List Name
own_functions =
    codes "len" ∷ codes "range" ∷ codes "str" ∷ codes "repr" ∷ codes "type" ∷ codes "bool" ∷ codes "list" ∷ codes "tuple" ∷ codes "abs"
    ∷ codes "dict" ∷ codes "int" ∷ codes "sorted" ∷ codes "min" ∷ codes "max" ∷ codes "reversed" ∷ codes "enumerate" ∷ codes "zip"
    ∷ codes "any" ∷ codes "all" ∷ codes "hasattr" ∷ codes "getattr" ∷ codes "dir" ∷ codes "fail" ∷ []

abbrev pub language_names : List Name
language_names = codes "None" ∷ codes "True" ∷ codes "False" ∷ own_functions

abbrev pub is_among : Name → List Name → Bool
is_among x [] = false
is_among x (y ∷ ys) = bytes_eq x y || is_among x ys

-- ---- the names that are bound, in text order

abbrev mutual
  pub target_names : Expr → List Name
  target_names (name p x) = x ∷ []
  target_names (list p es) = targets_names es
  target_names (tuple p es) = targets_names es
  target_names _ = []

  pub targets_names : Exprs → List Name
  targets_names no_exprs = []
  targets_names (an_expr e es) = target_names e ++ targets_names es

abbrev pub clauses_names : Clauses → List Name
clauses_names no_clauses = []
clauses_names (for_clause x e cs) = target_names x ++ clauses_names cs
clauses_names (if_clause e cs) = clauses_names cs

abbrev pub loaded_names : LoadedNames → List Name
loaded_names no_loaded = []
loaded_names (a_loaded x origin xs) = x ∷ loaded_names xs

abbrev pub statement_names : Statement → List Name
statement_names (assign p x e) = target_names x
statement_names (augment p o q x e) = target_names x
statement_names (load p path xs) = loaded_names xs
statement_names _ = []
