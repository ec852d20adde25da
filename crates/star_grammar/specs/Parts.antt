-- What stands in the parts that were read: each part seen as what is wanted there.
use Rattle.std.specs.Prelude.{ℕ, Bool, true, false, List, [], ◌∷◌, Option, Some, None}
use Rattle.star_tree.specs.declared.code.Clause.{Clause}
use Rattle.star_tree.specs.declared.code.Entry.{Entry}
use Rattle.star_tree.specs.declared.code.Expr.{Expr, out-Expr}
use Rattle.star_tree.specs.declared.code.Expr.TheVariants as expr
use Rattle.star_tree.specs.declared.code.Clause.TheOpen.{Expr-F}
use Rattle.star_tree.specs.declared.code.Loaded.{Loaded}
use Rattle.star_tree.specs.declared.code.Param.{Param}
use Rattle.star_tree.specs.declared.code.Piece.{Piece}
use Rattle.star_tree.specs.declared.code.Stmt.{Stmt}
use Rattle.star_grammar.specs.declared.part.Part.{Part}
use Rattle.star_grammar.specs.declared.part.Part.TheVariants as part
use Rattle.star_grammar.specs.declared.token.Mark.{Mark}
use Rattle.star_grammar.specs.declared.token.Mark.TheVariants as mark

-- the last part, and those before it
abbrev pub top : List Part → Part
top [] = part.Missing
top (p ∷ ps) = p

abbrev pub under : List Part → List Part
under [] = []
under (p ∷ ps) = ps

abbrev pub nothing : Expr
nothing = expr.Tuple 0 []

-- several expressions without brackets are a tuple
abbrev pub expr_in : Part → Expr
expr_in (part.Expr l e) = e
expr_in (part.Exprs l es) = expr.Tuple l es
expr_in p = nothing

abbrev pub optional_in : Part → Option Expr
optional_in part.Missing = None
optional_in (part.Expr l e) = Some e
optional_in (part.Exprs l es) = Some (expr.Tuple l es)
optional_in p = Some nothing

abbrev pub exprs_in : Part → List Expr
exprs_in (part.Exprs l es) = es
exprs_in p = []

abbrev pub entries_in : Part → List Entry
entries_in (part.Entries es) = es
entries_in p = []

abbrev pub clauses_in : Part → List Clause
clauses_in (part.Clauses cs) = cs
clauses_in p = []

abbrev pub params_in : Part → List Param
params_in (part.Params ps) = ps
params_in p = []

abbrev pub loads_in : Part → List Loaded
loads_in (part.Loads ls) = ls
loads_in p = []

abbrev pub code_in : Part → List Stmt
code_in (part.Code ss) = ss
code_in p = []

-- the line of the first token
abbrev pub line_in : Part → ℕ
line_in (part.Mark l m) = l
line_in (part.Expr l e) = l
line_in (part.Exprs l es) = l
line_in p = 0

abbrev pub mark_in : Part → Mark
mark_in (part.Mark l m) = m
mark_in p = mark.Comma

-- ---- names

abbrev pub name_of_level : Expr-F Clause Entry Expr Param Piece → List ℕ
name_of_level (Expr-F.Name l x) = x
name_of_level e = []

-- the name that an expression is
abbrev pub name_of : Expr → List ℕ
name_of e = name_of_level (out-Expr e)

abbrev pub text_of_level : Expr-F Clause Entry Expr Param Piece → List ℕ
text_of_level (Expr-F.Text l t) = t
text_of_level e = []

-- the text that an expression is
abbrev pub text_of : Expr → List ℕ
text_of e = text_of_level (out-Expr e)

abbrev pub is_name_level : Expr-F Clause Entry Expr Param Piece → Bool
is_name_level (Expr-F.Name l x) = true
is_name_level e = false

abbrev pub is_name_expr : Expr → Bool
is_name_expr e = is_name_level (out-Expr e)

abbrev pub is_name : Part → Bool
is_name p = is_name_expr (expr_in p)

abbrev pub is_place_level : Expr-F Clause Entry Expr Param Piece → Bool
is_place_level (Expr-F.Name l x) = true
is_place_level (Expr-F.Index l a i) = true
is_place_level e = false

abbrev pub is_place_expr : Expr → Bool
is_place_expr e = is_place_level (out-Expr e)

-- a name or an index
abbrev pub is_place : Part → Bool
is_place p = is_place_expr (expr_in p)
