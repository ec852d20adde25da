-- The plain expression of each form of expression.
use Rattle.std.proofs.Common.{◌≡◌, List, rules, ℤ, ℕ, Option, Some, None, refl, ◌∙◌}
use Rattle.std.specs.Option.{option_map}
use Rattle.ytt_base.specs.Outcomes.{place_at}
use Rattle.code_spec.specs.Code as plain
use Rattle.star_tree.specs.declared.code.UnOp.{UnOp}
use Rattle.star_tree.specs.declared.code.BinOp.{BinOp}
use Rattle.star_tree.specs.declared.code.Clause.{Clause}
use Rattle.star_tree.specs.declared.code.Entry.{Entry}
use Rattle.star_tree.specs.declared.code.Param.{Param}
use Rattle.star_tree.specs.declared.code.Piece.{Piece}
use Rattle.star_tree.specs.declared.code.Clause as clause
use Rattle.star_tree.specs.declared.code.Entry as entry
use Rattle.star_tree.specs.declared.code.Param as param
use Rattle.star_tree.specs.declared.code.Piece as piece
use Rattle.star_tree.specs.declared.code.Expr as held
use Rattle.star_tree.specs.declared.code.Expr.{Expr, the_lemmas}
use Rattle.star_tree.specs.Whole.{binary_operator_of, default_part, expr_of, expr_part, exprs_of, for_part, if_part, optional_from, parameter_of, parameters_of, unary_operator_of, written_part}
use Rattle.star_tree.specs.Listed.{clause_of, clauses_of, entries_of, entry_of, optional_of, piece_of, pieces_of}

pub expr_of-Int : (file line : ℕ) (z : ℤ) → expr_of file (held.Int line z) ≡ plain.int (place_at file line) z
expr_of-Int file line z = search (rules, the_lemmas)

pub expr_of-Text : (file line : ℕ) (t : List ℕ) → expr_of file (held.Text line t) ≡ plain.text (place_at file line) t
expr_of-Text file line t = search (rules, the_lemmas)

pub expr_of-Name : (file line : ℕ) (x : List ℕ) → expr_of file (held.Name line x) ≡ plain.name (place_at file line) x
expr_of-Name file line x = search (rules, the_lemmas)

pub expr_of-List : (file line : ℕ) (es : List Expr) → expr_of file (held.List line es) ≡ plain.list (place_at file line) (exprs_of file es)
expr_of-List file line es = search (rules, the_lemmas)

pub expr_of-Tuple : (file line : ℕ) (es : List Expr) → expr_of file (held.Tuple line es) ≡ plain.tuple (place_at file line) (exprs_of file es)
expr_of-Tuple file line es = search (rules, the_lemmas)

pub expr_of-Dict : (file line : ℕ) (es : List Entry) → expr_of file (held.Dict line es) ≡ plain.dict (place_at file line) (entries_of file es)
expr_of-Dict file line es = search (rules, the_lemmas)

pub expr_of-Unary : (file line : ℕ) (op : UnOp) (a : Expr) → expr_of file (held.Unary line op a) ≡ plain.unary (place_at file line) (unary_operator_of op) (expr_of file a)
expr_of-Unary file line op a = search (rules, the_lemmas)

pub expr_of-Binary : (file line : ℕ) (op : BinOp) (a b : Expr) → expr_of file (held.Binary line op a b) ≡ plain.binary (place_at file line) (binary_operator_of op) (expr_of file a) (expr_of file b)
expr_of-Binary file line op a b = search (rules, the_lemmas)

pub expr_of-And : (file line : ℕ) (a b : Expr) → expr_of file (held.And line a b) ≡ plain.conjunction (place_at file line) (expr_of file a) (expr_of file b)
expr_of-And file line a b = search (rules, the_lemmas)

pub expr_of-Or : (file line : ℕ) (a b : Expr) → expr_of file (held.Or line a b) ≡ plain.disjunction (place_at file line) (expr_of file a) (expr_of file b)
expr_of-Or file line a b = search (rules, the_lemmas)

pub expr_of-If : (file line : ℕ) (t a b : Expr) → expr_of file (held.If line t a b) ≡ plain.conditional (place_at file line) (expr_of file t) (expr_of file a) (expr_of file b)
expr_of-If file line t a b = search (rules, the_lemmas)

pub expr_of-Call : (file line : ℕ) (f : Expr) (es : List Expr) → expr_of file (held.Call line f es) ≡ plain.call (place_at file line) (expr_of file f) (exprs_of file es)
expr_of-Call file line f es = search (rules, the_lemmas)

pub expr_of-Named : (file line : ℕ) (x : List ℕ) (e : Expr) → expr_of file (held.Named line x e) ≡ plain.named (place_at file line) x (expr_of file e)
expr_of-Named file line x e = search (rules, the_lemmas)

pub expr_of-Star : (file line : ℕ) (e : Expr) → expr_of file (held.Star line e) ≡ plain.starred (place_at file line) (expr_of file e)
expr_of-Star file line e = search (rules, the_lemmas)

pub expr_of-Stars : (file line : ℕ) (e : Expr) → expr_of file (held.Stars line e) ≡ plain.double_starred (place_at file line) (expr_of file e)
expr_of-Stars file line e = search (rules, the_lemmas)

pub expr_of-Index : (file line : ℕ) (a i : Expr) → expr_of file (held.Index line a i) ≡ plain.index (place_at file line) (expr_of file a) (expr_of file i)
expr_of-Index file line a i = search (rules, the_lemmas)

pub expr_of-Dot : (file line : ℕ) (a : Expr) (x : List ℕ) → expr_of file (held.Dot line a x) ≡ plain.attribute (place_at file line) (expr_of file a) x
expr_of-Dot file line a x = search (rules, the_lemmas)

pub expr_of-Lambda : (file line k : ℕ) (ps : List Param) (e : Expr) → expr_of file (held.Lambda line k ps e) ≡ plain.lambda (place_at file line) k (parameters_of file ps) (expr_of file e)
expr_of-Lambda file line k ps e = search (rules, the_lemmas)

pub expr_of-ListFor : (file line : ℕ) (e : Expr) (cs : List Clause) → expr_of file (held.ListFor line e cs) ≡ plain.list_comprehension (place_at file line) (expr_of file e) (clauses_of file cs)
expr_of-ListFor file line e cs = search (rules, the_lemmas)

pub expr_of-DictFor : (file line : ℕ) (k v : Expr) (cs : List Clause) → expr_of file (held.DictFor line k v cs) ≡ plain.dict_comprehension (place_at file line) (expr_of file k) (expr_of file v) (clauses_of file cs)
expr_of-DictFor file line k v cs = search (rules, the_lemmas)

pub expr_of-Template : (file line : ℕ) (ps : List Piece) → expr_of file (held.Template line ps) ≡ plain.text_template (place_at file line) (pieces_of file ps)
expr_of-Template file line ps = search (rules, the_lemmas)

optional_same : (file : ℕ) (o : Option Expr) → optional_from (option_map (expr_of file) o) ≡ optional_of file o
optional_same file None = refl
optional_same file (Some e) = refl

slice_of : (file line : ℕ) (a : Expr) (l h d : Option Expr) →
    expr_of file (held.Slice line a l h d) ≡ plain.slice (place_at file line) (expr_of file a) (optional_from (option_map (expr_of file) l)) (optional_from (option_map (expr_of file) h)) (optional_from (option_map (expr_of file) d))
slice_of file line a l h d = search (rules, the_lemmas)

pub expr_of-Slice : (file line : ℕ) (a : Expr) (l h d : Option Expr) → expr_of file (held.Slice line a l h d) ≡ plain.slice (place_at file line) (expr_of file a) (optional_of file l) (optional_of file h) (optional_of file d)
expr_of-Slice file line a l h d = slice_of file line a l h d ∙ (λ i. plain.slice (place_at file line) (expr_of file a) (optional_same file l i) (optional_same file h i) (optional_same file d i))

-- ---- what stands in lists

pub clause_of-ForIn : (file : ℕ) (t m : Expr) → clause_of file (clause.ForIn t m) ≡ for_part (expr_of file t) (expr_of file m)
clause_of-ForIn file t m = search (rules, the_lemmas)

pub clause_of-OnlyIf : (file : ℕ) (e : Expr) → clause_of file (clause.OnlyIf e) ≡ if_part (expr_of file e)
clause_of-OnlyIf file e = search (rules, the_lemmas)

pub entry_of-Pair : (file : ℕ) (k v : Expr) → entry_of file (entry.Pair k v) ≡ record { key = expr_of file k; value = expr_of file v }
entry_of-Pair file k v = search (rules, the_lemmas)

pub piece_of-Written : (file : ℕ) (t : List ℕ) → piece_of file (piece.Written t) ≡ written_part t
piece_of-Written file t = search (rules, the_lemmas)

pub piece_of-Shown : (file : ℕ) (e : Expr) → piece_of file (piece.Shown e) ≡ expr_part (expr_of file e)
piece_of-Shown file e = search (rules, the_lemmas)

pub parameter_of-Defaulted : (file : ℕ) (x : List ℕ) (e : Expr) → parameter_of file (param.Defaulted x e) ≡ default_part x (expr_of file e)
parameter_of-Defaulted file x e = search (rules, the_lemmas)

-- the plain expression, once the form is known
pub ruleset expressions = (expr_of-Int, expr_of-Text, expr_of-Name, expr_of-List, expr_of-Tuple, expr_of-Dict, expr_of-Unary, expr_of-Binary, expr_of-And, expr_of-Or, expr_of-If, expr_of-Call, expr_of-Named, expr_of-Star, expr_of-Stars, expr_of-Index, expr_of-Slice, expr_of-Dot, expr_of-Lambda, expr_of-ListFor, expr_of-DictFor, expr_of-Template)
