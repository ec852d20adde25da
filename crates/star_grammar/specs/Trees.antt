-- What the end of each alternative makes of the parts that were read, the last one first.
use Rattle.std.specs.Prelude.{ℕ, List, [], ◌∷◌, ◌++◌, None, codes}
use Rattle.star_tree.specs.declared.code.UnOp.{UnOp}
use Rattle.star_tree.specs.declared.code.UnOp.TheVariants as unary
use Rattle.star_tree.specs.declared.code.BinOp.{BinOp}
use Rattle.star_tree.specs.declared.code.BinOp.TheVariants as binary
use Rattle.star_tree.specs.declared.code.Clause.TheVariants as clause
use Rattle.star_tree.specs.declared.code.Entry.TheVariants as entry
use Rattle.star_tree.specs.declared.code.Expr.{Expr}
use Rattle.star_tree.specs.declared.code.Expr.TheVariants as expr
use Rattle.star_tree.specs.declared.code.Loaded.{Loaded}
use Rattle.star_tree.specs.declared.code.Param.TheVariants as param
use Rattle.star_tree.specs.declared.code.Stmt.{Stmt}
use Rattle.star_tree.specs.declared.code.Stmt.TheVariants as stmt
use Rattle.star_grammar.specs.declared.part.Part.{Part}
use Rattle.star_grammar.specs.declared.part.Part.TheVariants as part
use Rattle.star_grammar.specs.declared.table.Action.{Action}
use Rattle.star_grammar.specs.declared.table.Action.TheVariants as action
use Rattle.star_grammar.specs.declared.table.Opened.{Opened}
use Rattle.star_grammar.specs.declared.table.Opened.TheVariants as opened
use Rattle.star_grammar.specs.declared.table.Added.{Added}
use Rattle.star_grammar.specs.declared.table.Added.TheVariants as added
use Rattle.star_grammar.specs.declared.table.Made.{Made}
use Rattle.star_grammar.specs.declared.table.Made.TheVariants as made
use Rattle.star_grammar.specs.declared.table.Stated.{Stated}
use Rattle.star_grammar.specs.declared.table.Stated.TheVariants as stated
use Rattle.star_grammar.specs.declared.token.Mark.{Mark}
use Rattle.star_grammar.specs.declared.token.Mark.TheVariants as mark
use Rattle.star_grammar.specs.Parts.{top, under, expr_in, optional_in, exprs_in, entries_in, clauses_in, params_in, loads_in, code_in, line_in, mark_in, name_of, text_of}
use Rattle.star_params.specs.Parameters.{defaulted}

-- ---- operators

abbrev pub unary_of : Mark → UnOp
unary_of mark.Plus = unary.Plus
unary_of mark.Tilde = unary.Invert
unary_of mark.Not = unary.Not
unary_of m = unary.Minus

-- between two operands `not` is the first word of `not in`
abbrev pub binary_of : Mark → BinOp
binary_of mark.Minus = binary.Subtract
binary_of mark.Star = binary.Multiply
binary_of mark.DoubleSlash = binary.FloorDivide
binary_of mark.Percent = binary.Remainder
binary_of mark.Ampersand = binary.BitAnd
binary_of mark.Bar = binary.BitOr
binary_of mark.Caret = binary.BitXor
binary_of mark.ShiftLeft = binary.ShiftLeft
binary_of mark.ShiftRight = binary.ShiftRight
binary_of mark.Equal = binary.Equal
binary_of mark.Unequal = binary.Unequal
binary_of mark.Less = binary.Less
binary_of mark.Greater = binary.Greater
binary_of mark.AtMost = binary.AtMost
binary_of mark.AtLeast = binary.AtLeast
binary_of mark.In = binary.In
binary_of mark.Not = binary.NotIn
binary_of m = binary.Add

abbrev pub augmented_of : Mark → BinOp
augmented_of mark.MinusAssign = binary.Subtract
augmented_of mark.StarAssign = binary.Multiply
augmented_of mark.DoubleSlashAssign = binary.FloorDivide
augmented_of mark.PercentAssign = binary.Remainder
augmented_of mark.AmpersandAssign = binary.BitAnd
augmented_of mark.BarAssign = binary.BitOr
augmented_of mark.CaretAssign = binary.BitXor
augmented_of mark.ShiftLeftAssign = binary.ShiftLeft
augmented_of mark.ShiftRightAssign = binary.ShiftRight
augmented_of m = binary.Add

abbrev pub operation : ℕ → Mark → Expr → Expr → Expr
operation l mark.And a b = expr.And l a b
operation l mark.Or a b = expr.Or l a b
operation l m a b = expr.Binary l (binary_of m) a b

-- ---- empty parts

abbrev pub none_at : ℕ → Expr
none_at l = expr.Name l (codes "None")

abbrev pub opened_part : Opened → List Part → Part
opened_part opened.Exprs ps = part.Exprs 0 []
opened_part opened.Entries ps = part.Entries []
opened_part opened.Clauses ps = part.Clauses []
opened_part opened.Params ps = part.Params []
opened_part opened.Loads ps = part.Loads []
opened_part opened.Missing ps = part.Missing
-- a `return` alone, which stands before it, returns None
opened_part opened.NoResult ps = part.Expr (line_in (top ps)) (none_at (line_in (top ps)))
opened_part opened.EmptyTuple ps = part.Exprs 0 []

-- ---- parts that gather others

abbrev pub second : List Part → Part
second ps = top (under ps)

abbrev pub third : List Part → Part
third ps = top (under (under ps))

abbrev pub fourth : List Part → Part
fourth ps = top (under (under (under ps)))

abbrev pub fifth : List Part → Part
fifth ps = top (under (under (under (under ps))))

abbrev pub past_two : List Part → List Part
past_two ps = under (under ps)

abbrev pub past_three : List Part → List Part
past_three ps = under (under (under ps))

abbrev pub past_four : List Part → List Part
past_four ps = under (under (under (under ps)))

abbrev pub past_five : List Part → List Part
past_five ps = under (under (under (under (under ps))))

abbrev pub loaded : (bound origin : List ℕ) → Loaded
loaded x y = record { bound = x; origin = y }

-- an index: the whole, the bracket, the place in it
abbrev pub indexed : List Part → List Part
indexed ps = part.Expr (line_in (third ps)) (expr.Index (line_in (second ps)) (expr_in (third ps)) (expr_in (top ps))) ∷ past_three ps

abbrev pub added_parts : Added → List Part → List Part
added_parts added.First ps = part.Exprs (line_in (top ps)) (expr_in (top ps) ∷ []) ∷ under ps
added_parts added.Item ps = part.Exprs (line_in (second ps)) (exprs_in (second ps) ++ expr_in (top ps) ∷ []) ∷ past_two ps
added_parts added.EmptyList ps = ps
added_parts added.ListFor ps = part.ListFor (expr_in (second ps)) (clauses_in (top ps)) ∷ past_three ps
added_parts added.DictFor ps = part.DictFor (expr_in (third ps)) (expr_in (second ps)) (clauses_in (top ps)) ∷ past_four ps
added_parts added.Entry ps = part.Entries (entries_in (third ps) ++ entry.Pair (expr_in (second ps)) (expr_in (top ps)) ∷ []) ∷ past_three ps
added_parts added.ForClause ps = part.Clauses (clauses_in (third ps) ++ clause.ForIn (expr_in (second ps)) (expr_in (top ps)) ∷ []) ∷ past_three ps
added_parts added.IfClause ps = part.Clauses (clauses_in (second ps) ++ clause.OnlyIf (expr_in (top ps)) ∷ []) ∷ past_two ps
added_parts added.Required ps = part.Params (params_in (second ps) ++ param.Required (name_of (expr_in (top ps))) ∷ []) ∷ past_two ps
added_parts added.Default ps = part.Params (defaulted (params_in (second ps)) (expr_in (top ps))) ∷ past_two ps
added_parts added.Star ps = part.Params (params_in (second ps) ++ param.Starred (name_of (expr_in (top ps))) ∷ []) ∷ past_two ps
added_parts added.BareStar ps = part.Params (params_in (top ps) ++ param.BareStar ∷ []) ∷ under ps
added_parts added.Stars ps = part.Params (params_in (second ps) ++ param.DoubleStarred (name_of (expr_in (top ps))) ∷ []) ∷ past_two ps
added_parts added.Load ps = part.Loads (loads_in (second ps) ++ loaded (text_of (expr_in (top ps))) (text_of (expr_in (top ps))) ∷ []) ∷ past_two ps
added_parts added.LoadAs ps = part.Loads (loads_in (third ps) ++ loaded (name_of (expr_in (second ps))) (text_of (expr_in (top ps))) ∷ []) ∷ past_three ps
added_parts added.GroupIndex ps = indexed ps

-- ---- expressions

-- what stands in brackets: several expressions are a tuple that stands at the bracket
abbrev pub grouped : ℕ → Part → Expr
grouped l (part.Exprs f es) = expr.Tuple l es
grouped l p = expr_in p

abbrev pub listed : ℕ → Part → Expr
listed l (part.Exprs f es) = expr.List l es
listed l (part.ListFor e cs) = expr.ListFor l e cs
listed l p = expr.List l []

abbrev pub dicted : ℕ → Part → Expr
dicted l (part.Entries es) = expr.Dict l es
dicted l (part.DictFor k v cs) = expr.DictFor l k v cs
dicted l p = expr.Dict l []

abbrev pub starred : ℕ → Mark → Expr → Expr
starred l mark.Stars e = expr.Stars l e
starred l m e = expr.Star l e

abbrev pub made_parts : Made → List Part → List Part
made_parts made.Tuple ps = ps
made_parts made.Group ps = part.Expr (line_in (second ps)) (grouped (line_in (second ps)) (top ps)) ∷ past_two ps
made_parts made.List ps = part.Expr (line_in (second ps)) (listed (line_in (second ps)) (top ps)) ∷ past_two ps
made_parts made.Dict ps = part.Expr (line_in (second ps)) (dicted (line_in (second ps)) (top ps)) ∷ past_two ps
made_parts made.Unary ps = part.Expr (line_in (second ps)) (expr.Unary (line_in (second ps)) (unary_of (mark_in (second ps))) (expr_in (top ps))) ∷ past_two ps
made_parts made.Binary ps = part.Expr (line_in (third ps)) (operation (line_in (second ps)) (mark_in (second ps)) (expr_in (third ps)) (expr_in (top ps))) ∷ past_three ps
made_parts made.Conditional ps = part.Expr (line_in (fourth ps)) (expr.If (line_in (third ps)) (expr_in (second ps)) (expr_in (fourth ps)) (expr_in (top ps))) ∷ past_four ps
made_parts made.Lambda ps = part.Expr (line_in (third ps)) (expr.Lambda (line_in (third ps)) 0 (params_in (second ps)) (expr_in (top ps))) ∷ past_three ps
made_parts made.Dot ps = part.Expr (line_in (third ps)) (expr.Dot (line_in (second ps)) (expr_in (third ps)) (name_of (expr_in (top ps)))) ∷ past_three ps
made_parts made.Call ps = part.Expr (line_in (third ps)) (expr.Call (line_in (second ps)) (expr_in (third ps)) (exprs_in (top ps))) ∷ past_three ps
made_parts made.Index ps = indexed ps
made_parts made.Slice ps = part.Expr (line_in (fifth ps)) (expr.Slice (line_in (fourth ps)) (expr_in (fifth ps)) (optional_in (third ps)) (optional_in (second ps)) (optional_in (top ps))) ∷ past_five ps
made_parts made.Named ps = part.Expr (line_in (second ps)) (expr.Named (line_in (second ps)) (name_of (expr_in (second ps))) (expr_in (top ps))) ∷ past_two ps
made_parts made.Starred ps = part.Expr (line_in (second ps)) (starred (line_in (second ps)) (mark_in (second ps)) (expr_in (top ps))) ∷ past_two ps

-- ---- statements

abbrev pub statement_of_word : ℕ → Mark → Stmt
statement_of_word l mark.Break = stmt.Break l
statement_of_word l mark.Continue = stmt.Continue l
statement_of_word l mark.Else = stmt.Else l
statement_of_word l mark.End = stmt.Close l
statement_of_word l m = stmt.Pass l

abbrev pub statement_with : ℕ → Mark → Expr → Stmt
statement_with l mark.If e = stmt.If l e
statement_with l mark.Elif e = stmt.Elif l e
statement_with l m e = stmt.Return l e

-- the statements so far, and one more
abbrev pub with_statement : Part → Stmt → Part
with_statement p s = part.Code (code_in p ++ s ∷ [])

abbrev pub stated_parts : Stated → List Part → List Part
stated_parts stated.Word ps = with_statement (second ps) (statement_of_word (line_in (top ps)) (mark_in (top ps))) ∷ past_two ps
stated_parts stated.WordExpr ps = with_statement (third ps) (statement_with (line_in (second ps)) (mark_in (second ps)) (expr_in (top ps))) ∷ past_three ps
stated_parts stated.Load ps = with_statement (fourth ps) (stmt.Load (line_in (third ps)) (text_of (expr_in (second ps))) (loads_in (top ps))) ∷ past_four ps
stated_parts stated.Assign ps = with_statement (third ps) (stmt.Assign (line_in (second ps)) (expr_in (second ps)) (expr_in (top ps))) ∷ past_three ps
stated_parts stated.Augment ps = with_statement (fourth ps) (stmt.Augment (line_in (third ps)) (augmented_of (mark_in (second ps))) (line_in (second ps)) (expr_in (third ps)) (expr_in (top ps))) ∷ past_four ps
stated_parts stated.Evaluate ps = with_statement (second ps) (stmt.Expr (line_in (top ps)) (expr_in (top ps))) ∷ past_two ps
stated_parts stated.For ps = with_statement (fourth ps) (stmt.For (line_in (third ps)) (expr_in (second ps)) (expr_in (top ps))) ∷ past_four ps
stated_parts stated.Def ps = with_statement (fourth ps) (stmt.Def (line_in (third ps)) 0 None (name_of (expr_in (second ps))) (params_in (top ps))) ∷ past_four ps

abbrev pub built : Action → List Part → List Part
built action.Keep ps = ps
built action.Floor ps = ps
built (action.Open o) ps = opened_part o ps ∷ ps
built (action.Add a) ps = added_parts a ps
built (action.Make m) ps = made_parts m ps
built (action.State s) ps = stated_parts s ps
