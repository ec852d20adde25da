-- What is read of code as the grammar says is what the program holds: each part that reading makes of tokens is such.
use Rattle.std.proofs.Common.{◌≡◌, ℕ, Bool, true, false, if◌then◌else◌, List, [], ◌∷◌, ◌++◌, Some, None, Ok, Err, sym, subst, rules, arith}
use Rattle.std.specs.Prelude.{codes, map as each}
use Rattle.std.specs.Result.{IfOk}
use Rattle.std.specs.Str.{IsUtf8}
use Rattle.std.proofs.lemmas.Result.{IfOk-at_ok}
use Rattle.std.proofs.lemmas.Str.{IsUtf8-from_ascii, IsUtf8-nil}
use Rattle.std.proofs.lemmas.Str.Ascii.{IsAscii-cons, IsAscii-nil}
use Rattle.ytt_base.specs.declared.fault.Place.{Place}
use Rattle.ytt_base.specs.Outcomes.{Outcome, place_at}
use Rattle.code_spec.specs.Code as plain
use Rattle.code_spec.specs.CodeReading.{CodeReader}
use Rattle.star_spec.specs.Held.{HeldExpr, HeldExprs, HeldOptional, HeldEntries, HeldClauses, HeldParameters}
use Rattle.star_tree.specs.declared.code.Clause.{Clause}
use Rattle.star_tree.specs.declared.code.Clause.TheOpen.{Param-F}
use Rattle.star_tree.specs.declared.code.Clause.TheVariants as clause
use Rattle.star_tree.specs.declared.code.Entry.{Entry}
use Rattle.star_tree.specs.declared.code.Entry.TheVariants as entry
use Rattle.star_tree.specs.declared.code.Expr.{Expr, the_lemmas}
use Rattle.star_tree.specs.declared.code.Expr.TheVariants as expr
use Rattle.star_tree.specs.declared.code.Param.{Param, out-Param}
use Rattle.star_tree.specs.declared.code.Param.TheVariants as param
use Rattle.star_tree.specs.declared.code.Stmt.{Stmt}
use Rattle.star_tree.specs.declared.code.Stmt.TheVariants as stmt
use Rattle.star_tree.specs.Listed.{clause_of, entries_of, entry_of, optional_of}
use Rattle.star_tree.specs.Whole as whole
use Rattle.star_tree.specs.Whole.{clauses_from, default_part, bare_part, for_part, if_part, named_part, parameters_from, star_part, stars_part, expr_of, exprs_of, instruction_of, instructions_of, parameter_of, parameters_of}
use Rattle.star_tree.proofs.Forms.{expr_of-Int, expr_of-Text, expr_of-Name, expr_of-List, expr_of-Tuple, expr_of-Dict, expr_of-Unary, expr_of-Binary, expr_of-And, expr_of-Or, expr_of-If, expr_of-Call, expr_of-Named, expr_of-Star, expr_of-Stars, expr_of-Index, expr_of-Slice, expr_of-Dot, expr_of-Lambda, expr_of-ListFor, expr_of-DictFor, clause_of-ForIn, clause_of-OnlyIf, entry_of-Pair, parameter_of-Defaulted}
use Rattle.ll.specs.Grammar.{Parts, Symbols, done, token, node, terminal, rule, spell, IsWhole}
use Rattle.star_grammar.specs.declared.part.Part.{Part}
use Rattle.star_grammar.specs.declared.part.Part.TheVariants as part
use Rattle.star_grammar.specs.declared.start.Start.{Start}
use Rattle.star_grammar.specs.declared.start.Start.TheVariants as start
use Rattle.star_grammar.specs.declared.table.Action.{Action}
use Rattle.star_grammar.specs.declared.table.Action.TheVariants as action
use Rattle.star_grammar.specs.declared.table.Added.{Added}
use Rattle.star_grammar.specs.declared.table.Added.TheVariants as added
use Rattle.star_grammar.specs.declared.table.Made.{Made}
use Rattle.star_grammar.specs.declared.table.Made.TheVariants as made
use Rattle.star_grammar.specs.declared.table.Opened.{Opened}
use Rattle.star_grammar.specs.declared.table.Opened.TheVariants as opened
use Rattle.star_grammar.specs.declared.table.Stated.{Stated}
use Rattle.star_grammar.specs.declared.table.Stated.TheVariants as stated
use Rattle.star_grammar.specs.declared.table.Terminal.{Terminal}
use Rattle.star_grammar.specs.declared.table.Terminal.TheVariants as terminals
use Rattle.star_grammar.specs.declared.token.Mark.{Mark}
use Rattle.star_grammar.specs.declared.token.Mark.TheVariants as mark
use Rattle.star_grammar.specs.declared.token.Origin.{Origin}
use Rattle.star_grammar.specs.declared.token.Origin.TheVariants as origin
use Rattle.star_grammar.specs.declared.token.Token.{Token}
use Rattle.star_grammar.specs.declared.token.TokenKind.{TokenKind}
use Rattle.star_grammar.specs.declared.token.TokenKind.TheVariants as kind
use Rattle.star_grammar.specs.CodeReaders.{IsCodeReader, ReadsFrom}
use Rattle.star_grammar.specs.Language.{language, Value, leaf, may_stand, taken, with_token}
use Rattle.star_grammar.specs.Parts.{clauses_in, code_in, entries_in, expr_in, exprs_in, line_in, mark_in, name_of, optional_in, params_in, top, under}
use Rattle.star_params.specs.Parameters.{Parameter, defaulted, with_default}
use Rattle.star_grammar.specs.Reading.{IsRead, empty_of, entry_of as reading_of, header_in, header_of}
use Rattle.star_grammar.specs.Table.{action_of}
use Rattle.star_grammar.specs.Trees.{added_parts, built, dicted, fourth, grouped, indexed, listed, made_parts, opened_part, operation, second, starred, stated_parts, statement_of_word, statement_with, third, fifth}
use Rattle.ytt_spec.proofs.HeldCode.{ReadsHeld, HeldHeader, HeldInstruction, HeldLine}
use Rattle.ytt_spec.proofs.ReadTokens.{HeldKind, HeldTokens, tokens_held}

module _ (file : ℕ) where
  -- an expression, with the name that it is, if it is one
  abbrev HeldOne : Expr → Type 0
  HeldOne e = HeldExpr (expr_of file e) × IsUtf8 (name_of e)

  form : (e : Expr) (x : plain.Expr) → expr_of file e ≡ x → name_of e ≡ [] → HeldExpr x → HeldOne e
  form e x is unnamed h = (subst HeldExpr (sym is) h, subst IsUtf8 (sym unnamed) IsUtf8-nil)

  -- ---- rows

  abbrev HeldClause : whole.Clause → Type 0
  HeldClause (for_part t m) = HeldExpr t × HeldExpr m
  HeldClause (if_part e) = HeldExpr e

  abbrev AllClauses : List whole.Clause → Type 0
  AllClauses [] = Unit {0}
  AllClauses (c ∷ cs) = HeldClause c × AllClauses cs

  all_clauses : (cs : List whole.Clause) → AllClauses cs → HeldClauses (clauses_from cs)
  all_clauses [] h = tt
  all_clauses (for_part t m ∷ cs) h = (h.0.0, h.0.1, all_clauses cs h.1)
  all_clauses (if_part e ∷ cs) h = (h.0, all_clauses cs h.1)

  abbrev HeldParameter : whole.Parameter → Type 0
  HeldParameter (default_part x e) = HeldExpr e
  HeldParameter p = Unit {0}

  abbrev AllParameters : List whole.Parameter → Type 0
  AllParameters [] = Unit {0}
  AllParameters (p ∷ ps) = HeldParameter p × AllParameters ps

  all_parameters : (ps : List whole.Parameter) → AllParameters ps → HeldParameters (parameters_from ps)
  all_parameters [] h = tt
  all_parameters (named_part x ∷ ps) h = all_parameters ps h.1
  all_parameters (default_part x e ∷ ps) h = (h.0, all_parameters ps h.1)
  all_parameters (bare_part ∷ ps) h = all_parameters ps h.1
  all_parameters (star_part x ∷ ps) h = all_parameters ps h.1
  all_parameters (stars_part x ∷ ps) h = all_parameters ps h.1

  abbrev HeldRow : List Clause → Type 0
  HeldRow cs = AllClauses (each (clause_of file) cs)

  abbrev HeldParams : List Param → Type 0
  HeldParams ps = AllParameters (each (parameter_of file) ps)

  -- ---- parts

  abbrev HeldPart : Part → Type 0
  HeldPart part.Missing = Unit {0}
  HeldPart (part.Mark l m) = Unit {0}
  HeldPart (part.Expr l e) = HeldOne e
  HeldPart (part.Exprs l es) = HeldExprs (exprs_of file es)
  HeldPart (part.Entries es) = HeldEntries (entries_of file es)
  HeldPart (part.Clauses cs) = HeldRow cs
  HeldPart (part.ListFor e cs) = HeldExpr (expr_of file e) × HeldRow cs
  HeldPart (part.DictFor k v cs) = HeldExpr (expr_of file k) × HeldExpr (expr_of file v) × HeldRow cs
  HeldPart (part.Params ps) = HeldParams ps
  HeldPart (part.Loads ls) = Unit {0}
  HeldPart (part.Code ss) = HeldLine (instructions_of file ss)

  abbrev HeldParts : List Part → Type 0
  HeldParts [] = Unit {0}
  HeldParts (p ∷ ps) = HeldPart p × HeldParts ps

  held_top : (ps : List Part) → HeldParts ps → HeldPart (top ps)
  held_top [] h = tt
  held_top (p ∷ ps) h = h.0

  held_under : (ps : List Part) → HeldParts ps → HeldParts (under ps)
  held_under [] h = tt
  held_under (p ∷ ps) h = h.1

  none_utf8 : IsUtf8 (codes "None")
  none_utf8 =
      IsUtf8-from_ascii (codes "None")
      (IsAscii-cons 78 (codes "one") (omega arith) (IsAscii-cons 111 (codes "ne") (omega arith) (IsAscii-cons 110 (codes "e") (omega arith) (IsAscii-cons 101 [] (omega arith) IsAscii-nil))))

  held_name : (l : ℕ) (x : List ℕ) → IsUtf8 x → HeldOne (expr.Name l x)
  held_name l x h =
      let same : x ≡ name_of (expr.Name l x) = search (rules, the_lemmas) in
      (subst HeldExpr (sym (expr_of-Name file l x)) tt, subst IsUtf8 same h)

  held_tuple : (l : ℕ) (es : List Expr) → HeldExprs (exprs_of file es) → HeldOne (expr.Tuple l es)
  held_tuple l es h = form _ _ (expr_of-Tuple file l es) (search (rules, the_lemmas)) h

  held_list : (l : ℕ) (es : List Expr) → HeldExprs (exprs_of file es) → HeldOne (expr.List l es)
  held_list l es h = form _ _ (expr_of-List file l es) (search (rules, the_lemmas)) h

  held_dict : (l : ℕ) (es : List Entry) → HeldEntries (entries_of file es) → HeldOne (expr.Dict l es)
  held_dict l es h = form _ _ (expr_of-Dict file l es) (search (rules, the_lemmas)) h

  expr_held : (p : Part) → HeldPart p → HeldOne (expr_in p)
  expr_held (part.Expr l e) h = h
  expr_held (part.Exprs l es) h = held_tuple l es h
  expr_held part.Missing h = held_tuple 0 [] tt
  expr_held (part.Mark l m) h = held_tuple 0 [] tt
  expr_held (part.Entries es) h = held_tuple 0 [] tt
  expr_held (part.Clauses cs) h = held_tuple 0 [] tt
  expr_held (part.ListFor e cs) h = held_tuple 0 [] tt
  expr_held (part.DictFor k v cs) h = held_tuple 0 [] tt
  expr_held (part.Params ps) h = held_tuple 0 [] tt
  expr_held (part.Loads ls) h = held_tuple 0 [] tt
  expr_held (part.Code ss) h = held_tuple 0 [] tt

  optional_held : (p : Part) → HeldPart p → HeldOptional (optional_of file (optional_in p))
  optional_held part.Missing h = tt
  optional_held (part.Expr l e) h = h.0
  optional_held (part.Exprs l es) h = (held_tuple l es h).0
  optional_held (part.Mark l m) h = (held_tuple 0 [] tt).0
  optional_held (part.Entries es) h = (held_tuple 0 [] tt).0
  optional_held (part.Clauses cs) h = (held_tuple 0 [] tt).0
  optional_held (part.ListFor e cs) h = (held_tuple 0 [] tt).0
  optional_held (part.DictFor k v cs) h = (held_tuple 0 [] tt).0
  optional_held (part.Params ps) h = (held_tuple 0 [] tt).0
  optional_held (part.Loads ls) h = (held_tuple 0 [] tt).0
  optional_held (part.Code ss) h = (held_tuple 0 [] tt).0

  exprs_held : (p : Part) → HeldPart p → HeldExprs (exprs_of file (exprs_in p))
  exprs_held (part.Exprs l es) h = h
  exprs_held p h = tt

  entries_held : (p : Part) → HeldPart p → HeldEntries (entries_of file (entries_in p))
  entries_held (part.Entries es) h = h
  entries_held p h = tt

  clauses_held : (p : Part) → HeldPart p → HeldRow (clauses_in p)
  clauses_held (part.Clauses cs) h = h
  clauses_held p h = tt

  params_held : (p : Part) → HeldPart p → HeldParams (params_in p)
  params_held (part.Params ps) h = h
  params_held p h = tt

  code_held : (p : Part) → HeldPart p → HeldLine (instructions_of file (code_in p))
  code_held (part.Code ss) h = h
  code_held p h = tt

  -- ---- one more in a row

  exprs_more : (es : List Expr) (e : Expr) → HeldExprs (exprs_of file es) → HeldExpr (expr_of file e) → HeldExprs (exprs_of file (es ++ e ∷ []))
  exprs_more [] e h g = (g, tt)
  exprs_more (a ∷ es) e h g = (h.0, exprs_more es e h.1 g)

  entries_more : (es : List Entry) (e : Entry) → HeldEntries (entries_of file es) → HeldExpr (entry_of file e).key → HeldExpr (entry_of file e).value → HeldEntries (entries_of file (es ++ e ∷ []))
  entries_more [] e h g f = (g, f, tt)
  entries_more (a ∷ es) e h g f = (h.0, h.1, entries_more es e h.2 g f)

  clauses_more : (cs : List Clause) (c : Clause) → HeldRow cs → HeldClause (clause_of file c) → HeldRow (cs ++ c ∷ [])
  clauses_more [] c h g = (g, tt)
  clauses_more (a ∷ cs) c h g = (h.0, clauses_more cs c h.1 g)

  params_more : (ps : List Param) (p : Param) → HeldParams ps → HeldParameter (parameter_of file p) → HeldParams (ps ++ p ∷ [])
  params_more [] p h g = (g, tt)
  params_more (a ∷ ps) p h g = (h.0, params_more ps p h.1 g)

  line_more : (ss : List Stmt) (s : Stmt) → HeldLine (instructions_of file ss) → HeldInstruction (instruction_of file s) → HeldLine (instructions_of file (ss ++ s ∷ []))
  line_more [] s h g = (g, tt)
  line_more (a ∷ ss) s h g = (h.0, line_more ss s h.1 g)

  given_default : (q : Parameter) (e : Expr) (p : Param) → HeldParameter (parameter_of file p) → HeldExpr (expr_of file e) → HeldParameter (parameter_of file (with_default q e p))
  given_default (Param-F.Required x) e p h g = subst HeldParameter (sym (parameter_of-Defaulted file x e)) g
  given_default (Param-F.Defaulted x d) e p h g = h
  given_default Param-F.BareStar e p h g = h
  given_default (Param-F.Starred x) e p h g = h
  given_default (Param-F.DoubleStarred x) e p h g = h

  with_default_held : (ps : List Param) (e : Expr) → HeldParams ps → HeldExpr (expr_of file e) → HeldParams (defaulted ps e)
  with_default_held [] e h g = tt
  with_default_held (p ∷ []) e h g = (given_default (out-Param p) e p h.0 g, tt)
  with_default_held (p ∷ q ∷ ps) e h g = (h.0, with_default_held (q ∷ ps) e h.1 g)

  plain_parameter : (p : Param) (x : whole.Parameter) → parameter_of file p ≡ x → HeldParameter x → HeldParameter (parameter_of file p)
  plain_parameter p x is h = subst HeldParameter (sym is) h

  -- ---- what ends make

  opened_held : (o : Opened) (ps : List Part) → HeldPart (opened_part o ps)
  opened_held opened.NoResult ps = held_name (line_in (top ps)) (codes "None") none_utf8
  opened_held opened.Exprs ps = tt
  opened_held opened.Entries ps = tt
  opened_held opened.Clauses ps = tt
  opened_held opened.Params ps = tt
  opened_held opened.Loads ps = tt
  opened_held opened.Missing ps = tt
  opened_held opened.EmptyTuple ps = tt

  group_held : (l : ℕ) (p : Part) → HeldPart p → HeldOne (grouped l p)
  group_held l (part.Exprs f es) h = held_tuple l es h
  group_held l (part.Expr f e) h = h
  group_held l part.Missing h = expr_held part.Missing h
  group_held l (part.Mark f m) h = expr_held (part.Mark f m) h
  group_held l (part.Entries es) h = expr_held (part.Entries es) h
  group_held l (part.Clauses cs) h = expr_held (part.Clauses cs) h
  group_held l (part.ListFor e cs) h = expr_held (part.ListFor e cs) h
  group_held l (part.DictFor k v cs) h = expr_held (part.DictFor k v cs) h
  group_held l (part.Params ps) h = expr_held (part.Params ps) h
  group_held l (part.Loads ls) h = expr_held (part.Loads ls) h
  group_held l (part.Code ss) h = expr_held (part.Code ss) h

  list_held : (l : ℕ) (p : Part) → HeldPart p → HeldOne (listed l p)
  list_held l (part.Exprs f es) h = held_list l es h
  list_held l (part.ListFor e cs) h = form _ _ (expr_of-ListFor file l e cs) (search (rules, the_lemmas)) (h.0, all_clauses (each (clause_of file) cs) h.1)
  list_held l part.Missing h = held_list l [] tt
  list_held l (part.Mark f m) h = held_list l [] tt
  list_held l (part.Expr f e) h = held_list l [] tt
  list_held l (part.Entries es) h = held_list l [] tt
  list_held l (part.Clauses cs) h = held_list l [] tt
  list_held l (part.DictFor k v cs) h = held_list l [] tt
  list_held l (part.Params ps) h = held_list l [] tt
  list_held l (part.Loads ls) h = held_list l [] tt
  list_held l (part.Code ss) h = held_list l [] tt

  dict_held : (l : ℕ) (p : Part) → HeldPart p → HeldOne (dicted l p)
  dict_held l (part.Entries es) h = held_dict l es h
  dict_held l (part.DictFor k v cs) h = form _ _ (expr_of-DictFor file l k v cs) (search (rules, the_lemmas)) (h.0, h.1, all_clauses (each (clause_of file) cs) h.2)
  dict_held l part.Missing h = held_dict l [] tt
  dict_held l (part.Mark f m) h = held_dict l [] tt
  dict_held l (part.Expr f e) h = held_dict l [] tt
  dict_held l (part.Exprs f es) h = held_dict l [] tt
  dict_held l (part.Clauses cs) h = held_dict l [] tt
  dict_held l (part.ListFor e cs) h = held_dict l [] tt
  dict_held l (part.Params ps) h = held_dict l [] tt
  dict_held l (part.Loads ls) h = held_dict l [] tt
  dict_held l (part.Code ss) h = held_dict l [] tt

  operation_held : (l : ℕ) (m : Mark) (a b : Expr) → HeldExpr (expr_of file a) → HeldExpr (expr_of file b) → HeldOne (operation l m a b)
  operation_held l mark.And a b h g = form _ _ (expr_of-And file l a b) (search (rules, the_lemmas)) (h, g)
  operation_held l mark.Or a b h g = form _ _ (expr_of-Or file l a b) (search (rules, the_lemmas)) (h, g)
  operation_held l m a b h g = form _ _ (expr_of-Binary file l _ a b) (search (rules, the_lemmas)) (h, g)

  starred_held : (l : ℕ) (m : Mark) (e : Expr) → HeldExpr (expr_of file e) → HeldOne (starred l m e)
  starred_held l mark.Stars e h = form _ _ (expr_of-Stars file l e) (search (rules, the_lemmas)) h
  starred_held l m e h = form _ _ (expr_of-Star file l e) (search (rules, the_lemmas)) h

  -- a statement of one word, and one of a word and an expression
  word_held : (l : ℕ) (m : Mark) → HeldInstruction (instruction_of file (statement_of_word l m))
  word_held l mark.Break = tt
  word_held l mark.Continue = tt
  word_held l mark.Else = tt
  word_held l mark.End = tt
  word_held l m = tt

  with_held : (l : ℕ) (m : Mark) (e : Expr) → HeldExpr (expr_of file e) → HeldInstruction (instruction_of file (statement_with l m e))
  with_held l mark.If e h = h
  with_held l mark.Elif e h = h
  with_held l m e h = h

  -- the parts behind some, and the expressions that they are
  module _ (ps : List Part) (h : HeldParts ps) where
    h1 : HeldParts (under ps)
    h1 = held_under ps h

    h2 : HeldParts (under (under ps))
    h2 = held_under (under ps) h1

    h3 : HeldParts (under (under (under ps)))
    h3 = held_under (under (under ps)) h2

    h4 : HeldParts (under (under (under (under ps))))
    h4 = held_under (under (under (under ps))) h3

    h5 : HeldParts (under (under (under (under (under ps)))))
    h5 = held_under (under (under (under (under ps)))) h4

    e1 : HeldOne (expr_in (top ps))
    e1 = expr_held (top ps) (held_top ps h)

    e2 : HeldOne (expr_in (second ps))
    e2 = expr_held (second ps) (held_top (under ps) h1)

    e3 : HeldOne (expr_in (third ps))
    e3 = expr_held (third ps) (held_top (under (under ps)) h2)

    e4 : HeldOne (expr_in (fourth ps))
    e4 = expr_held (fourth ps) (held_top (under (under (under ps))) h3)

    e5 : HeldOne (expr_in (fifth ps))
    e5 = expr_held (fifth ps) (held_top (under (under (under (under ps)))) h4)

    p1 : HeldPart (top ps)
    p1 = held_top ps h

    p2 : HeldPart (second ps)
    p2 = held_top (under ps) h1

    p3 : HeldPart (third ps)
    p3 = held_top (under (under ps)) h2

    p4 : HeldPart (fourth ps)
    p4 = held_top (under (under (under ps))) h3

    index_held : HeldParts (indexed ps)
    index_held = (form _ _ (expr_of-Index file _ _ _) (search (rules, the_lemmas)) (e3.0, e1.0), h3)

    added_held : (a : Added) → HeldParts (added_parts a ps)
    added_held added.First = ((e1.0, tt), h1)
    added_held added.Item = (exprs_more (exprs_in (second ps)) (expr_in (top ps)) (exprs_held (second ps) p2) e1.0, h2)
    added_held added.EmptyList = h
    added_held added.ListFor = ((e2.0, clauses_held (top ps) p1), h3)
    added_held added.DictFor = ((e3.0, e2.0, clauses_held (top ps) p1), h4)
    added_held added.Entry =
        let is = sym (entry_of-Pair file (expr_in (second ps)) (expr_in (top ps))) in
        (entries_more (entries_in (third ps)) (entry.Pair (expr_in (second ps)) (expr_in (top ps))) (entries_held (third ps) p3) (subst (λ (x : whole.Entry). HeldExpr x.key) is e2.0) (subst (λ (x : whole.Entry). HeldExpr x.value) is e1.0), h3)
    added_held added.ForClause = (clauses_more (clauses_in (third ps)) (clause.ForIn (expr_in (second ps)) (expr_in (top ps))) (clauses_held (third ps) p3) (subst HeldClause (sym (clause_of-ForIn file (expr_in (second ps)) (expr_in (top ps)))) (e2.0, e1.0)), h3)
    added_held added.IfClause = (clauses_more (clauses_in (second ps)) (clause.OnlyIf (expr_in (top ps))) (clauses_held (second ps) p2) (subst HeldClause (sym (clause_of-OnlyIf file (expr_in (top ps)))) e1.0), h2)
    added_held added.Required = (params_more (params_in (second ps)) (param.Required (name_of (expr_in (top ps)))) (params_held (second ps) p2) (plain_parameter _ (named_part (name_of (expr_in (top ps)))) (search (rules, the_lemmas)) tt), h2)
    added_held added.Default = (with_default_held (params_in (second ps)) (expr_in (top ps)) (params_held (second ps) p2) e1.0, h2)
    added_held added.Star = (params_more (params_in (second ps)) (param.Starred (name_of (expr_in (top ps)))) (params_held (second ps) p2) (plain_parameter _ (star_part (name_of (expr_in (top ps)))) (search (rules, the_lemmas)) tt), h2)
    added_held added.BareStar = (params_more (params_in (top ps)) param.BareStar (params_held (top ps) p1) (plain_parameter _ bare_part (search (rules, the_lemmas)) tt), h1)
    added_held added.Stars = (params_more (params_in (second ps)) (param.DoubleStarred (name_of (expr_in (top ps)))) (params_held (second ps) p2) (plain_parameter _ (stars_part (name_of (expr_in (top ps)))) (search (rules, the_lemmas)) tt), h2)
    added_held added.Load = (tt, h2)
    added_held added.LoadAs = (tt, h3)
    added_held added.GroupIndex = index_held

    made_held : (m : Made) → HeldParts (made_parts m ps)
    made_held made.Tuple = h
    made_held made.Group = (group_held (line_in (second ps)) (top ps) p1, h2)
    made_held made.List = (list_held (line_in (second ps)) (top ps) p1, h2)
    made_held made.Dict = (dict_held (line_in (second ps)) (top ps) p1, h2)
    made_held made.Unary = (form _ _ (expr_of-Unary file _ _ _) (search (rules, the_lemmas)) e1.0, h2)
    made_held made.Binary = (operation_held (line_in (second ps)) (mark_in (second ps)) (expr_in (third ps)) (expr_in (top ps)) e3.0 e1.0, h3)
    made_held made.Conditional = (form _ _ (expr_of-If file _ _ _ _) (search (rules, the_lemmas)) (e2.0, e4.0, e1.0), h4)
    made_held made.Lambda = (form _ _ (expr_of-Lambda file _ 0 (params_in (second ps)) _) (search (rules, the_lemmas)) (all_parameters (each (parameter_of file) (params_in (second ps))) (params_held (second ps) p2), e1.0), h3)
    made_held made.Dot = (form _ _ (expr_of-Dot file _ _ _) (search (rules, the_lemmas)) e3.0, h3)
    made_held made.Call = (form _ _ (expr_of-Call file _ _ _) (search (rules, the_lemmas)) (e3.0, exprs_held (top ps) p1), h3)
    made_held made.Index = index_held
    made_held made.Slice = (form _ _ (expr_of-Slice file _ _ _ _ _) (search (rules, the_lemmas)) (e5.0, optional_held (third ps) p3, optional_held (second ps) p2, optional_held (top ps) p1), h5)
    made_held made.Named = (form _ _ (expr_of-Named file _ _ _) (search (rules, the_lemmas)) (e2.1, e1.0), h2)
    made_held made.Starred = (starred_held (line_in (second ps)) (mark_in (second ps)) (expr_in (top ps)) e1.0, h2)

    stated_held : (s : Stated) → HeldParts (stated_parts s ps)
    stated_held stated.Word = (line_more (code_in (second ps)) (statement_of_word (line_in (top ps)) (mark_in (top ps))) (code_held (second ps) p2) (word_held (line_in (top ps)) (mark_in (top ps))), h2)
    stated_held stated.WordExpr = (line_more (code_in (third ps)) (statement_with (line_in (second ps)) (mark_in (second ps)) (expr_in (top ps))) (code_held (third ps) p3) (with_held (line_in (second ps)) (mark_in (second ps)) (expr_in (top ps)) e1.0), h3)
    stated_held stated.Load = (line_more (code_in (fourth ps)) _ (code_held (fourth ps) p4) tt, h4)
    stated_held stated.Assign = (line_more (code_in (third ps)) _ (code_held (third ps) p3) (e2.0, e1.0), h3)
    stated_held stated.Augment = (line_more (code_in (fourth ps)) _ (code_held (fourth ps) p4) (e3.0, e1.0), h4)
    stated_held stated.Evaluate = (line_more (code_in (second ps)) _ (code_held (second ps) p2) e1.0, h2)
    stated_held stated.For = (line_more (code_in (fourth ps)) _ (code_held (fourth ps) p4) (e2.0, e1.0), h4)
    stated_held stated.Def = (line_more (code_in (fourth ps)) _ (code_held (fourth ps) p4) (e2.1, all_parameters (each (parameter_of file) (params_in (top ps))) (params_held (top ps) p1)), h4)

    built_held : (a : Action) → HeldParts (built a ps)
    built_held action.Keep = h
    built_held action.Floor = h
    built_held (action.Open o) = (opened_held o ps, h)
    built_held (action.Add a) = added_held a
    built_held (action.Make m) = made_held m
    built_held (action.State s) = stated_held s

  -- ---- tokens

  leaf_held : (l : ℕ) (k : TokenKind) → HeldKind k → HeldOne (leaf l k)
  leaf_held l (kind.Name x) h = held_name l x h
  leaf_held l (kind.Int z) h = form _ _ (expr_of-Int file l z) (search (rules, the_lemmas)) h
  leaf_held l (kind.Text t) h = form _ _ (expr_of-Text file l t) (search (rules, the_lemmas)) h
  leaf_held l (kind.Mark m) h = held_tuple 0 [] tt

  token_held : (a : Terminal) (k : Token) (ps : List Part) → HeldKind k.kind → HeldParts ps → HeldParts (with_token a k ps)
  token_held (terminals.Kept c) k ps h g = (tt, g)
  token_held (terminals.Passed c) k ps h g = g
  token_held (terminals.Leaf c) k ps h g = (leaf_held k.line k.kind h, g)
  token_held terminals.Word k ps h g = (leaf_held k.line k.kind h, g)
  token_held terminals.Param k ps h g = (leaf_held k.line k.kind h, g)
  token_held (terminals.Enter c) k ps h g = (tt, g)
  token_held terminals.Leave k ps h g = (tt, g)

  shifted : (b : Bool) (u w : Value) → (if b then Some u else None) ≡ Some w → u ≡ w
  shifted true u w e = cc
  shifted false u w e = absurd (search (rules, e))

  -- ---- sources

  abbrev HeldSource : Parts language → Type 0
  HeldSource done = Unit {0}
  HeldSource (token k s) = HeldKind k.kind × HeldSource s
  HeldSource (node c inner s) = HeldSource inner × HeldSource s

  spelled_held : (s : Parts language) (ts : List Token) → HeldTokens (spell s ts) → HeldSource s × HeldTokens ts
  spelled_held done ts h = (tt, h)
  spelled_held (token k s) ts h = let r = spelled_held s ts h.1 in ((h.0, r.0), r.1)
  spelled_held (node c inner s) ts h =
      let a = spelled_held inner (spell s ts) h in
      let b = spelled_held s ts a.1 in
      ((a.0, b.0), b.1)

  whole_held : (xs : Symbols language) (s : Parts language) (v w : Value) → HeldSource s → HeldParts v.parts → IsWhole language xs s v w → HeldParts w.parts
  whole_held [] done v w g h r = subst (λ (u : Value). HeldParts u.parts) r h
  whole_held (terminal a ∷ xs) (token k s) v w g h r =
      whole_held xs s r.0 w g.1 (subst (λ (u : Value). HeldParts u.parts) (shifted (may_stand a k.kind v.parts) (taken a k v) r.0 r.1) (token_held a k v.parts g.0 h)) r.2
  whole_held (rule q ∷ xs) (node c inner s) v w g h r =
      whole_held xs s (language.finish c r.0) w g.1 (built_held r.0.parts (whole_held (language.body c) inner v r.0 g.0 h r.3) (action_of c)) r.4
  whole_held [] (token k s) v w g h r = absurd r
  whole_held [] (node c inner s) v w g h r = absurd r
  whole_held (terminal a ∷ xs) done v w g h r = absurd r
  whole_held (terminal a ∷ xs) (node c inner s) v w g h r = absurd r
  whole_held (rule q ∷ xs) done v w g h r = absurd r
  whole_held (rule q ∷ xs) (token k s) v w g h r = absurd r

  empty_held : (s : Start) → HeldParts ((empty_of s).parts)
  empty_held start.Expr = tt
  empty_held start.Args = (tt, tt)
  empty_held start.Line = (tt, tt)
  empty_held start.Header = (tt, tt)
  empty_held start.File = (tt, tt)

  read_held : (s : Start) (ts : List Token) (ps : List Part) → HeldTokens ts → IsRead s ts ps → HeldParts ps
  read_held s ts ps h r =
      let parses = r.2 in
      subst HeldParts (sym r.1) (whole_held (rule (reading_of s).start ∷ terminal (reading_of s).end ∷ []) parses.source (empty_of s) r.0 (spelled_held parses.source [] (subst HeldTokens (sym parses.spelled) h)).0 (empty_held s) parses.whole)

  -- ---- what a text is

  header_one : (s : Stmt) → HeldInstruction (instruction_of file s) → HeldHeader (whole.header_of file (header_of s))
  header_one (stmt.If l e) h = h
  header_one (stmt.Elif l e) h = h
  header_one (stmt.For l t m) h = h
  header_one (stmt.Def l k fragment x ps) h = h
  header_one s h = tt

  header_held : (ss : List Stmt) → HeldLine (instructions_of file ss) → HeldHeader (whole.header_of file (header_in ss))
  header_held [] h = tt
  header_held (s ∷ []) h = header_one s h.0
  header_held (s ∷ t ∷ ss) h = header_held (t ∷ ss) h.1

text_held : {A : Type 0} (k : Origin) (s : Start) (view : Part → A) (P : A → Type 0) (place : Place) (text : List ℕ) (o : Outcome A) → ((p : Part) → HeldPart place.file p → P (view p)) →
    ReadsFrom k s view place text o → IfOk o P
text_held k s view P place text (Ok x) f r =
    subst P (sym r.4) (f (top r.1) (held_top place.file r.1 (read_held place.file s r.0 r.1 (IfOk-at_ok HeldTokens r.2 (tokens_held k place.line text)) r.3)))
text_held k s view P place text (Err e) f r = tt

-- whatever reads code as the grammar says
pub code_is_held : (r : CodeReader) → IsCodeReader r → ReadsHeld r
code_is_held r reads = record {
  expr = λ place text. text_held origin.Comment start.Expr (λ p. expr_of place.file (expr_in p)) HeldExpr place text (r.expr place text) (λ p h. (expr_held place.file p h).0) (reads.expr place text);
  args = λ place text. text_held origin.Comment start.Args (λ p. exprs_of place.file (exprs_in p)) HeldExprs place text (r.args place text) (λ p h. exprs_held place.file p h) (reads.args place text);
  simple = λ place text. text_held origin.Comment start.Line (λ p. instructions_of place.file (code_in p)) HeldLine place text (r.simple place text) (λ p h. code_held place.file p h) (reads.simple place text);
  header = λ place text. text_held origin.Comment start.Header (λ p. whole.header_of place.file (header_in (code_in p))) HeldHeader place text (r.header place text) (λ p h. header_held place.file (code_in p) (code_held place.file p h)) (reads.header place text);
  file = λ n text. text_held origin.File start.File (λ p. instructions_of n (code_in p)) HeldLine (place_at n 1) text (r.file n text) (λ p h. code_held n p h) (reads.file n text);
}
