-- The text of an expression in parts: what opens its form, what stands inside, and what closes it. So the texts of entries, clauses,
-- pieces and parameters one by one.
use Rattle.std.specs.Prelude.{ℕ, List, [], ◌∷◌, ◌++◌, codes}
use Rattle.std.specs.Fmt.{signed_decimal}
use Rattle.yaml_spec.specs.Bytes.{space}
use Rattle.yaml_spec.specs.Text.{quoted_text}
use Rattle.code_spec.specs.Code as code
use Rattle.code_spec.specs.Code.{BinaryOperator, not_contained, Expr, OptionalExpr}
use Rattle.listing_spec.specs.Listing.{binary_word, clauses_phrases, entries_phrases, expr_phrase, exprs_phrases, form, one, optional_phrase, parameters_phrases, pieces_phrases, two, unary_word}
use Rattle.listing_spec.specs.Phrases.{Phrase, word, quoted, bracketed, Phrases, no_phrases, a_phrase, phrase_text, spaced_text}
use Rattle.star_tree.specs.Whole as whole
use Rattle.star_tree.specs.Whole.{for_part, if_part, named_part, default_part, bare_part, star_part, stars_part, written_part, expr_part}

-- a phrase behind a space
abbrev pub spaced : Phrase → List ℕ
spaced p = space ∷ phrase_text p

-- an expression behind a space
abbrev pub spaced_expr : Expr → List ℕ
spaced_expr e = spaced (expr_phrase e)

abbrev pub spaced_optional : OptionalExpr → List ℕ
spaced_optional o = spaced (optional_phrase o)

-- phrases with a text before the first, and a space before each other one
abbrev pub separated_text : List ℕ → Phrases → List ℕ
separated_text before no_phrases = []
separated_text before (a_phrase p ps) = before ++ (phrase_text p ++ spaced_text ps)

-- `not in` is two words
abbrev pub binary_words : BinaryOperator → List ℕ
binary_words not_contained = codes "not in"
binary_words o = binary_word o

-- the operator of a form, where it has one
abbrev pub operator_words : Expr → List ℕ
operator_words (code.unary p o a) = unary_word o
operator_words (code.binary p o a b) = binary_words o
operator_words _ = []

-- the bracket and the word of a form, up to its operator; a literal and a name are no forms
abbrev pub form_word : Expr → List ℕ
form_word (code.int p z) = []
form_word (code.text p t) = []
form_word (code.name p x) = []
form_word (code.list p es) = codes "(list"
form_word (code.tuple p es) = codes "(tuple"
form_word (code.dict p es) = codes "(dict"
form_word (code.unary p o a) = codes "(un "
form_word (code.binary p o a b) = codes "(bin "
form_word (code.conjunction p a b) = codes "(and"
form_word (code.disjunction p a b) = codes "(or"
form_word (code.conditional p c a b) = codes "(if"
form_word (code.call p f es) = codes "(call"
form_word (code.named p x e) = codes "(named"
form_word (code.starred p e) = codes "(star"
form_word (code.double_starred p e) = codes "(stars"
form_word (code.index p a i) = codes "(index"
form_word (code.slice p a l h d) = codes "(slice"
form_word (code.attribute p a x) = codes "(dot"
form_word (code.lambda p n ps e) = codes "(lambda"
form_word (code.list_comprehension p e cs) = codes "(list-for"
form_word (code.dict_comprehension p a b cs) = codes "(dict-for"
form_word (code.text_template p ps) = codes "(text"

abbrev pub opening : Expr → List ℕ
opening e = form_word e ++ operator_words e

abbrev pub inside : Expr → List ℕ
inside (code.int p z) = signed_decimal z
inside (code.text p t) = quoted_text t
inside (code.name p x) = x
inside (code.list p es) = spaced_text (exprs_phrases es)
inside (code.tuple p es) = spaced_text (exprs_phrases es)
inside (code.dict p es) = spaced_text (entries_phrases es)
inside (code.unary p o a) = spaced_expr a
inside (code.binary p o a b) = spaced_expr a ++ spaced_expr b
inside (code.conjunction p a b) = spaced_expr a ++ spaced_expr b
inside (code.disjunction p a b) = spaced_expr a ++ spaced_expr b
inside (code.conditional p c a b) = spaced_expr c ++ (spaced_expr a ++ spaced_expr b)
inside (code.call p f es) = spaced_expr f ++ spaced_text (exprs_phrases es)
inside (code.named p x e) = (space ∷ x) ++ spaced_expr e
inside (code.starred p e) = spaced_expr e
inside (code.double_starred p e) = spaced_expr e
inside (code.index p a i) = spaced_expr a ++ spaced_expr i
inside (code.slice p a l h d) = spaced_expr a ++ (spaced_optional l ++ (spaced_optional h ++ spaced_optional d))
inside (code.attribute p a x) = spaced_expr a ++ (space ∷ x)
inside (code.lambda p n ps e) = spaced (bracketed (parameters_phrases ps)) ++ spaced_expr e
inside (code.list_comprehension p e cs) = spaced_expr e ++ spaced_text (clauses_phrases cs)
inside (code.dict_comprehension p a b cs) = spaced_expr a ++ (spaced_expr b ++ spaced_text (clauses_phrases cs))
inside (code.text_template p ps) = spaced_text (pieces_phrases ps)

abbrev pub closing : Expr → List ℕ
closing (code.int p z) = []
closing (code.text p t) = []
closing (code.name p x) = []
closing _ = codes ")"

-- ---- what stands in lists

abbrev pub entry_phrase : whole.Entry → Phrase
entry_phrase e = bracketed (two (expr_phrase e.key) (expr_phrase e.value))

abbrev pub clause_phrase : whole.Clause → Phrase
clause_phrase (for_part x e) = form (codes "for") (two (expr_phrase x) (expr_phrase e))
clause_phrase (if_part e) = form (codes "if") (one (expr_phrase e))

abbrev pub piece_phrase : whole.Piece → Phrase
piece_phrase (written_part t) = quoted t
piece_phrase (expr_part e) = expr_phrase e

abbrev pub parameter_phrase : whole.Parameter → Phrase
parameter_phrase (named_part x) = word x
parameter_phrase (default_part x e) = form (codes "default") (two (word x) (expr_phrase e))
parameter_phrase bare_part = word (codes "*")
parameter_phrase (star_part x) = form (codes "star") (one (word x))
parameter_phrase (stars_part x) = form (codes "stars") (one (word x))
