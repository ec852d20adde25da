-- Numbers change none of the names that stand in a template, nor what is bound around them.
use Rattle.std.proofs.Common.{◌≡◌, ℕ, suc, [], ◌∷◌, ◌++◌, refl}
use Rattle.code_spec.specs.Allowed.{parameter_names}
use Rattle.code_spec.specs.Code as code
use Rattle.code_spec.specs.Code.{Expr, Exprs, no_exprs, an_expr, OptionalExpr, absent, present, Entries, no_entries, an_entry, Clauses, no_clauses, for_clause, if_clause, Pieces, no_pieces, text_piece, expr_piece, Parameters, no_parameters, required, defaulted, bare_star, starred_parameter, double_starred_parameter, Statement, evaluate, assign, augment, return}
use Rattle.code_spec.specs.Names.{target_names, targets_names, clauses_names, statement_names}
use Rattle.code_spec.specs.Numbering.{number_clauses, number_entries, number_expr, number_exprs, number_optional, number_parameters, number_pieces, number_statement}
use Rattle.code_spec.specs.Scopes.{Around, use_at, expr_uses, exprs_uses, optional_uses, entries_uses, clauses_uses, pieces_uses, parameters_uses, statement_uses}
use Rattle.template_spec.specs.Names.{items_names, item_names, branches_names, content_names}
use Rattle.template_spec.specs.Numbered.{number_notes, number_key, number_item, number_items, number_branches, number_content, numbered}
use Rattle.template_spec.specs.Template as template
use Rattle.template_spec.specs.Template.{Notes, no_notes, note, Key, no_key, written_key, key_from, Item, node, if_block, for_block, def_block, Items, no_items, an_item, Branches, no_branch, else_branch, elif_branch, Content, written_value, value_from, pairs, elements}
use Rattle.template_spec.specs.Uses.{notes_uses, key_uses, item_uses, items_uses, branches_uses, content_uses}

-- ---- the names that are bound

mutual
  target_same : (e : Expr) (n : ℕ) → target_names (number_expr e n).result ≡ target_names e
  target_same (code.list p es) n = targets_same es n
  target_same (code.tuple p es) n = targets_same es n
  target_same e n = refl

  targets_same : (es : Exprs) (n : ℕ) → targets_names (number_exprs es n).result ≡ targets_names es
  targets_same no_exprs n = refl
  targets_same (an_expr e es) n = λ j. target_same e n j ++ targets_same es (number_expr e n).next j

clauses_same : (cs : Clauses) (n : ℕ) → clauses_names (number_clauses cs n).result ≡ clauses_names cs
clauses_same no_clauses n = refl
clauses_same (for_clause x e cs) n = λ j. target_same x n j ++ clauses_same cs (number_expr e (number_expr x n).next).next j
clauses_same (if_clause e cs) n = clauses_same cs (number_expr e n).next

parameters_same : (ps : Parameters) (n : ℕ) → parameter_names (number_parameters ps n).result ≡ parameter_names ps
parameters_same no_parameters n = refl
parameters_same (required x ps) n = λ j. x ∷ parameters_same ps n j
parameters_same (defaulted x e ps) n = λ j. x ∷ parameters_same ps (number_expr e n).next j
parameters_same (bare_star ps) n = parameters_same ps n
parameters_same (starred_parameter x ps) n = λ j. x ∷ parameters_same ps n j
parameters_same (double_starred_parameter x ps) n = λ j. x ∷ parameters_same ps n j

statement_same : (s : Statement) (n : ℕ) → statement_names (number_statement s n).result ≡ statement_names s
statement_same (assign p x e) n = target_same x n
statement_same (augment p o q x e) n = target_same x n
statement_same s n = refl

mutual
  item_same : (i : Item) (n : ℕ) → item_names (number_item i n).result ≡ item_names i
  item_same (node p k ns key c) n = content_same c (number_key key (number_notes ns n).next).next
  item_same (template.code s) n = statement_same s n
  item_same (if_block p e body more) n = λ j. items_same body (number_expr e n).next j ++ branches_same more (number_items body (number_expr e n).next).next j
  item_same (for_block p x e body) n = λ j. target_same x n j ++ items_same body (number_expr e (number_expr x n).next).next j
  item_same (def_block p k x ps kind body) n = refl

  items_same : (t : Items) (n : ℕ) → items_names (number_items t n).result ≡ items_names t
  items_same no_items n = refl
  items_same (an_item i is) n = λ j. item_same i n j ++ items_same is (number_item i n).next j

  branches_same : (b : Branches) (n : ℕ) → branches_names (number_branches b n).result ≡ branches_names b
  branches_same no_branch n = refl
  branches_same (else_branch p body) n = items_same body n
  branches_same (elif_branch p e body more) n = λ j. items_same body (number_expr e n).next j ++ branches_same more (number_items body (number_expr e n).next).next j

  content_same : (c : Content) (n : ℕ) → content_names (number_content c n).result ≡ content_names c
  content_same (written_value x) n = refl
  content_same (value_from e) n = refl
  content_same (pairs is) n = items_same is n
  content_same (elements is) n = items_same is n

-- ---- the names that stand in code

mutual
  expr_used : (a : Around) (e : Expr) (n : ℕ) → expr_uses a (number_expr e n).result ≡ expr_uses a e
  expr_used a (code.list p es) n = exprs_used a es n
  expr_used a (code.tuple p es) n = exprs_used a es n
  expr_used a (code.dict p es) n = entries_used a es n
  expr_used a (code.unary p o b) n = expr_used a b n
  expr_used a (code.binary p o b c) n = λ j. expr_used a b n j ++ expr_used a c (number_expr b n).next j
  expr_used a (code.conjunction p b c) n = λ j. expr_used a b n j ++ expr_used a c (number_expr b n).next j
  expr_used a (code.disjunction p b c) n = λ j. expr_used a b n j ++ expr_used a c (number_expr b n).next j
  expr_used a (code.conditional p t b c) n =
      let test = (number_expr b n).next in
      λ j. expr_used a b n j ++ (expr_used a t test j ++ expr_used a c (number_expr t test).next j)
  expr_used a (code.call p f es) n = λ j. expr_used a f n j ++ exprs_used a es (number_expr f n).next j
  expr_used a (code.named p x e) n = expr_used a e n
  expr_used a (code.starred p e) n = expr_used a e n
  expr_used a (code.double_starred p e) n = expr_used a e n
  expr_used a (code.index p b i) n = λ j. expr_used a b n j ++ expr_used a i (number_expr b n).next j
  expr_used a (code.slice p b l h d) n =
      let low = (number_expr b n).next in
      let high = (number_optional l low).next in
      λ j. expr_used a b n j ++ (optional_used a l low j ++ (optional_used a h high j ++ optional_used a d (number_optional h high).next j))
  expr_used a (code.attribute p b x) n = expr_used a b n
  expr_used a (code.lambda p k ps e) n = λ j. parameters_used a ps (suc n) j ++ expr_used (parameters_same ps (suc n) j ∷ a) e (number_parameters ps (suc n)).next j
  expr_used a (code.list_comprehension p e cs) n =
      let after = (number_expr e n).next in
      λ j. expr_used (clauses_same cs after j ∷ a) e n j ++ clauses_used a (clauses_same cs after j ∷ a) cs after j
  expr_used a (code.dict_comprehension p b c cs) n =
      let second = (number_expr b n).next in
      let after = (number_expr c second).next in
      λ j. expr_used (clauses_same cs after j ∷ a) b n j ++ (expr_used (clauses_same cs after j ∷ a) c second j ++ clauses_used a (clauses_same cs after j ∷ a) cs after j)
  expr_used a (code.text_template p ps) n = pieces_used a ps n
  expr_used a e n = refl

  exprs_used : (a : Around) (es : Exprs) (n : ℕ) → exprs_uses a (number_exprs es n).result ≡ exprs_uses a es
  exprs_used a no_exprs n = refl
  exprs_used a (an_expr e es) n = λ j. expr_used a e n j ++ exprs_used a es (number_expr e n).next j

  optional_used : (a : Around) (o : OptionalExpr) (n : ℕ) → optional_uses a (number_optional o n).result ≡ optional_uses a o
  optional_used a absent n = refl
  optional_used a (present e) n = expr_used a e n

  entries_used : (a : Around) (es : Entries) (n : ℕ) → entries_uses a (number_entries es n).result ≡ entries_uses a es
  entries_used a no_entries n = refl
  entries_used a (an_entry b c es) n =
      let second = (number_expr b n).next in
      λ j. expr_used a b n j ++ (expr_used a c second j ++ entries_used a es (number_expr c second).next j)

  clauses_used : (first a : Around) (cs : Clauses) (n : ℕ) → clauses_uses first a (number_clauses cs n).result ≡ clauses_uses first a cs
  clauses_used first a no_clauses n = refl
  clauses_used first a (for_clause x e cs) n =
      let second = (number_expr x n).next in
      λ j. expr_used a x n j ++ (expr_used first e second j ++ clauses_used a a cs (number_expr e second).next j)
  clauses_used first a (if_clause e cs) n = λ j. expr_used a e n j ++ clauses_used first a cs (number_expr e n).next j

  pieces_used : (a : Around) (ps : Pieces) (n : ℕ) → pieces_uses a (number_pieces ps n).result ≡ pieces_uses a ps
  pieces_used a no_pieces n = refl
  pieces_used a (text_piece t ps) n = pieces_used a ps n
  pieces_used a (expr_piece e ps) n = λ j. expr_used a e n j ++ pieces_used a ps (number_expr e n).next j

  parameters_used : (a : Around) (ps : Parameters) (n : ℕ) → parameters_uses a (number_parameters ps n).result ≡ parameters_uses a ps
  parameters_used a no_parameters n = refl
  parameters_used a (required x ps) n = parameters_used a ps n
  parameters_used a (defaulted x e ps) n = λ j. expr_used a e n j ++ parameters_used a ps (number_expr e n).next j
  parameters_used a (bare_star ps) n = parameters_used a ps n
  parameters_used a (starred_parameter x ps) n = parameters_used a ps n
  parameters_used a (double_starred_parameter x ps) n = parameters_used a ps n

statement_used : (a : Around) (s : Statement) (n : ℕ) → statement_uses a (number_statement s n).result ≡ statement_uses a s
statement_used a (evaluate p e) n = expr_used a e n
statement_used a (assign p x e) n = λ j. expr_used a x n j ++ expr_used a e (number_expr x n).next j
statement_used a (augment p o q x e) n = λ j. expr_used a x n j ++ expr_used a e (number_expr x n).next j
statement_used a (return p e) n = expr_used a e n
statement_used a s n = refl

-- ---- in a template

notes_used : (a : Around) (ns : Notes) (n : ℕ) → notes_uses a (number_notes ns n).result ≡ notes_uses a ns
notes_used a no_notes n = refl
notes_used a (note p x es ns) n = λ j. exprs_used a es n j ++ notes_used a ns (number_exprs es n).next j

key_used : (a : Around) (k : Key) (n : ℕ) → key_uses a (number_key k n).result ≡ key_uses a k
key_used a (key_from e) n = expr_used a e n
key_used a k n = refl

mutual
  item_used : (a : Around) (i : Item) (n : ℕ) → item_uses a (number_item i n).result ≡ item_uses a i
  item_used a (node p k ns key c) n =
      let after = (number_notes ns n).next in
      λ j. notes_used a ns n j ++ (key_used a key after j ++ content_used a c (number_key key after).next j)
  item_used a (template.code s) n = statement_used a s n
  item_used a (if_block p e body more) n =
      let inside = (number_expr e n).next in
      λ j. expr_used a e n j ++ (items_used a body inside j ++ branches_used a more (number_items body inside).next j)
  item_used a (for_block p x e body) n =
      let members = (number_expr x n).next in
      λ j. expr_used a x n j ++ (expr_used a e members j ++ items_used a body (number_expr e members).next j)
  item_used a (def_block p k x ps kind body) n =
      let inside = (number_parameters ps (suc n)).next in
      λ j. use_at a p x ∷ (parameters_used a ps (suc n) j ++ items_used ((parameters_same ps (suc n) j ++ items_same body inside j) ∷ a) body inside j)

  items_used : (a : Around) (t : Items) (n : ℕ) → items_uses a (number_items t n).result ≡ items_uses a t
  items_used a no_items n = refl
  items_used a (an_item i is) n = λ j. item_used a i n j ++ items_used a is (number_item i n).next j

  branches_used : (a : Around) (b : Branches) (n : ℕ) → branches_uses a (number_branches b n).result ≡ branches_uses a b
  branches_used a no_branch n = refl
  branches_used a (else_branch p body) n = items_used a body n
  branches_used a (elif_branch p e body more) n =
      let inside = (number_expr e n).next in
      λ j. expr_used a e n j ++ (items_used a body inside j ++ branches_used a more (number_items body inside).next j)

  content_used : (a : Around) (c : Content) (n : ℕ) → content_uses a (number_content c n).result ≡ content_uses a c
  content_used a (written_value x) n = refl
  content_used a (value_from e) n = expr_used a e n
  content_used a (pairs is) n = items_used a is n
  content_used a (elements is) n = items_used a is n

-- the names that a template binds, and those that stand in it, are the same when its functions have their numbers
pub names_same : (t : Items) → items_names (numbered t) ≡ items_names t
names_same t = items_same t 0

pub uses_same : (t : Items) → items_uses [] (numbered t) ≡ items_uses [] t
uses_same t = items_used [] t 0
