-- Numbers change neither the names that a template binds nor where its words stand.
use Rattle.std.proofs.Common.{◌≡◌, ℕ, suc, ◌++◌, refl}
use Rattle.code_spec.specs.Code as expr
use Rattle.code_spec.specs.Code.{Expr, Exprs, no_exprs, an_expr, Statement, evaluate, assign, augment, load, return, break, continue, pass}
use Rattle.code_spec.specs.Names.{target_names, targets_names, statement_names}
use Rattle.code_spec.specs.Numbering.{number_expr, number_exprs, number_parameters, number_statement}
use Rattle.template_spec.specs.ControlWords.{Around, free, in_loop, in_node, within_loop, MayStand, ItemWordsStand, WordsStand, BranchWordsStand, ContentWordsStand}
use Rattle.template_spec.specs.Names.{item_names, items_names, branches_names, content_names}
use Rattle.template_spec.specs.Numbered.{number_notes, number_key, number_item, number_items, number_branches, number_content, numbered}
use Rattle.template_spec.specs.Template.{Item, node, code, if_block, for_block, def_block, Items, no_items, an_item, Branches, no_branch, else_branch, elif_branch, Content, written_value, value_from, pairs, elements}

-- ---- names

mutual
  target_same : (e : Expr) (n : ℕ) → target_names (number_expr e n).result ≡ target_names e
  target_same (expr.list p es) n = targets_same es n
  target_same (expr.tuple p es) n = targets_same es n
  target_same e n = refl

  targets_same : (es : Exprs) (n : ℕ) → targets_names (number_exprs es n).result ≡ targets_names es
  targets_same no_exprs n = refl
  targets_same (an_expr e es) n = λ j. target_same e n j ++ targets_same es (number_expr e n).next j

statement_same : (s : Statement) (n : ℕ) → statement_names (number_statement s n).result ≡ statement_names s
statement_same (assign p x e) n = target_same x n
statement_same (augment p o q x e) n = target_same x n
statement_same s n = refl

mutual
  item_same : (i : Item) (n : ℕ) → item_names (number_item i n).result ≡ item_names i
  item_same (node p k ns key c) n = content_same c (number_key key (number_notes ns n).next).next
  item_same (code s) n = statement_same s n
  item_same (if_block p e body more) n = λ j. items_same body (number_expr e n).next j ++ branches_same more (number_items body (number_expr e n).next).next j
  item_same (for_block p x e body) n = λ j. target_same x n j ++ items_same body (number_expr e (number_expr x n).next).next j
  item_same (def_block p k x ps kind body) n = refl

  items_same : (t : Items) (n : ℕ) → items_names (number_items t n).result ≡ items_names t
  items_same no_items n = refl
  items_same (an_item i is) n = λ j. item_same i n j ++ items_same is (number_item i n).next j

  branches_same : (b : Branches) (n : ℕ) → branches_names (number_branches b n).result ≡ branches_names b
  branches_same no_branch n = refl
  branches_same (else_branch p body) n = items_same body n
  branches_same (elif_branch p e body more) n = λ j. items_same body (number_expr e n).next j ++ branches_same more (number_items body (number_expr e n).next).next j

  content_same : (c : Content) (n : ℕ) → content_names (number_content c n).result ≡ content_names c
  content_same (written_value x) n = refl
  content_same (value_from e) n = refl
  content_same (pairs is) n = items_same is n
  content_same (elements is) n = items_same is n

-- a template binds the same names when its functions have their numbers
pub numbered_names : (t : Items) → items_names (numbered t) ≡ items_names t
numbered_names t = items_same t 0

-- ---- words

word_stands : (w : Around) (s : Statement) (n : ℕ) → MayStand w s → MayStand w (number_statement s n).result
word_stands free s n h = tt
word_stands in_loop (return p e) n h = elim h [ ]
word_stands in_loop s n h = tt
word_stands in_node (return p e) n h = elim h [ ]
word_stands in_node (break p) n h = elim h [ ]
word_stands in_node (continue p) n h = elim h [ ]
word_stands in_node s n h = tt

mutual
  item_stands : (w : Around) (i : Item) (n : ℕ) → ItemWordsStand w i → ItemWordsStand w (number_item i n).result
  item_stands w (node p k ns key c) n h = content_stands c (number_key key (number_notes ns n).next).next h
  item_stands w (code s) n h = word_stands w s n h
  item_stands w (if_block p e body more) n h = (items_stand w body (number_expr e n).next h.0, branches_stand w more (number_items body (number_expr e n).next).next h.1)
  item_stands w (for_block p x e body) n h = items_stand (within_loop w) body (number_expr e (number_expr x n).next).next h
  item_stands w (def_block p k x ps kind body) n h = items_stand free body (number_parameters ps (suc n)).next h

  items_stand : (w : Around) (t : Items) (n : ℕ) → WordsStand w t → WordsStand w (number_items t n).result
  items_stand w no_items n h = tt
  items_stand w (an_item i is) n h = (item_stands w i n h.0, items_stand w is (number_item i n).next h.1)

  branches_stand : (w : Around) (b : Branches) (n : ℕ) → BranchWordsStand w b → BranchWordsStand w (number_branches b n).result
  branches_stand w no_branch n h = tt
  branches_stand w (else_branch p body) n h = items_stand w body n h
  branches_stand w (elif_branch p e body more) n h = (items_stand w body (number_expr e n).next h.0, branches_stand w more (number_items body (number_expr e n).next).next h.1)

  content_stands : (c : Content) (n : ℕ) → ContentWordsStand c → ContentWordsStand (number_content c n).result
  content_stands (written_value x) n h = tt
  content_stands (value_from e) n h = tt
  content_stands (pairs is) n h = items_stand in_node is n h
  content_stands (elements is) n h = items_stand in_node is n h

-- where no word leaves a node, none does when the functions have their numbers
pub numbered_stands : (t : Items) → WordsStand free t → WordsStand free (numbered t)
numbered_stands t h = items_stand free t 0 h
