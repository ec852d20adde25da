-- A template loads the same when its functions have their numbers.
use Rattle.std.proofs.Common.{◌≡◌, ℕ, ◌++◌, refl}
use Rattle.code_spec.specs.Code.{Statement, evaluate, assign, augment, load, return, break, continue, pass}
use Rattle.code_spec.specs.Numbering.{number_statement}
use Rattle.template_meaning.specs.Files.{statement_loads, item_loads, items_loads, content_loads}
use Rattle.template_spec.specs.Numbered.{number_notes, number_key, number_item, number_items, number_content, numbered}
use Rattle.template_spec.specs.Template.{Item, node, code, if_block, for_block, def_block, Items, no_items, an_item, Content, written_value, value_from, pairs, elements}

statement_load : (s : Statement) (n : ℕ) → statement_loads (number_statement s n).result ≡ statement_loads s
statement_load (load p path xs) n = refl
statement_load (evaluate p e) n = refl
statement_load (assign p x e) n = refl
statement_load (augment p o q x e) n = refl
statement_load (return p e) n = refl
statement_load (break p) n = refl
statement_load (continue p) n = refl
statement_load (pass p) n = refl

mutual
  item_load : (i : Item) (n : ℕ) → item_loads (number_item i n).result ≡ item_loads i
  item_load (node p k ns key c) n = content_load c (number_key key (number_notes ns n).next).next
  item_load (code s) n = statement_load s n
  item_load (if_block p e body more) n = refl
  item_load (for_block p x e body) n = refl
  item_load (def_block p k x ps kind body) n = refl

  items_load : (t : Items) (n : ℕ) → items_loads (number_items t n).result ≡ items_loads t
  items_load no_items n = refl
  items_load (an_item i is) n = λ j. item_load i n j ++ items_load is (number_item i n).next j

  content_load : (c : Content) (n : ℕ) → content_loads (number_content c n).result ≡ content_loads c
  content_load (written_value x) n = refl
  content_load (value_from e) n = refl
  content_load (pairs is) n = items_load is n
  content_load (elements is) n = items_load is n

pub numbered_loads : (t : Items) → items_loads (numbered t) ≡ items_loads t
numbered_loads t = items_load t 0
