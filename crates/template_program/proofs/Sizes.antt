-- How much stands in items: each item and each further branch counts once, with what is in it.
use Rattle.std.proofs.Common.{◌≡◌, ℕ, ◌+◌, suc, List, [], ◌∷◌, ◌++◌, Option, ap, ◌∙◌}
use Rattle.template_spec.specs.Template.{Branches, Content, Item, Items, node, code, if_block, for_block, def_block, no_items, an_item, no_branch, else_branch, elif_branch, written_value, value_from, pairs, elements}
use Rattle.template_tree.specs.declared.tree.TElif.{TElif}
use Rattle.template_tree.specs.declared.tree.TElse.{TElse}
use Rattle.template_tree.specs.declared.tree.TItem.{TItem}
use Rattle.template_tree.specs.View.{branches_of, item_of, items_of}
use Rattle.template_tree.proofs.Views.{branches_of-last, items_of-last}

abbrev mutual
  pub item_size : Item → ℕ
  item_size (node p kind notes key content) = suc (content_size content)
  item_size (code s) = 1
  item_size (if_block p e body more) = suc (items_size body + branches_size more)
  item_size (for_block p x e body) = suc (items_size body)
  item_size (def_block p number name ps kind body) = suc (items_size body)

  pub items_size : Items → ℕ
  items_size no_items = 0
  items_size (an_item i is) = item_size i + items_size is

  pub content_size : Content → ℕ
  content_size (written_value v) = 0
  content_size (value_from e) = 0
  content_size (pairs is) = items_size is
  content_size (elements is) = items_size is

  pub branches_size : Branches → ℕ
  branches_size no_branch = 0
  branches_size (else_branch p body) = suc (items_size body)
  branches_size (elif_branch p e body more) = suc (items_size body + branches_size more)

-- one that is taken off, and what is left
pub taken_size : (file : ℕ) (before after : List TItem) (i : TItem) → before ≡ after ++ i ∷ [] → items_size (items_of file before) ≡ item_size (item_of file i) + items_size (items_of file after)
taken_size file before after i e = ap (λ (is : List TItem). items_size (items_of file is)) e ∙ ap items_size (items_of-last file after i)

-- a branch that is taken off, and what is left
pub branch_size : (file : ℕ) (before after : List TElif) (b : TElif) (last : Option TElse) → before ≡ after ++ b ∷ []
    → branches_size (branches_of file before last) ≡ suc (items_size (items_of file b.body) + branches_size (branches_of file after last))
branch_size file before after b last e = ap (λ (bs : List TElif). branches_size (branches_of file bs last)) e ∙ ap branches_size (branches_of-last file after b last)
