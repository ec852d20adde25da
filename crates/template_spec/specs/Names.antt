-- The names that the items of a file or of a function's block bind, in text order; those of inner functions not. Of a program they
-- are `op_names` and its kin of `code_spec`'s scopes.
use Rattle.std.specs.Prelude.{List, [], ◌∷◌, ◌++◌}
use Rattle.code_spec.specs.Code.{Name}
use Rattle.code_spec.specs.Names.{target_names, statement_names}
use Rattle.template_spec.specs.Template.{Item, node, code, if_block, for_block, def_block, Items, no_items, an_item, Branches, no_branch, else_branch, elif_branch, Content, written_value, value_from, pairs, elements}

abbrev mutual
  pub item_names : Item → List Name
  item_names (node p kind ns key c) = content_names c
  item_names (code s) = statement_names s
  item_names (if_block p e body more) = items_names body ++ branches_names more
  item_names (for_block p x e body) = target_names x ++ items_names body
  item_names (def_block p number x ps kind body) = x ∷ []

  pub items_names : Items → List Name
  items_names no_items = []
  items_names (an_item i is) = item_names i ++ items_names is

  pub branches_names : Branches → List Name
  branches_names no_branch = []
  branches_names (else_branch p body) = items_names body
  branches_names (elif_branch p e body more) = items_names body ++ branches_names more

  pub content_names : Content → List Name
  content_names (written_value x) = []
  content_names (value_from e) = []
  content_names (pairs is) = items_names is
  content_names (elements is) = items_names is
