-- The names that stand in a template, in text order, each with what the functions and comprehensions around it bind.
use Rattle.std.specs.Prelude.{List, [], ◌∷◌, ◌++◌}
use Rattle.code_spec.specs.Allowed.{parameter_names}
use Rattle.code_spec.specs.Scopes.{Around, Use, use_at, expr_uses, exprs_uses, parameters_uses, statement_uses}
use Rattle.template_spec.specs.Names.{items_names}
use Rattle.template_spec.specs.Template.{Notes, no_notes, note, Key, no_key, written_key, key_from, Item, node, code, if_block, for_block, def_block, Items, no_items, an_item, Branches, no_branch, else_branch, elif_branch, Content, written_value, value_from, pairs, elements}

abbrev pub notes_uses : Around → Notes → List Use
notes_uses around no_notes = []
notes_uses around (note p x es ns) = exprs_uses around es ++ notes_uses around ns

abbrev pub key_uses : Around → Key → List Use
key_uses around no_key = []
key_uses around (written_key x) = []
key_uses around (key_from e) = expr_uses around e

-- a function binds its parameters and the names of its block
abbrev mutual
  pub item_uses : Around → Item → List Use
  item_uses around (node p kind ns key c) = notes_uses around ns ++ (key_uses around key ++ content_uses around c)
  item_uses around (code s) = statement_uses around s
  item_uses around (if_block p e body more) = expr_uses around e ++ (items_uses around body ++ branches_uses around more)
  item_uses around (for_block p x e body) = expr_uses around x ++ (expr_uses around e ++ items_uses around body)
  item_uses around (def_block p number x ps kind body) = use_at around p x ∷ (parameters_uses around ps ++ items_uses ((parameter_names ps ++ items_names body) ∷ around) body)

  pub items_uses : Around → Items → List Use
  items_uses around no_items = []
  items_uses around (an_item i is) = item_uses around i ++ items_uses around is

  pub branches_uses : Around → Branches → List Use
  branches_uses around no_branch = []
  branches_uses around (else_branch p body) = items_uses around body
  branches_uses around (elif_branch p e body more) = expr_uses around e ++ (items_uses around body ++ branches_uses around more)

  pub content_uses : Around → Content → List Use
  content_uses around (written_value x) = []
  content_uses around (value_from e) = expr_uses around e
  content_uses around (pairs is) = items_uses around is
  content_uses around (elements is) = items_uses around is
