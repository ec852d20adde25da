-- What placing gives: nodes of the kind of their collection, keys on pairs alone, words and loads where they may stand;
-- and names in code as they may be.
use Rattle.std.specs.Prelude.{◌≡◌, IsTrue}
use Rattle.code_spec.specs.Allowed.{AllowedExpr, AllowedExprs, AllowedTarget, AllowedStatement, AllowedFunction}
use Rattle.code_spec.specs.Program.{ItemKind, document_item, pair_item, element_item}
use Rattle.template_spec.specs.Template.{Notes, no_notes, note, Key, no_key, written_key, key_from, Item, node, code, if_block, for_block, def_block, Items, no_items, an_item, Branches, no_branch, else_branch, elif_branch, Content, written_value, value_from, pairs, elements, fragment_kind}
use Rattle.template_spec.specs.WellNested.{Ways, in_a_file, in_a_node, in_a_branch, in_a_loop, in_a_function, stands}

-- pairs have a key, and nothing else has one
abbrev pub KeyFits : ItemKind → Key → Type 0
KeyFits pair_item no_key = ⊥
KeyFits pair_item k = Unit {0}
KeyFits kind no_key = Unit {0}
KeyFits kind _ = ⊥

abbrev mutual
  pub PlacedItem : Ways → ItemKind → Item → Type 0
  PlacedItem w kind (node p k ns key c) = (k ≡ kind) × KeyFits kind key × PlacedContent w c
  PlacedItem w kind (code s) = IsTrue (stands w s)
  PlacedItem w kind (if_block p e body more) = PlacedItems (in_a_branch w) kind body × PlacedBranches (in_a_branch w) kind more
  PlacedItem w kind (for_block p x e body) = PlacedItems (in_a_loop w) kind body
  PlacedItem w kind (def_block p number x ps k body) = (k ≡ kind) × PlacedItems (in_a_function (fragment_kind k body)) kind body

  pub PlacedItems : Ways → ItemKind → Items → Type 0
  PlacedItems w kind no_items = Unit {0}
  PlacedItems w kind (an_item i is) = PlacedItem w kind i × PlacedItems w kind is

  pub PlacedBranches : Ways → ItemKind → Branches → Type 0
  PlacedBranches w kind no_branch = Unit {0}
  PlacedBranches w kind (else_branch p body) = PlacedItems w kind body
  PlacedBranches w kind (elif_branch p e body more) = PlacedItems w kind body × PlacedBranches w kind more

  pub PlacedContent : Ways → Content → Type 0
  PlacedContent w (written_value x) = Unit {0}
  PlacedContent w (value_from e) = Unit {0}
  PlacedContent w (pairs is) = PlacedItems (in_a_node w) pair_item is
  PlacedContent w (elements is) = PlacedItems (in_a_node w) element_item is

-- the template of a file, whose items are documents
abbrev pub Placed : Items → Type 0
Placed t = PlacedItems in_a_file document_item t

-- ---- names

abbrev pub AllowedNotes : Notes → Type 0
AllowedNotes no_notes = Unit {0}
AllowedNotes (note p x es ns) = AllowedExprs es × AllowedNotes ns

abbrev pub AllowedKey : Key → Type 0
AllowedKey no_key = Unit {0}
AllowedKey (written_key x) = Unit {0}
AllowedKey (key_from e) = AllowedExpr e

abbrev mutual
  pub AllowedItem : Item → Type 0
  AllowedItem (node p k ns key c) = AllowedNotes ns × AllowedKey key × AllowedContent c
  AllowedItem (code s) = AllowedStatement s
  AllowedItem (if_block p e body more) = AllowedExpr e × AllowedItems body × AllowedBranches more
  AllowedItem (for_block p x e body) = AllowedTarget x × AllowedExpr e × AllowedItems body
  AllowedItem (def_block p number x ps k body) = AllowedFunction x ps × AllowedItems body

  pub AllowedItems : Items → Type 0
  AllowedItems no_items = Unit {0}
  AllowedItems (an_item i is) = AllowedItem i × AllowedItems is

  pub AllowedBranches : Branches → Type 0
  AllowedBranches no_branch = Unit {0}
  AllowedBranches (else_branch p body) = AllowedItems body
  AllowedBranches (elif_branch p e body more) = AllowedExpr e × AllowedItems body × AllowedBranches more

  pub AllowedContent : Content → Type 0
  AllowedContent (written_value x) = Unit {0}
  AllowedContent (value_from e) = AllowedExpr e
  AllowedContent (pairs is) = AllowedItems is
  AllowedContent (elements is) = AllowedItems is
