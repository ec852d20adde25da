-- What placing gives, part by part: nodes of the kind of their collection with keys on pairs alone, and statements where they may stand.
use Rattle.std.specs.Prelude.{◌≡◌, IsTrue}
use Rattle.code_spec.specs.Program.{ItemKind, document_item, pair_item, element_item}
use Rattle.template_spec.specs.Placed.{KeyFits}
use Rattle.template_spec.specs.Template.{Item, node, code, if_block, for_block, def_block, Items, no_items, an_item, Branches, no_branch, else_branch, elif_branch, Content, written_value, value_from, pairs, elements, fragment_kind}
use Rattle.template_spec.specs.WellNested.{Ways, in_a_node, in_a_branch, in_a_loop, in_a_function, stands}

-- ---- kinds and keys

abbrev mutual
  pub KindedItem : ItemKind → Item → Type 0
  KindedItem kind (node p k ns key c) = (k ≡ kind) × KeyFits kind key × KindedContent c
  KindedItem kind (code s) = Unit {0}
  KindedItem kind (if_block p e body more) = KindedItems kind body × KindedBranches kind more
  KindedItem kind (for_block p x e body) = KindedItems kind body
  KindedItem kind (def_block p number x ps k body) = (k ≡ kind) × KindedItems kind body

  pub KindedItems : ItemKind → Items → Type 0
  KindedItems kind no_items = Unit {0}
  KindedItems kind (an_item i is) = KindedItem kind i × KindedItems kind is

  pub KindedBranches : ItemKind → Branches → Type 0
  KindedBranches kind no_branch = Unit {0}
  KindedBranches kind (else_branch p body) = KindedItems kind body
  KindedBranches kind (elif_branch p e body more) = KindedItems kind body × KindedBranches kind more

  pub KindedContent : Content → Type 0
  KindedContent (written_value x) = Unit {0}
  KindedContent (value_from e) = Unit {0}
  KindedContent (pairs is) = KindedItems pair_item is
  KindedContent (elements is) = KindedItems element_item is

-- the items of a file are documents, pairs stand in maps and elements in lists, and pairs alone have keys
abbrev pub Kinded : Items → Type 0
Kinded t = KindedItems document_item t

-- ---- statements

abbrev mutual
  pub StandingItem : Ways → Item → Type 0
  StandingItem w (node p k ns key c) = StandingContent w c
  StandingItem w (code s) = IsTrue (stands w s)
  StandingItem w (if_block p e body more) = StandingItems (in_a_branch w) body × StandingBranches (in_a_branch w) more
  StandingItem w (for_block p x e body) = StandingItems (in_a_loop w) body
  StandingItem w (def_block p number x ps k body) = StandingItems (in_a_function (fragment_kind k body)) body

  pub StandingItems : Ways → Items → Type 0
  StandingItems w no_items = Unit {0}
  StandingItems w (an_item i is) = StandingItem w i × StandingItems w is

  pub StandingBranches : Ways → Branches → Type 0
  StandingBranches w no_branch = Unit {0}
  StandingBranches w (else_branch p body) = StandingItems w body
  StandingBranches w (elif_branch p e body more) = StandingItems w body × StandingBranches w more

  -- each statement stands where it may
  pub StandingContent : Ways → Content → Type 0
  StandingContent w (written_value x) = Unit {0}
  StandingContent w (value_from e) = Unit {0}
  StandingContent w (pairs is) = StandingItems (in_a_node w) is
  StandingContent w (elements is) = StandingItems (in_a_node w) is
