-- A template: the items of a file, with the code and the notes that stand on them and between them.
use Rattle.std.specs.Prelude.{ℕ, Bool, true, false, ◌||◌, ◌&&◌, not, if◌then◌else◌, Option, Some, None}
use Rattle.ytt_base.specs.declared.fault.Place.{Place}
use Rattle.ytt_base.specs.Trees.{Scalar}
use Rattle.code_spec.specs.Code.{Name, Expr, Exprs, Parameters, Statement}
use Rattle.code_spec.specs.Program.{ItemKind}

-- the notes of an item, each with its place, its name and its arguments
pub data Notes : Type 0 where
  no_notes : Notes
  note : Place → Name → Exprs → Notes → Notes

-- the key of a pair, as it is written or from an expression; documents and elements have none
pub data Key : Type 0 where
  no_key : Key
  written_key : Scalar → Key
  key_from : Expr → Key

-- An item is a node, with its place, its kind, its notes, its key and its content; a simple statement; or a block. A
-- `def` has the number of its function in the file, and the kind of the items of the collection that it stands in.
mutual
  pub data Item : Type 0 where
    node : Place → ItemKind → Notes → Key → Content → Item
    code : Statement → Item
    if_block : Place → Expr → Items → Branches → Item
    for_block : Place → (target members : Expr) → Items → Item
    def_block : Place → (number : ℕ) → Name → Parameters → ItemKind → Items → Item

  pub data Items : Type 0 where
    no_items : Items
    an_item : Item → Items → Items

  -- what follows the first branch of an `if`
  pub data Branches : Type 0 where
    no_branch : Branches
    else_branch : Place → Items → Branches
    elif_branch : Place → Expr → Items → Branches → Branches

  -- a written scalar, a value expression, the pairs of a map, or the elements of a list
  pub data Content : Type 0 where
    written_value : Scalar → Content
    value_from : Expr → Content
    pairs : Items → Content
    elements : Items → Content

-- ---- which items a block or a collection holds

abbrev mutual
  -- an item stands here, outside the blocks of functions
  pub is_node : Item → Bool
  is_node (node p kind notes key content) = true
  is_node (code s) = false
  is_node (if_block p e body more) = has_nodes body || branches_have_nodes more
  is_node (for_block p x e body) = has_nodes body
  is_node (def_block p number name ps kind body) = false

  pub has_nodes : Items → Bool
  has_nodes no_items = false
  has_nodes (an_item i is) = is_node i || has_nodes is

  pub branches_have_nodes : Branches → Bool
  branches_have_nodes no_branch = false
  branches_have_nodes (else_branch p body) = has_nodes body
  branches_have_nodes (elif_branch p e body more) = has_nodes body || branches_have_nodes more

abbrev mutual
  -- an item is written here, in the blocks of functions too
  pub is_written : Item → Bool
  is_written (node p kind notes key content) = true
  is_written (code s) = false
  is_written (if_block p e body more) = has_written body || branches_have_written more
  is_written (for_block p x e body) = has_written body
  is_written (def_block p number name ps kind body) = has_written body

  pub has_written : Items → Bool
  has_written no_items = false
  has_written (an_item i is) = is_written i || has_written is

  pub branches_have_written : Branches → Bool
  branches_have_written no_branch = false
  branches_have_written (else_branch p body) = has_written body
  branches_have_written (elif_branch p e body more) = has_written body || branches_have_written more

-- a collection that has written items, all of them in blocks of functions, is null
abbrev pub is_void : Items → Bool
is_void is = has_written is && not (has_nodes is)

-- a `def` that holds items, those in inner `def` blocks not counted, builds fragments of such items
abbrev pub fragment_kind : ItemKind → Items → Option ItemKind
fragment_kind kind is = if has_nodes is then Some kind else None
