-- A program: a flat list of instructions, each with its place, which are parts of nodes, simple statements, and the
-- heads and ends of blocks.
use Rattle.std.specs.Prelude.{ℕ, Option, Bool, true, false}
use Rattle.ytt_base.specs.declared.fault.Place.{Place}
use Rattle.ytt_base.specs.Trees.{Scalar}
use Rattle.code_spec.specs.Code.{Name, Expr, Exprs, Parameters, Statement}

-- what an item is
pub data ItemKind : Type 0 where
  document_item : ItemKind
  pair_item : ItemKind
  element_item : ItemKind

-- both are of one kind
abbrev pub same_kind : ItemKind → ItemKind → Bool
same_kind document_item document_item = true
same_kind pair_item pair_item = true
same_kind element_item element_item = true
same_kind _ _ = false

-- what a node holds: one value, the pairs of a map, the elements of a list, or nothing, where all items that are
-- written in it stand in blocks of functions
pub data Holds : Type 0 where
  holds_one : Holds
  holds_map : Holds
  holds_list : Holds
  holds_void : Holds

-- a part of a node: its start, a note, its key, its value, its end
pub data NodePart : Type 0 where
  node_start : Place → ItemKind → Holds → NodePart
  node_note : Place → Name → Exprs → NodePart
  node_key : Place → Scalar → NodePart
  node_key_from : Place → Expr → NodePart
  node_value : Place → Scalar → NodePart
  node_value_from : Place → Expr → NodePart
  node_end : Place → NodePart

-- an instruction; the function of a `def` has a number in its file, and a fragment function the kind of its items
pub data Instruction : Type 0 where
  part : NodePart → Instruction
  statement : Statement → Instruction
  begin_if : Place → Expr → Instruction
  begin_elif : Place → Expr → Instruction
  begin_else : Place → Instruction
  begin_for : Place → (target members : Expr) → Instruction
  begin_def : Place → (number : ℕ) → (fragment : Option ItemKind) → Name → Parameters → Instruction
  close : Place → Instruction
