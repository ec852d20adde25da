-- The parts of collections and what is read of them from the end, as plain data.
use Rattle.std.specs.Prelude.{◌≡◌, ℕ, Bool, true, false, List, Option, Some, None, map as each, reverse}
use Rattle.ytt_base.specs.declared.fault.Place.{Place}
use Rattle.code_spec.specs.CodeReading.{Header}
use Rattle.ytt_base.specs.Outcomes.{place_at}
use Rattle.code_spec.specs.Program.{ItemKind, Instruction, statement}
use Rattle.notes_read.specs.View.{said_of}
use Rattle.template_spec.specs.Nesting as nesting
use Rattle.template_spec.specs.Nesting.{broken, at_top, inside, a_node, a_mark, nest_said, put}
use Rattle.template_spec.specs.Template.{Branches, an_item, no_branch, no_items}
use Rattle.template_tree.specs.declared.nest.Nested.{Nested, fold-Nested}
use Rattle.template_tree.specs.declared.nest.Nested.TheOpen.{Nested-F}
use Rattle.template_tree.specs.declared.nest.Part.{Part}
use Rattle.template_tree.specs.declared.nest.Part.TheVariants as part
use Rattle.template_tree.specs.declared.tree.TItem.{TItem}
use Rattle.template_tree.specs.View.{branches_of, item_of, items_of}

abbrev pub part_of : (file : ℕ) → Part → nesting.Part
part_of file (part.Node i) = a_node (item_of file i)
part_of file (part.Mark l c) = a_mark l (said_of file c)

-- the first part stands last
abbrev pub parts_of : (file : ℕ) → List Part → List nesting.Part
parts_of file ps = each (part_of file) (reverse ps)

abbrev pub nested_step : (file : ℕ) → Nested-F nesting.Nested → nesting.Nested
nested_step file Nested-F.Broken = broken
nested_step file (Nested-F.AtTop is) = at_top (items_of file is.items)
nested_step file (Nested-F.Inside is elifs last outer) = inside (items_of file is.items) (branches_of file elifs last) outer

abbrev pub nested_of : (file : ℕ) → Nested → nesting.Nested
nested_of file = fold-Nested nesting.Nested (nested_step file)

-- What a block around one item becomes: one with this item, before what is left; or there is no item for it.
abbrev pub Pops : (file : ℕ) → (old new : Nested) → Option TItem → Type 0
Pops file old new None = (kind : ItemKind) (p : Place) (h : Header) → nesting.around_one kind p h (nested_of file old) ≡ broken
Pops file old new (Some i) = (kind : ItemKind) (p : Place) (h : Header) →
    nesting.around_one kind p h (nested_of file old) ≡ nesting.put_block (nesting.block_of kind p h (an_item (item_of file i) no_items) no_branch) (nested_of file new)

-- one part in front
abbrev pub nest_step : (file : ℕ) → ItemKind → nesting.Part → nesting.Nested → nesting.Nested
nest_step file kind (a_node i) n = put i n
nest_step file kind (a_mark l s) n = nest_said kind (place_at file l) s n

abbrev pub is_statement : Instruction → Bool
is_statement (statement s) = true
is_statement i = false

abbrev pub is_no_branch : Branches → Bool
is_no_branch no_branch = true
is_no_branch more = false
