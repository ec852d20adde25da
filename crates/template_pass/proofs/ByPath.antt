-- What is put, by paths in place of levels, and the slot of one collection alone.
use Rattle.std.proofs.Common.{◌≡◌, ℕ, suc, Bool, List, [], ◌∷◌, length, bytes_eq, Option, if◌then◌else◌}
use Rattle.ytt_base.specs.Trees.{Scalar}
use Rattle.code_spec.specs.Program.{ItemKind}
use Rattle.template_spec.specs.Comments.{Said}
use Rattle.template_spec.specs.Events.{Path, Event, begins}
use Rattle.template_spec.specs.OpenBlocks.{collection_of, so_far}
use Rattle.template_spec.specs.Nesting.{a_node, a_mark}
use Rattle.template_spec.specs.Template.{Item}
use Rattle.template_pass.specs.Flat.{Shape}
use Rattle.template_pass.specs.Rows.{level_of}
use Rattle.template_pass.specs.Building.{Before, Put, an_item, put_beside, put_mark, Slot, fresh, with_part, with_beside, item_with}
use Rattle.template_pass.proofs.Paths.{In}

pub data PathPut : Type 0 where
  item_put : Path → ItemKind → (line : ℕ) → (key : Option Scalar) → Shape → List Before → PathPut
  beside_put : Path → (line : ℕ) → Said → PathPut
  mark_put : (collection : Path) → (line : ℕ) → Said → PathPut

abbrev pub by_level : PathPut → Put
by_level (item_put p k l key w ns) = an_item (level_of p) k l key w ns
by_level (beside_put p l s) = put_beside (level_of p) l s
by_level (mark_put c l s) = put_mark (length c) l s

abbrev pub changed_if : Bool → (Slot → Slot) → Slot → Slot
changed_if b f s = if b then f s else s

-- the slot of a collection, from what is put into it and beside the item whose value it is
abbrev pub slot_of : (file : ℕ) → Path → List PathPut → Slot
slot_of file c [] = fresh
slot_of file c (item_put p k l key w ns ∷ qs) =
    changed_if (bytes_eq (collection_of p) c) (with_part (a_node (item_with file k l key w ns (slot_of file p qs)))) (slot_of file c qs)
slot_of file c (beside_put p l s ∷ qs) = changed_if (bytes_eq p c) (with_beside file l s) (slot_of file c qs)
slot_of file c (mark_put d l s ∷ qs) = changed_if (bytes_eq d c) (with_part (a_mark l s)) (slot_of file c qs)

abbrev pub node_if : Bool → Item → List Item → List Item
node_if b x xs = if b then x ∷ xs else xs

-- the items of a collection
abbrev pub nodes_of : (file : ℕ) → Path → List PathPut → List Item
nodes_of file c [] = []
nodes_of file c (item_put p k l key w ns ∷ qs) = node_if (bytes_eq (collection_of p) c) (item_with file k l key w ns (slot_of file p qs)) (nodes_of file c qs)
nodes_of file c (beside_put p l s ∷ qs) = nodes_of file c qs
nodes_of file c (mark_put d l s ∷ qs) = nodes_of file c qs

-- each item is the next one of a collection that the last item is in, and what else is put belongs to one that it is in
abbrev pub Ordered : (last : Path) → (past : List Event) → List PathPut → Type 0
Ordered q past [] = Unit {0}
Ordered q past (item_put p k l key w ns ∷ qs) =
    In q (collection_of p) × (p ≡ so_far (collection_of p) past ∷ collection_of p) × Ordered p (begins p k l ∷ past) qs
Ordered q past (beside_put p l s ∷ qs) = In q p × (suc (level_of p) ≡ length p) × Ordered q past qs
Ordered q past (mark_put c l s ∷ qs) = In q c × Ordered q past qs
