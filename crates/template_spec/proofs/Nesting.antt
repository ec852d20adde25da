-- The program of a placed template is well nested.
use Rattle.std.proofs.Common.{◌≡◌, List, [], ◌∷◌, Some, None, Bool, true, false, ◌||◌, ◌&&◌, not, if◌then◌else◌, IsTrue, refl, sym, ap, ◌∙◌, subst}
use Rattle.std.proofs.lemmas.Bool.{or_left, or_right}
use Rattle.ytt_base.specs.declared.fault.Place.{Place}
use Rattle.code_spec.specs.Program.{ItemKind, document_item, pair_item, element_item, Holds, holds_one, holds_map, holds_list, holds_void, node_end, Instruction, same_kind}
use Rattle.code_spec.specs.Blocks.{op_part, Ops, no_ops, an_op, blocks}
use Rattle.template_spec.specs.Template.{Notes, no_notes, note, Key, no_key, written_key, key_from, Item, node, code, if_block, for_block, def_block, Items, no_items, an_item, Branches, no_branch, else_branch, elif_branch, Content, written_value, value_from, pairs, elements, is_node, has_nodes, has_written, branches_have_nodes, is_void}
use Rattle.template_spec.specs.Compiled.{holds_of, notes_code, key_code, item_code, items_code, branches_code, content_code, compiled}
use Rattle.template_spec.specs.Placed.{KeyFits, PlacedItem, PlacedItems, PlacedBranches, PlacedContent, Placed, AllowedNotes, AllowedKey, AllowedItem, AllowedItems, AllowedBranches, AllowedContent}
use Rattle.template_spec.specs.WellNested.{Stage, begun, keyed, filled, place_of, past_key, inner_kind, is_open, is_inner, when_true, with_value, in_front_of, may_end, Ways, in_a_file, in_a_node, in_a_branch, in_a_loop, in_a_function, ways_at, stands, block_of, IfAny, Nested, NestedArms, WellNestedBlocks, WellNested, AllowedProgram}
use Rattle.template_spec.proofs.Nested.{notes_ops, key_ops, item_ops, items_ops, arms, content_ops, blocks_of}

-- ---- stages

pub past_past : (s : Stage) → past_key (past_key s) ≡ past_key s
past_past (begun document_item h) = refl
past_past (begun pair_item h) = refl
past_past (begun element_item h) = refl
past_past (keyed h) = refl
past_past filled = refl
past_past (place_of k) = refl

-- items stand here, and nodes, if there are any, are of this kind
pub record Fine (s : Stage) (kind : ItemKind) (has_any : Bool) : Type 0 where
  pub open_here : is_open s ≡ true
  pub fit : has_any ≡ true → inner_kind s ≡ Some kind

fine_left : (s : Stage) (kind : ItemKind) (a b : Bool) → Fine s kind (a || b) → Fine s kind a
fine_left s kind a b f = record { open_here = f.open_here; fit = λ e. f.fit (or_left a b e) }

fine_right : (s : Stage) (kind : ItemKind) (a b : Bool) → Fine s kind (a || b) → Fine s kind b
fine_right s kind a b f = record { open_here = f.open_here; fit = λ e. f.fit (or_right a b e) }

past_fine : (s : Stage) (kind : ItemKind) (b : Bool) → Fine (past_key s) kind b → Fine (past_key (past_key s)) kind b
past_fine s kind b f = subst (λ x. Fine x kind b) (sym (past_past s)) f

-- the block of a function
block_past : (b : Bool) (k : ItemKind) → past_key (block_of (if b then Some k else None)) ≡ block_of (if b then Some k else None)
block_past true k = refl
block_past false k = refl

block_fine : (b : Bool) (k kind : ItemKind) → k ≡ kind → Fine (past_key (block_of (if b then Some k else None))) kind b
block_fine true k kind e = record { open_here = refl; fit = λ u. ap Some e }
block_fine false k kind e = record { open_here = refl; fit = λ u. cc }

-- a collection
map_fine : (written any : Bool) → Fine (keyed (if written && not any then holds_void else holds_map)) pair_item any
map_fine true true = record { open_here = refl; fit = λ u. refl }
map_fine true false = record { open_here = refl; fit = λ u. cc }
map_fine false true = record { open_here = refl; fit = λ u. refl }
map_fine false false = record { open_here = refl; fit = λ u. refl }

list_fine : (written any : Bool) → Fine (keyed (if written && not any then holds_void else holds_list)) element_item any
list_fine true true = record { open_here = refl; fit = λ u. refl }
list_fine true false = record { open_here = refl; fit = λ u. cc }
list_fine false true = record { open_here = refl; fit = λ u. refl }
list_fine false false = record { open_here = refl; fit = λ u. refl }

map_ends : (b : Bool) → may_end (keyed (if b then holds_void else holds_map)) ≡ true
map_ends true = refl
map_ends false = refl

list_ends : (b : Bool) → may_end (keyed (if b then holds_void else holds_list)) ≡ true
list_ends true = refl
list_ends false = refl

-- ---- ways

-- the ways in an open node, which are fewer, and those outside of all
abbrev pub ways_here : Ways → List Stage → Ways
ways_here w [] = w
ways_here w (s ∷ below) = in_a_node w

pub ways_same : (w : Ways) (x : Stage) (below : List Stage) → ways_here w below ≡ ways_at w (x ∷ below)
ways_same w x [] = refl
ways_same w x (s ∷ below) = refl

ways_inside : (w : Ways) (below : List Stage) → in_a_node (ways_here w below) ≡ in_a_node w
ways_inside w [] = refl
ways_inside w (s ∷ below) = refl

-- ---- the parts of a node

kind_same : (k : ItemKind) → same_kind k k ≡ true
kind_same document_item = refl
kind_same pair_item = refl
kind_same element_item = refl

start_here : (k kind : ItemKind) (s : Stage) (opens : List Stage) (P : List Stage → Type 0) → k ≡ kind → inner_kind s ≡ Some kind → P opens → IfAny (when_true (is_inner k (inner_kind s)) opens) P
start_here k kind s opens P e f r = subst (λ b. IfAny (when_true b opens) P) (sym (ap (is_inner k) (f ∙ ap Some (sym e)) ∙ kind_same k)) r

module _ (w : Ways) (last : List Stage) where
  notes_here : (ns : Notes) (rest : Ops) (k : ItemKind) (h : Holds) (b : List Stage) → Nested w last rest (begun k h ∷ b) → Nested w last (notes_ops ns rest) (begun k h ∷ b)
  notes_here no_notes rest k h b r = r
  notes_here (note p x es ns) rest k h b r = notes_here ns rest k h b r

  key_here : (kind : ItemKind) (p : Place) (key : Key) (rest : Ops) (h : Holds) (b : List Stage) → KeyFits kind key → ((z : Stage) → past_key z ≡ keyed h → Nested w last rest (z ∷ b)) → Nested w last (key_ops p key rest) (begun kind h ∷ b)
  key_here document_item p no_key rest h b f r = r (begun document_item h) refl
  key_here document_item p (written_key x) rest h b f r = absurd f
  key_here document_item p (key_from e) rest h b f r = absurd f
  key_here element_item p no_key rest h b f r = r (begun element_item h) refl
  key_here element_item p (written_key x) rest h b f r = absurd f
  key_here element_item p (key_from e) rest h b f r = absurd f
  key_here pair_item p no_key rest h b f r = absurd f
  key_here pair_item p (written_key x) rest h b f r = r (keyed h) refl
  key_here pair_item p (key_from e) rest h b f r = r (keyed h) refl

  -- a collection ends
  end_here : (p : Place) (os : Ops) (y t : Stage) (below : List Stage) (h : Holds) → may_end (keyed h) ≡ true → past_key y ≡ keyed h → Nested w last os (t ∷ below) → Nested w last (an_op (op_part (node_end p)) os) (y ∷ t ∷ below)
  end_here p os y t below h m e r = subst (λ b. IfAny (when_true b (t ∷ below)) (Nested w last os)) (sym (ap may_end e ∙ m)) r

  -- a value comes, and then the end
  value_here : (p : Place) (os : Ops) (z t : Stage) (below : List Stage) → past_key z ≡ keyed holds_one → Nested w last os (t ∷ below) → IfAny (in_front_of (t ∷ below) (with_value (past_key z))) (Nested w last (an_op (op_part (node_end p)) os))
  value_here p os z t below e r = subst (λ s. IfAny (in_front_of (t ∷ below) (with_value s)) (Nested w last (an_op (op_part (node_end p)) os))) (sym e) r

-- ---- items

mutual
  item_here : (w : Ways) (last : List Stage) (kind : ItemKind) (i : Item) (x : Stage) (below : List Stage) (os : Ops) → PlacedItem (ways_here w below) kind i → Fine (past_key x) kind (is_node i) → Nested w last os (past_key x ∷ below) → Nested w last (item_ops i os) (x ∷ below)
  item_here w last kind (node p k ns key c) x below os h f r =
      start_here k kind (past_key x) _ _ h.0 (f.fit refl)
      (notes_here w last ns _ k (holds_of c) (past_key x ∷ below)
      (subst (λ j. Nested w last (key_ops p key (content_ops p c (an_op (op_part (node_end p)) os))) (begun j (holds_of c) ∷ past_key x ∷ below)) (sym h.0)
      (key_here w last kind p key _ (holds_of c) (past_key x ∷ below) h.1 (λ z e. content_here w last (ways_here w below) c p z (past_key x) below os (ways_inside w below) h.2 e r))))
  item_here w last kind (code s) x below os h f r = (f.open_here, subst (λ v. IsTrue (stands v s)) (ways_same w x below) h, r)
  item_here w last kind (if_block p e body more) x below os h f r = (
    f.open_here,
    (
      items_here (in_a_branch (ways_at w (x ∷ below))) (past_key x ∷ []) kind body (past_key x) [] no_ops (subst (λ v. PlacedItems (in_a_branch v) kind body) (ways_same w x below) h.0) (past_fine x kind (has_nodes body) (fine_left _ kind (has_nodes body) (branches_have_nodes more) f)) refl (ap (λ s. s ∷ []) (past_past x)),
      branches_here (in_a_branch (ways_at w (x ∷ below))) kind more x (subst (λ v. PlacedBranches (in_a_branch v) kind more) (ways_same w x below) h.1) (fine_right _ kind (has_nodes body) (branches_have_nodes more) f),
    ),
    r,
  )
  item_here w last kind (for_block p y e body) x below os h f r =
      (f.open_here, items_here (in_a_loop (ways_at w (x ∷ below))) (past_key x ∷ []) kind body (past_key x) [] no_ops (subst (λ v. PlacedItems (in_a_loop v) kind body) (ways_same w x below) h) (past_fine x kind (has_nodes body) f) refl (ap (λ s. s ∷ []) (past_past x)), r)
  item_here w last kind (def_block p n y ps k body) x below os h f r = (
    f.open_here,
    items_here (in_a_function (if has_nodes body then Some k else None)) (block_of (if has_nodes body then Some k else None) ∷ []) kind body (block_of (if has_nodes body then Some k else None)) [] no_ops h.1 (block_fine (has_nodes body) k kind h.0) refl (ap (λ s. s ∷ []) (block_past (has_nodes body) k)),
    r,
  )

  -- the innermost open node stays as it is, or its key is past
  items_here : (w : Ways) (last : List Stage) (kind : ItemKind) (t : Items) (x : Stage) (below : List Stage) (os : Ops) → PlacedItems (ways_here w below) kind t → Fine (past_key x) kind (has_nodes t) → Nested w last os (x ∷ below) → Nested w last os (past_key x ∷ below) → Nested w last (items_ops t os) (x ∷ below)
  items_here w last kind no_items x below os h f now past = now
  items_here w last kind (an_item i is) x below os h f now past =
      item_here w last kind i x below (items_ops is os) h.0 (fine_left _ kind (is_node i) (has_nodes is) f)
      (items_here w last kind is (past_key x) below os h.1 (past_fine x kind (has_nodes is) (fine_right _ kind (is_node i) (has_nodes is) f)) past (subst (λ s. Nested w last os (s ∷ below)) (sym (past_past x)) past))

  branches_here : (w : Ways) (kind : ItemKind) (b : Branches) (x : Stage) → PlacedBranches w kind b → Fine (past_key x) kind (branches_have_nodes b) → NestedArms w (past_key x) (arms b)
  branches_here w kind no_branch x h f = tt
  branches_here w kind (else_branch p body) x h f = items_here w (past_key x ∷ []) kind body (past_key x) [] no_ops h (past_fine x kind (has_nodes body) f) refl (ap (λ s. s ∷ []) (past_past x))
  branches_here w kind (elif_branch p e body more) x h f =
      (items_here w (past_key x ∷ []) kind body (past_key x) [] no_ops h.0 (past_fine x kind (has_nodes body) (fine_left _ kind (has_nodes body) (branches_have_nodes more) f)) refl (ap (λ s. s ∷ []) (past_past x)), branches_here w kind more x h.1 (fine_right _ kind (has_nodes body) (branches_have_nodes more) f))

  content_here : (w : Ways) (last : List Stage) (v : Ways) (c : Content) (p : Place) (z t : Stage) (below : List Stage) (os : Ops) → in_a_node v ≡ in_a_node w → PlacedContent v c → past_key z ≡ keyed (holds_of c) → Nested w last os (t ∷ below) → Nested w last (content_ops p c (an_op (op_part (node_end p)) os)) (z ∷ t ∷ below)
  content_here w last v (written_value x) p z t below os same h e r = value_here w last p os z t below e r
  content_here w last v (value_from x) p z t below os same h e r = value_here w last p os z t below e r
  content_here w last v (pairs is) p z t below os same h e r =
      items_here w last pair_item is z (t ∷ below) (an_op (op_part (node_end p)) os) (subst (λ u. PlacedItems u pair_item is) same h) (subst (λ s. Fine s pair_item (has_nodes is)) (sym e) (map_fine (has_written is) (has_nodes is)))
      (end_here w last p os z t below (holds_of (pairs is)) (map_ends (is_void is)) e r) (end_here w last p os (past_key z) t below (holds_of (pairs is)) (map_ends (is_void is)) (past_past z ∙ e) r)
  content_here w last v (elements is) p z t below os same h e r =
      items_here w last element_item is z (t ∷ below) (an_op (op_part (node_end p)) os) (subst (λ u. PlacedItems u element_item is) same h) (subst (λ s. Fine s element_item (has_nodes is)) (sym e) (list_fine (has_written is) (has_nodes is)))
      (end_here w last p os z t below (holds_of (elements is)) (list_ends (is_void is)) e r) (end_here w last p os (past_key z) t below (holds_of (elements is)) (list_ends (is_void is)) (past_past z ∙ e) r)

pub placed_nested : (t : Items) → Placed t → WellNestedBlocks (blocks (compiled t))
placed_nested t h = subst WellNestedBlocks (sym (blocks_of t)) (items_here in_a_file (place_of document_item ∷ []) document_item t (place_of document_item) [] no_ops h (record { open_here = refl; fit = λ e. refl }) refl refl)

-- ---- names

notes_named : (ns : Notes) (is : List Instruction) → AllowedNotes ns → AllowedProgram is → AllowedProgram (notes_code ns is)
notes_named no_notes is h r = r
notes_named (note p x es ns) is h r = (h.0, notes_named ns is h.1 r)

key_named : (p : Place) (key : Key) (is : List Instruction) → AllowedKey key → AllowedProgram is → AllowedProgram (key_code p key is)
key_named p no_key is h r = r
key_named p (written_key x) is h r = (tt, r)
key_named p (key_from e) is h r = (h, r)

mutual
  item_named : (i : Item) (is : List Instruction) → AllowedItem i → AllowedProgram is → AllowedProgram (item_code i is)
  item_named (node p k ns key c) is h r = (tt, notes_named ns _ h.0 (key_named p key _ h.1 (content_named p c _ h.2 (tt, r))))
  item_named (code s) is h r = (h, r)
  item_named (if_block p e body more) is h r = (h.0, items_named body _ h.1 (branches_named p more is h.2 r))
  item_named (for_block p x e body) is h r = ((h.0, h.1), items_named body _ h.2 (tt, r))
  item_named (def_block p n x ps k body) is h r = (h.0, items_named body _ h.1 (tt, r))

  items_named : (t : Items) (is : List Instruction) → AllowedItems t → AllowedProgram is → AllowedProgram (items_code t is)
  items_named no_items is h r = r
  items_named (an_item i more) is h r = item_named i (items_code more is) h.0 (items_named more is h.1 r)

  branches_named : (q : Place) (b : Branches) (is : List Instruction) → AllowedBranches b → AllowedProgram is → AllowedProgram (branches_code q b is)
  branches_named q no_branch is h r = (tt, r)
  branches_named q (else_branch p body) is h r = (tt, items_named body _ h (tt, r))
  branches_named q (elif_branch p e body more) is h r = (h.0, items_named body _ h.1 (branches_named q more is h.2 r))

  content_named : (p : Place) (c : Content) (is : List Instruction) → AllowedContent c → AllowedProgram is → AllowedProgram (content_code p c is)
  content_named p (written_value x) is h r = (tt, r)
  content_named p (value_from e) is h r = (h, r)
  content_named p (pairs t) is h r = items_named t is h r
  content_named p (elements t) is h r = items_named t is h r

pub well_nested : (t : Items) → Placed t → AllowedItems t → WellNested (compiled t)
well_nested t h names = record { nested = placed_nested t h; names = items_named t [] names tt }
