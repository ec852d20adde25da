-- Taking a value over into a node: a tree, or annotated children, at that moment. A tree, a child and a key cost the
-- steps of their size: one for each member, and a sixteenth of the bytes of each text; an object is paid for each time
-- that it is reached. A value of a depth may stand at an item with so many collections around it where both together
-- are no more than the greatest depth.
use Rattle.std.specs.Prelude.{ℕ, zero, suc, ◌-◌, Bool, true, false, List, [], ◌∷◌, length, Option, Some, None, if◌then◌else◌}
use Rattle.ytt_base.specs.declared.fault.FaultKind.TheVariants as kind
use Rattle.ytt_base.specs.declared.fault.Place.{Place}
use Rattle.ytt_base.specs.Trees.{Scalar, null, boolean, integer, string, Tree, scalar, list, map, Trees, no_trees, tree, Pairs, no_pairs, pair, max_depth}
use Rattle.code_spec.specs.Code.{Name}
use Rattle.code_spec.specs.Program.{ItemKind, pair_item, element_item, same_kind}
use Rattle.value_spec.specs.Values.{Value, none_value, bool_value, int_value, text_value, tuple_value, struct_value, fragment_value, list_value, dict_value, native_value, replacement, values_in, fields_in, child, Children, no_children, a_child, no_built, one, map_of, list_of, Taken, taken, many, of_list, of_dict, of_box, of_function, Object}
use Rattle.value_spec.specs.Outcomes.{Computation, paid, paid_by, give, fail, reads, ◌>>=◌}
use Rattle.value_spec.specs.Built.{children_trees, children_pairs, below, children_paid}
use Rattle.value_spec.specs.Keys.{text_cost}
use Rattle.value_spec.specs.Store.{object_at}

-- ---- the tree of a value

-- a key of a tree; a tuple is none
abbrev pub scalar_of_value : {H : Type 0} → Place → Value → Computation H Scalar
scalar_of_value p none_value = give null
scalar_of_value p (bool_value b) = give (boolean b)
scalar_of_value p (int_value z) = give (integer z)
scalar_of_value p (text_value t) = paid_by (text_cost (length t)) p (give (string t))
scalar_of_value p v = fail kind.NotYaml p

-- members one after another, each paid for before it is converted
abbrev pub trees_by : {H : Type 0} → (Value → Computation H Tree) → Place → List Value → Computation H Trees
trees_by convert p [] = give no_trees
trees_by convert p (v ∷ vs) = do
  t ← paid p (convert v)
  ts ← trees_by convert p vs
  give (tree t ts)

abbrev pub pairs_by : {H : Type 0} → (Value → Computation H Tree) → Place → List (Value × Value) → Computation H Pairs
pairs_by convert p [] = give no_pairs
pairs_by convert p (m ∷ ms) = do
  x ← paid p (scalar_of_value p m.0)
  t ← convert m.1
  ps ← pairs_by convert p ms
  give (pair x t ps)

abbrev pub with_text_keys : List (Name × Value) → List (Value × Value)
with_text_keys [] = []
with_text_keys (f ∷ fs) = (text_value f.0, f.1) ∷ with_text_keys fs

abbrev pub object_tree : {H : Type 0} → (Value → Computation H Tree) → Place → Option Object → Computation H Tree
object_tree convert p None = fail kind.NotYaml p
object_tree convert p (Some o) = elim o.contents [
  | of_list vs ↦ trees_by convert p vs >>= λ ts. give (list ts)
  | of_dict ms ↦ pairs_by convert p ms >>= λ ps. give (map ps)
  | of_box v ↦ fail kind.NotYaml p
  | of_function f ↦ fail kind.NotYaml p
]

-- a collection, whose members are converted one level down
abbrev pub inner_tree : {H : Type 0} → (Value → Computation H Tree) → ℕ → Place → Value → Computation H Tree
inner_tree convert n p (list_value r) = reads (object_at r) >>= object_tree convert p
inner_tree convert n p (dict_value r) = reads (object_at r) >>= object_tree convert p
inner_tree convert n p (tuple_value vs) = trees_by convert p (values_in vs) >>= λ ts. give (list ts)
inner_tree convert n p (struct_value fs) = pairs_by convert p (with_text_keys (fields_in fs)) >>= λ ps. give (map ps)
inner_tree convert n p (fragment_value pair_item cs) = children_paid p n cs >>= λ u. give (map (children_pairs cs))
inner_tree convert n p (fragment_value element_item cs) = children_paid p n cs >>= λ u. give (list (children_trees cs))
inner_tree convert n p v = fail kind.NotYaml p

-- what has a tree without members, a collection, or neither
abbrev pub outer_tree : {H : Type 0} → (collection : Computation H Tree) → Place → Value → Computation H Tree
outer_tree collection p none_value = give (scalar null)
outer_tree collection p (bool_value b) = give (scalar (boolean b))
outer_tree collection p (int_value z) = give (scalar (integer z))
outer_tree collection p (text_value t) = paid_by (text_cost (length t)) p (give (scalar (string t)))
outer_tree collection p (tuple_value vs) = collection
outer_tree collection p (struct_value fs) = collection
outer_tree collection p (list_value r) = collection
outer_tree collection p (dict_value r) = collection
outer_tree collection p (fragment_value pair_item cs) = collection
outer_tree collection p (fragment_value element_item cs) = collection
outer_tree collection p v = fail kind.NotYaml p

-- the tree of a collection, where so many levels are left
abbrev pub deeper_tree : {H : Type 0} → (levels : ℕ) → Place → Value → Computation H Tree
deeper_tree zero p v = fail kind.TooDeep p
deeper_tree (suc n) p v = inner_tree (λ w. outer_tree (deeper_tree n p w) p w) n p v

-- the tree of a value
abbrev pub tree_of_value : {H : Type 0} → (levels : ℕ) → Place → Value → Computation H Tree
tree_of_value n p v = outer_tree (deeper_tree n p v) p v

-- ---- a node's value

abbrev pub levels_at : (around : ℕ) → ℕ
levels_at n = max_depth - n

-- what stands in the node's place has its members there: one level less counts
abbrev pub levels_replaced : (around : ℕ) → ℕ
levels_replaced n = suc max_depth - n

-- the members of a tree as children at an item's place
abbrev pub elements_at : Place → Trees → Children
elements_at p no_trees = no_children
elements_at p (tree t ts) = a_child (child p no_built None (one t)) (elements_at p ts)

abbrev pub pairs_at : Place → Pairs → Children
pairs_at p no_pairs = no_children
pairs_at p (pair x t ps) = a_child (child p no_built (Some x) (one t)) (pairs_at p ps)

abbrev pub members_at : Place → Tree → Children
members_at p (scalar s) = no_children
members_at p (list ts) = elements_at p ts
members_at p (map ps) = pairs_at p ps

-- a fragment goes with items of its kind, a dict with pairs, a list with elements
abbrev pub fits_kind : ItemKind → Value → Bool
fits_kind k (fragment_value j cs) = same_kind j k
fits_kind pair_item (dict_value r) = true
fits_kind element_item (list_value r) = true
fits_kind _ _ = false

-- the children that a value gives in an item's place
abbrev pub children_in_place : {H : Type 0} → Place → ℕ → Value → Computation H Children
children_in_place p n (fragment_value k cs) = below p (levels_replaced n) (λ m. children_paid p m cs) >>= λ u. give cs
children_in_place p n v = tree_of_value (levels_replaced n) p v >>= λ t. give (members_at p t)

-- what `template.replace` of a value gives in the place of an item of this kind
abbrev pub replaced : {H : Type 0} → Place → ItemKind → ℕ → Value → Computation H Taken
replaced p k n v = if fits_kind k v then (children_in_place p n v >>= λ cs. give (many cs)) else fail kind.FragmentMixed p

-- a value taken over at an item of this kind with so many collections around it; documents stand in no node
abbrev pub take_over : {H : Type 0} → Place → ItemKind → (around : ℕ) → Value → Computation H Taken
take_over p k n (native_value (replacement v)) = replaced p k n v
take_over p k n (fragment_value pair_item cs) = below p (levels_at n) (λ m. children_paid p m cs) >>= λ u. give (taken (map_of cs))
take_over p k n (fragment_value element_item cs) = below p (levels_at n) (λ m. children_paid p m cs) >>= λ u. give (taken (list_of cs))
take_over p k n v = tree_of_value (levels_at n) p v >>= λ t. give (taken (one t))

-- the key that an expression gives is a text
abbrev pub key_taken : {H : Type 0} → Place → Value → Computation H (Option Scalar)
key_taken p (text_value t) = give (Some (string t))
key_taken p v = fail kind.NotYaml p
