-- Where the program of a template is well nested, the control words of the template stand where they may.
use Rattle.std.proofs.Common.{◌≡◌, List, [], ◌∷◌, Bool, true, false, IsTrue, refl, sym, ◌∙◌, subst}
use Rattle.std.proofs.lemmas.Bool.{both_ways}
use Rattle.ytt_base.specs.declared.fault.Place.{Place}
use Rattle.code_spec.specs.Code.{Statement, evaluate, assign, augment, load, return, break, continue, pass}
use Rattle.code_spec.specs.Program.{ItemKind, document_item, pair_item, element_item, Holds, holds_one, holds_map, holds_list, holds_void, node_end}
use Rattle.code_spec.specs.Blocks.{op_part, Ops, no_ops, an_op, blocks}
use Rattle.template_spec.specs.Template.{Notes, no_notes, note, Key, no_key, written_key, key_from, Item, node, code, if_block, for_block, def_block, Items, no_items, an_item, Branches, no_branch, else_branch, elif_branch, Content, written_value, value_from, pairs, elements}
use Rattle.template_spec.specs.Compiled.{holds_of, fragment_of, compiled}
use Rattle.template_spec.specs.ControlWords.{Around, free, in_loop, in_node, within_loop, MayStand, ItemWordsStand, WordsStand, BranchWordsStand, ContentWordsStand}
use Rattle.template_spec.specs.Placed.{Placed}
use Rattle.template_spec.specs.WellNested.{Stage, begun, keyed, filled, place_of, past_key, inner_kind, is_inner, when_true, with_value, in_front_of, may_end, Ways, in_a_file, in_a_branch, in_a_loop, in_a_function, ways_at, stands, block_of, IfAny, Nested, NestedArms, WellNestedBlocks}
use Rattle.template_spec.proofs.Nested.{notes_ops, key_ops, item_ops, items_ops, arms, content_ops, blocks_of}
use Rattle.template_spec.proofs.Nesting.{past_past, ways_here, ways_same, placed_nested}

-- the ways let no word out that may not leave
abbrev Agree : Around → Ways → Type 0
Agree free v = Unit {0}
Agree in_loop v = v.may_return ≡ false
Agree in_node v = (v.may_return ≡ false) × (v.may_break ≡ false)

may_stand : (a : Around) (v : Ways) (s : Statement) → Agree a v → IsTrue (stands v s) → MayStand a s
may_stand free v s h g = tt
may_stand in_loop v (return p e) h g = both_ways v.may_return h g
may_stand in_loop v (evaluate p e) h g = tt
may_stand in_loop v (assign p x e) h g = tt
may_stand in_loop v (augment p o q x e) h g = tt
may_stand in_loop v (load p path xs) h g = tt
may_stand in_loop v (break p) h g = tt
may_stand in_loop v (continue p) h g = tt
may_stand in_loop v (pass p) h g = tt
may_stand in_node v (return p e) h g = both_ways v.may_return h.0 g
may_stand in_node v (break p) h g = both_ways v.may_break h.1 g
may_stand in_node v (continue p) h g = both_ways v.may_break h.1 g
may_stand in_node v (evaluate p e) h g = tt
may_stand in_node v (assign p x e) h g = tt
may_stand in_node v (augment p o q x e) h g = tt
may_stand in_node v (load p path xs) h g = tt
may_stand in_node v (pass p) h g = tt

branch_agrees : (a : Around) (v : Ways) → Agree a v → Agree a (in_a_branch v)
branch_agrees free v h = tt
branch_agrees in_loop v h = h
branch_agrees in_node v h = h

loop_agrees : (a : Around) (v : Ways) → Agree a v → Agree (within_loop a) (in_a_loop v)
loop_agrees free v h = tt
loop_agrees in_loop v h = h
loop_agrees in_node v h = h.0

-- ---- the parts of a node

if_any : (b : Bool) (opens : List Stage) (P : List Stage → Type 0) → IfAny (when_true b opens) P → P opens
if_any true opens P h = h
if_any false opens P h = absurd h

if_value : (s : Stage) (below : List Stage) (P : List Stage → Type 0) → IfAny (in_front_of below (with_value s)) P → P (filled ∷ below)
if_value (keyed holds_one) below P h = h
if_value (keyed holds_map) below P h = absurd h
if_value (keyed holds_list) below P h = absurd h
if_value (keyed holds_void) below P h = absurd h
if_value (begun k holds) below P h = absurd h
if_value filled below P h = absurd h
if_value (place_of k) below P h = absurd h

-- the innermost open node, as it is then, with what follows
record After (w : Ways) (last : List Stage) (os : Ops) (x : Stage) (below : List Stage) : Type 0 where
  now : Stage
  same : past_key now ≡ past_key x
  nested : Nested w last os (now ∷ below)

notes_after : (w : Ways) (last : List Stage) (ns : Notes) (os : Ops) (k : ItemKind) (h : Holds) (below : List Stage) → Nested w last (notes_ops ns os) (begun k h ∷ below) → Nested w last os (begun k h ∷ below)
notes_after w last no_notes os k h below r = r
notes_after w last (note p x es ns) os k h below r = notes_after w last ns os k h below r

record Some_stage (w : Ways) (last : List Stage) (os : Ops) (below : List Stage) : Type 0 where
  stage : Stage
  nested : Nested w last os (stage ∷ below)

key_after : (w : Ways) (last : List Stage) (p : Place) (key : Key) (os : Ops) (k : ItemKind) (h : Holds) (below : List Stage) → Nested w last (key_ops p key os) (begun k h ∷ below) → Some_stage w last os below
key_after w last p no_key os k h below r = record { stage = begun k h; nested = r }
key_after w last p (written_key x) os document_item h below r = absurd r
key_after w last p (written_key x) os element_item h below r = absurd r
key_after w last p (written_key x) os pair_item h below r = record { stage = keyed h; nested = r }
key_after w last p (key_from e) os document_item h below r = absurd r
key_after w last p (key_from e) os element_item h below r = absurd r
key_after w last p (key_from e) os pair_item h below r = record { stage = keyed h; nested = r }

-- ---- items

mutual
  item_words : (w : Ways) (last : List Stage) (a : Around) (i : Item) (x : Stage) (below : List Stage) (os : Ops) → Agree a (ways_here w below) → Nested w last (item_ops i os) (x ∷ below) → ItemWordsStand a i × Nested w last os (past_key x ∷ below)
  item_words w last a (node p k ns key c) x below os g h =
      let begins = notes_after w last ns _ k (holds_of c) (past_key x ∷ below) (if_any (is_inner k (inner_kind (past_key x))) _ _ h) in
      let keys = key_after w last p key _ k (holds_of c) (past_key x ∷ below) begins in
      content_words w last c p keys.stage (past_key x) below os keys.nested
  item_words w last a (code s) x below os g h = (may_stand a (ways_here w below) s g (subst (λ v. IsTrue (stands v s)) (sym (ways_same w x below)) h.1), h.2)
  item_words w last a (if_block p e body more) x below os g h =
      let agrees = branch_agrees a (ways_at w (x ∷ below)) (subst (Agree a) (ways_same w x below) g) in
      (((items_words (in_a_branch (ways_at w (x ∷ below))) _ a body (past_key x) [] no_ops agrees h.1.0).0, branches_words (in_a_branch (ways_at w (x ∷ below))) a more (past_key x) agrees h.1.1), h.2)
  item_words w last a (for_block p y e body) x below os g h =
      ((items_words (in_a_loop (ways_at w (x ∷ below))) _ (within_loop a) body (past_key x) [] no_ops (loop_agrees a (ways_at w (x ∷ below)) (subst (Agree a) (ways_same w x below) g)) h.1).0, h.2)
  item_words w last a (def_block p n y ps k body) x below os g h = ((items_words (in_a_function (fragment_of k body)) _ free body (block_of (fragment_of k body)) [] no_ops tt h.1).0, h.2)

  items_words : (w : Ways) (last : List Stage) (a : Around) (t : Items) (x : Stage) (below : List Stage) (os : Ops) → Agree a (ways_here w below) → Nested w last (items_ops t os) (x ∷ below) → WordsStand a t × After w last os x below
  items_words w last a no_items x below os g h = (tt, record { now = x; same = refl; nested = h })
  items_words w last a (an_item i is) x below os g h =
      let first = item_words w last a i x below (items_ops is os) g h in
      let rest = items_words w last a is (past_key x) below os g first.1 in
      ((first.0, rest.0), record { now = rest.1.now; same = rest.1.same ∙ past_past x; nested = rest.1.nested })

  branches_words : (w : Ways) (a : Around) (b : Branches) (s : Stage) → Agree a w → NestedArms w s (arms b) → BranchWordsStand a b
  branches_words w a no_branch s g h = tt
  branches_words w a (else_branch p body) s g h = (items_words w _ a body s [] no_ops g h).0
  branches_words w a (elif_branch p e body more) s g h = ((items_words w _ a body s [] no_ops g h.0).0, branches_words w a more s g h.1)

  content_words : (w : Ways) (last : List Stage) (c : Content) (p : Place) (z t : Stage) (below : List Stage) (os : Ops) → Nested w last (content_ops p c (an_op (op_part (node_end p)) os)) (z ∷ t ∷ below) → ContentWordsStand c × Nested w last os (t ∷ below)
  content_words w last (written_value x) p z t below os h = (tt, if_value (past_key z) (t ∷ below) _ h)
  content_words w last (value_from e) p z t below os h = (tt, if_value (past_key z) (t ∷ below) _ h)
  content_words w last (pairs is) p z t below os h =
      let inside = items_words w last in_node is z (t ∷ below) (an_op (op_part (node_end p)) os) (refl, refl) h in (inside.0, if_any (may_end (past_key inside.1.now)) (t ∷ below) _ inside.1.nested)
  content_words w last (elements is) p z t below os h =
      let inside = items_words w last in_node is z (t ∷ below) (an_op (op_part (node_end p)) os) (refl, refl) h in (inside.0, if_any (may_end (past_key inside.1.now)) (t ∷ below) _ inside.1.nested)

pub nested_words : (t : Items) → WellNestedBlocks (blocks (compiled t)) → WordsStand free t
nested_words t h = (items_words in_a_file (place_of document_item ∷ []) free t (place_of document_item) [] no_ops tt (subst WellNestedBlocks (blocks_of t) h)).0

-- so they do in a placed template
pub placed_words : (t : Items) → Placed t → WordsStand free t
placed_words t h = nested_words t (placed_nested t h)
