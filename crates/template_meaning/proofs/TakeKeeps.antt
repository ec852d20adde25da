-- Values taken over, and children added, are what the program holds and nest no deeper than they may.
use Rattle.std.proofs.Common.{◌≡◌, ℕ, zero, suc, ◌-◌, ◌≤◌, Bool, true, false, not, ◌&&◌, ◌||◌, List, [], ◌∷◌, length, Option, Some, None, IsTrue, refl, sym, ap, ◌∙◌, subst, arith, ℤ, pos, negsuc, eqb-true, bytes_eq}
use Rattle.std.proofs.lemmas.Bool.{and_parts, not-true, or_from, or_parts}
use Rattle.std.proofs.lemmas.Slice.Eq.{bytes_eq-Decides}
use Rattle.ytt_base.specs.declared.fault.FaultKind.TheVariants as kind
use Rattle.ytt_base.specs.declared.fault.Place.{Place}
use Rattle.ytt_base.specs.Trees.{Scalar, null, boolean, integer, string, same_bool, same_integer, same_key, has_key, Tree, scalar, list, map, Trees, no_trees, tree, Pairs, no_pairs, pair, keys, IsScalar, IsTree, AreTrees, ArePairs, depth, trees_depth, pairs_depth, max_depth}
use Rattle.code_spec.specs.Allowed.{has_name, are_distinct}
use Rattle.code_spec.specs.Code.{Name}
use Rattle.star_spec.specs.Held.{HeldValue, HeldFields, field_names, HeldKey, HeldChild, HeldChildren, HeldBody, child_keys, keys_distinct, HeldList, has_equal_key, HeldPairs, HeldContents}
use Rattle.value_spec.specs.Keys as value_keys
use Rattle.value_spec.specs.Keys.{text_cost}
use Rattle.value_spec.specs.Outcomes.{Computation, ◌>>=◌, give, fail}
use Rattle.code_spec.specs.Program.{ItemKind, document_item, pair_item, element_item}
use Rattle.value_spec.specs.Store.{object_at}
use Rattle.value_spec.specs.Values.{Value, none_value, bool_value, int_value, text_value, tuple_value, range_value, struct_value, fragment_value, list_value, dict_value, function_value, module_value, native_value, builtin, method, host_native, replacement, values_in, Fields, no_fields, a_field, fields_in, Child, child, Children, no_children, a_child, BuiltNotes, Body, one, map_of, list_of, Taken, taken, many, Contents, of_list, of_dict, of_box, of_function, Object}
use Rattle.star_spec.proofs.FreshKeeps.{scalar_keeps, key_keeps}
use Rattle.star_spec.proofs.MembersHeld.{in_values}
use Rattle.star_spec.proofs.Keeping.{Keeps, keeps_then, keeps_give, keeps_fail, keeps_paid, keeps_if, keeps_below, keeps_reads, keeps_weaker, HeldIfThere, object_held}
use Rattle.template_meaning.specs.Adding.{keys_equal, overrides, add_child, add_all, add_taken}
use Rattle.value_spec.specs.Built.{body_tree, children_trees, children_pairs, below, tree_paid, trees_paid, pairs_paid, children_paid, body_paid}
use Rattle.template_meaning.specs.Take.{scalar_of_value, trees_by, pairs_by, with_text_keys, object_tree, inner_tree, outer_tree, deeper_tree, tree_of_value, levels_at, levels_replaced, elements_at, pairs_at, members_at, fits_kind, children_in_place, replaced, take_over, key_taken}

-- ---- depths

-- each child's tree is no deeper
abbrev pub AreLow : ℕ → Children → Type 0
AreLow n no_children = Unit {0}
AreLow n (a_child (child p ns x b) cs) = (depth (body_tree b) ≤ n) × AreLow n cs

pub low_trees : (n : ℕ) (cs : Children) → AreLow n cs → trees_depth (children_trees cs) ≤ n
low_trees n no_children h = omega arith
low_trees n (a_child (child p ns x b) cs) h = let a = h.0 in let r = low_trees n cs h.1 in omega (arith, a, r)

pub low_pairs : (n : ℕ) (cs : Children) → AreLow n cs → pairs_depth (children_pairs cs) ≤ n
low_pairs n no_children h = omega arith
low_pairs n (a_child (child p ns None b) cs) h = low_pairs n cs h.1
low_pairs n (a_child (child p ns (Some x) b) cs) h = let a = h.0 in let r = low_pairs n cs h.1 in omega (arith, a, r)

-- ---- trees of children

keys_of_children : (cs : Children) → keys (children_pairs cs) ≡ child_keys cs
keys_of_children no_children = refl
keys_of_children (a_child (child p ns None b) cs) = keys_of_children cs
keys_of_children (a_child (child p ns (Some x) b) cs) = ap (λ ks. x ∷ ks) (keys_of_children cs)

mutual
  pub body_is_tree : (b : Body) → HeldBody b → IsTree (body_tree b)
  body_is_tree (one t) h = h
  body_is_tree (map_of cs) h = pairs_are cs h.0 h.1
  body_is_tree (list_of cs) h = trees_are cs h

  pub trees_are : (cs : Children) → HeldChildren cs → AreTrees (children_trees cs)
  trees_are no_children h = tt
  trees_are (a_child (child p ns x b) cs) h = (body_is_tree b h.0.1, trees_are cs h.1)

  pairs_are : (cs : Children) → HeldChildren cs → IsTrue (keys_distinct (child_keys cs)) → ArePairs (children_pairs cs)
  pairs_are no_children h e = tt
  pairs_are (a_child (child p ns None b) cs) h e = pairs_are cs h.1 e
  pairs_are (a_child (child p ns (Some x) b) cs) h e =
      let parts = and_parts (not (has_key x (child_keys cs))) (keys_distinct (child_keys cs)) e in
      (h.0.0, body_is_tree b h.0.1, ap (has_key x) (keys_of_children cs) ∙ not-true (has_key x (child_keys cs)) parts.0, pairs_are cs h.1 parts.1)

-- ---- what is paid for is no deeper than the levels left

mutual
  tree_keeps : {H : Type 0} (p : Place) (n : ℕ) (t : Tree) → Keeps {H = H} (λ u. depth t ≤ n) (tree_paid p n t)
  tree_keeps p n (scalar x) = keeps_weaker (λ u h. omega arith) (scalar_keeps p x)
  tree_keeps p n (list ts) = keeps_below p n (λ m. trees_paid p m ts) (λ m e. keeps_weaker (λ u h. omega (arith, e, h)) (trees_keep p m ts))
  tree_keeps p n (map ps) = keeps_below p n (λ m. pairs_paid p m ps) (λ m e. keeps_weaker (λ u h. omega (arith, e, h)) (pairs_keep p m ps))

  trees_keep : {H : Type 0} (p : Place) (n : ℕ) (ts : Trees) → Keeps {H = H} (λ u. trees_depth ts ≤ n) (trees_paid p n ts)
  trees_keep p n no_trees = keeps_give tt (omega arith)
  trees_keep p n (tree t ts) = keeps_then (keeps_paid 1 p (tree_keeps p n t)) (λ u a. keeps_weaker (λ v b. omega (arith, a, b)) (trees_keep p n ts))

  pairs_keep : {H : Type 0} (p : Place) (n : ℕ) (ps : Pairs) → Keeps {H = H} (λ u. pairs_depth ps ≤ n) (pairs_paid p n ps)
  pairs_keep p n no_pairs = keeps_give tt (omega arith)
  pairs_keep p n (pair x t ps) = keeps_then (keeps_paid 1 p (scalar_keeps p x)) (λ u g. keeps_then (tree_keeps p n t) (λ v a. keeps_weaker (λ w b. omega (arith, a, b)) (pairs_keep p n ps)))

mutual
  children_keep : {H : Type 0} (p : Place) (n : ℕ) (cs : Children) → Keeps {H = H} (λ u. AreLow n cs) (children_paid p n cs)
  children_keep p n no_children = keeps_give tt tt
  children_keep p n (a_child (child q ns x b) cs) = keeps_then (keeps_paid 1 p (key_keeps p x)) (λ u g. keeps_then (body_keeps p n b) (λ v a. keeps_weaker (λ w c. (a, c)) (children_keep p n cs)))

  body_keeps : {H : Type 0} (p : Place) (n : ℕ) (b : Body) → Keeps {H = H} (λ u. depth (body_tree b) ≤ n) (body_paid p n b)
  body_keeps p n (one t) = tree_keeps p n t
  body_keeps p n (map_of cs) = keeps_below p n (λ m. children_paid p m cs) (λ m e. keeps_weaker (λ u h. let l = low_pairs m cs h in omega (arith, e, l)) (children_keep p m cs))
  body_keeps p n (list_of cs) = keeps_below p n (λ m. children_paid p m cs) (λ m e. keeps_weaker (λ u h. let l = low_trees m cs h in omega (arith, e, l)) (children_keep p m cs))

-- ---- the keys of dicts as keys of trees

abbrev value_of_scalar : Scalar → Value
value_of_scalar null = none_value
value_of_scalar (boolean b) = bool_value b
value_of_scalar (integer z) = int_value z
value_of_scalar (string t) = text_value t

same_scalars : (x y : Scalar) → value_keys.same_key (value_of_scalar x) (value_of_scalar y) ≡ same_key x y
same_scalars null null = refl
same_scalars null (boolean b) = refl
same_scalars null (integer z) = refl
same_scalars null (string t) = refl
same_scalars (boolean a) null = refl
same_scalars (boolean a) (boolean b) = refl
same_scalars (boolean a) (integer z) = refl
same_scalars (boolean a) (string t) = refl
same_scalars (integer z) null = refl
same_scalars (integer z) (boolean b) = refl
same_scalars (integer z) (integer w) = refl
same_scalars (integer z) (string t) = refl
same_scalars (string t) null = refl
same_scalars (string t) (boolean b) = refl
same_scalars (string t) (integer z) = refl
same_scalars (string t) (string u) = refl

abbrev IsScalarOf : Value → Scalar → Type 0
IsScalarOf v x = (v ≡ value_of_scalar x) × IsScalar x

scalar_of_keeps : {H : Type 0} (p : Place) (v : Value) → HeldValue v → Keeps {H = H} (IsScalarOf v) (scalar_of_value p v)
scalar_of_keeps p none_value h = keeps_give null (refl, tt)
scalar_of_keeps p (bool_value b) h = keeps_give (boolean b) (refl, tt)
scalar_of_keeps p (int_value z) h = keeps_give (integer z) (refl, h)
scalar_of_keeps p (text_value t) h = keeps_paid (text_cost (length t)) p (keeps_give (string t) (refl, h))
scalar_of_keeps p _ h = keeps_fail kind.NotYaml p []

-- the keys of a tree's pairs are those of a dict
abbrev KeysAre : List (Value × Value) → List Scalar → Type 0
KeysAre [] [] = Unit {0}
KeysAre (m ∷ ms) (k ∷ ks) = (m.0 ≡ value_of_scalar k) × KeysAre ms ks
KeysAre _ _ = ⊥

keys_avoid : (x : Scalar) (ms : List (Value × Value)) (ks : List Scalar) → KeysAre ms ks → has_equal_key (value_of_scalar x) ms ≡ false → has_key x ks ≡ false
keys_avoid x [] [] h e = refl
keys_avoid x [] (k ∷ ks) h e = absurd h
keys_avoid x (m ∷ ms) [] h e = absurd h
keys_avoid x (m ∷ ms) (k ∷ ks) h e =
    or_from (same_key x k) (has_key x ks) (sym (ap (value_keys.same_key (value_of_scalar x)) h.0 ∙ same_scalars x k) ∙ (or_parts (value_keys.same_key (value_of_scalar x) m.0) (has_equal_key (value_of_scalar x) ms) e).0)
    (keys_avoid x ms ks h.1 (or_parts (value_keys.same_key (value_of_scalar x) m.0) (has_equal_key (value_of_scalar x) ms) e).1)

-- ---- conversion

-- a tree that the program holds, no deeper than so many levels
abbrev pub IsLow : ℕ → Tree → Type 0
IsLow n t = IsTree t × (depth t ≤ n)

trees_by_keep : {H : Type 0} (n : ℕ) (convert : Value → Computation H Tree) (p : Place) (vs : List Value) → ((v : Value) → HeldValue v → Keeps (IsLow n) (convert v)) → HeldList vs → Keeps (λ ts. AreTrees ts × (trees_depth ts ≤ n)) (trees_by convert p vs)
trees_by_keep n convert p [] k h = keeps_give no_trees (tt, omega arith)
trees_by_keep n convert p (v ∷ vs) k h = keeps_then (keeps_paid 1 p (k v h.0)) (λ t a. keeps_then (trees_by_keep n convert p vs k h.1) (λ ts b. let low = a.1 in let rest = b.1 in keeps_give (tree t ts) ((a.0, b.0), omega (arith, low, rest))))

pairs_by_keep : {H : Type 0} (n : ℕ) (convert : Value → Computation H Tree) (p : Place) (ms : List (Value × Value)) → ((v : Value) → HeldValue v → Keeps (IsLow n) (convert v)) → HeldPairs ms → Keeps (λ ps. ArePairs ps × KeysAre ms (keys ps) × (pairs_depth ps ≤ n)) (pairs_by convert p ms)
pairs_by_keep n convert p [] k h = keeps_give no_pairs (tt, tt, omega arith)
pairs_by_keep n convert p (m ∷ ms) k h =
    keeps_then (keeps_paid 1 p (scalar_of_keeps p m.0 h.0)) (λ x a. keeps_then (k m.1 h.1) (λ t b. keeps_then (pairs_by_keep n convert p ms k h.3) (λ ps c. let low = b.1 in let rest = c.2 in
    keeps_give (pair x t ps) ((a.1, b.0, keys_avoid x ms (keys ps) c.1 (subst (λ v. has_equal_key v ms ≡ false) a.0 h.2), c.0), (a.0, c.1), omega (arith, low, rest)))))

list_keeps : {H : Type 0} (n : ℕ) (m : Computation H Trees) → Keeps (λ ts. AreTrees ts × (trees_depth ts ≤ n)) m → Keeps (IsLow (suc n)) (m >>= λ ts. give (list ts))
list_keeps n m h = keeps_then h (λ ts a. let low = a.1 in keeps_give (list ts) (a.0, omega (arith, low)))

map_keeps : {H : Type 0} (n : ℕ) (ms : List (Value × Value)) (m : Computation H Pairs) → Keeps (λ ps. ArePairs ps × KeysAre ms (keys ps) × (pairs_depth ps ≤ n)) m → Keeps (IsLow (suc n)) (m >>= λ ps. give (map ps))
map_keeps n ms m h = keeps_then h (λ ps a. let low = a.2 in keeps_give (map ps) (a.0, omega (arith, low)))

names_avoid : (x : Name) (fs : Fields) → has_name x (field_names fs) ≡ false → has_equal_key (text_value x) (with_text_keys (fields_in fs)) ≡ false
names_avoid x no_fields e = refl
names_avoid x (a_field y v fs) e = or_from (bytes_eq x y) (has_equal_key (text_value x) (with_text_keys (fields_in fs))) (or_parts (bytes_eq x y) (has_name x (field_names fs)) e).0 (names_avoid x fs (or_parts (bytes_eq x y) (has_name x (field_names fs)) e).1)

fields_held : (fs : Fields) → HeldFields fs → IsTrue (are_distinct (field_names fs)) → HeldPairs (with_text_keys (fields_in fs))
fields_held no_fields h e = tt
fields_held (a_field x v fs) h e =
    let parts = and_parts (not (has_name x (field_names fs))) (are_distinct (field_names fs)) e in
    (h.0, h.1, names_avoid x fs (not-true (has_name x (field_names fs)) parts.0), fields_held fs h.2 parts.1)

object_keeps : {H : Type 0} (n : ℕ) (convert : Value → Computation H Tree) (p : Place) (o : Option Object) → ((v : Value) → HeldValue v → Keeps (IsLow n) (convert v)) → HeldIfThere o → Keeps (IsLow (suc n)) (object_tree convert p o)
object_keeps n convert p None k h = keeps_fail kind.NotYaml p []
object_keeps {H} n convert p (Some o) k h = by_contents o.contents h
  where
    by_contents : (c : Contents) → HeldContents c → Keeps (IsLow (suc n)) (elim c [ of_list vs ↦ trees_by convert p vs >>= λ ts. give (list ts) | of_dict ms ↦ pairs_by convert p ms >>= λ ps. give (map ps) | of_box v ↦ fail kind.NotYaml p | of_function f ↦ fail kind.NotYaml p ])
    by_contents (of_list vs) h = list_keeps n (trees_by convert p vs) (trees_by_keep n convert p vs k h)
    by_contents (of_dict ms) h = map_keeps n ms (pairs_by convert p ms) (pairs_by_keep n convert p ms k h)
    by_contents (of_box v) h = keeps_fail kind.NotYaml p []
    by_contents (of_function f) h = keeps_fail kind.NotYaml p []

inner_keeps : {H : Type 0} (n : ℕ) (convert : Value → Computation H Tree) (p : Place) (v : Value) → ((v : Value) → HeldValue v → Keeps (IsLow n) (convert v)) → HeldValue v → Keeps (IsLow (suc n)) (inner_tree convert n p v)
inner_keeps n convert p (list_value r) k h = keeps_then (keeps_reads {P = HeldIfThere} (object_at r) (λ store g. object_held store r g)) (λ o g. object_keeps n convert p o k g)
inner_keeps n convert p (dict_value r) k h = keeps_then (keeps_reads {P = HeldIfThere} (object_at r) (λ store g. object_held store r g)) (λ o g. object_keeps n convert p o k g)
inner_keeps n convert p (tuple_value vs) k h = list_keeps n (trees_by convert p (values_in vs)) (trees_by_keep n convert p (values_in vs) k (in_values vs h))
inner_keeps n convert p (struct_value fs) k h = map_keeps n (with_text_keys (fields_in fs)) (pairs_by convert p (with_text_keys (fields_in fs))) (pairs_by_keep n convert p (with_text_keys (fields_in fs)) k (fields_held fs h.0 h.1))
inner_keeps n convert p (fragment_value pair_item cs) k h = keeps_then (children_keep p n cs) (λ u g. let low = low_pairs n cs g in keeps_give (map (children_pairs cs)) (body_is_tree (map_of cs) h, omega (arith, low)))
inner_keeps n convert p (fragment_value element_item cs) k h = keeps_then (children_keep p n cs) (λ u g. let low = low_trees n cs g in keeps_give (list (children_trees cs)) (body_is_tree (list_of cs) h.0, omega (arith, low)))
inner_keeps n convert p _ k h = keeps_fail kind.NotYaml p []

outer_keeps : {H : Type 0} (n : ℕ) (collection : Computation H Tree) (p : Place) (v : Value) → Keeps (IsLow n) collection → HeldValue v → Keeps (IsLow n) (outer_tree collection p v)
outer_keeps n collection p none_value k h = keeps_give (scalar null) (tt, omega arith)
outer_keeps n collection p (bool_value b) k h = keeps_give (scalar (boolean b)) (tt, omega arith)
outer_keeps n collection p (int_value z) k h = keeps_give (scalar (integer z)) (h, omega arith)
outer_keeps n collection p (text_value t) k h = keeps_paid (text_cost (length t)) p (keeps_give (scalar (string t)) (h, omega arith))
outer_keeps n collection p (tuple_value vs) k h = k
outer_keeps n collection p (struct_value fs) k h = k
outer_keeps n collection p (list_value r) k h = k
outer_keeps n collection p (dict_value r) k h = k
outer_keeps n collection p (fragment_value pair_item cs) k h = k
outer_keeps n collection p (fragment_value element_item cs) k h = k
outer_keeps n collection p _ k h = keeps_fail kind.NotYaml p []

deeper_keeps : {H : Type 0} (n : ℕ) (p : Place) (v : Value) → HeldValue v → Keeps {H = H} (IsLow n) (deeper_tree n p v)
deeper_keeps zero p v h = keeps_fail kind.TooDeep p []
deeper_keeps (suc n) p v h = inner_keeps n (λ w. outer_tree (deeper_tree n p w) p w) p v (λ w k. outer_keeps n (deeper_tree n p w) p w (deeper_keeps n p w k) k) h

pub value_keeps : {H : Type 0} (n : ℕ) (p : Place) (v : Value) → HeldValue v → Keeps {H = H} (IsLow n) (tree_of_value n p v)
value_keeps n p v h = outer_keeps n (deeper_tree n p v) p v (deeper_keeps n p v h) h

-- ---- a node's value

-- what is taken is no deeper than so many levels
abbrev pub HeldTaken : ℕ → Taken → Type 0
HeldTaken m (taken b) = HeldBody b × (depth (body_tree b) ≤ m)
HeldTaken m (many cs) = HeldChildren cs × AreLow m cs

elements_low : (m : ℕ) (p : Place) (ts : Trees) → AreTrees ts → trees_depth ts ≤ m → HeldChildren (elements_at p ts) × AreLow m (elements_at p ts)
elements_low m p no_trees h e = (tt, tt)
elements_low m p (tree t ts) h e = let rest = elements_low m p ts h.1 (omega (arith, e)) in (((tt, h.0), rest.0), (omega (arith, e), rest.1))

pairs_low : (m : ℕ) (p : Place) (ps : Pairs) → ArePairs ps → pairs_depth ps ≤ m → HeldChildren (pairs_at p ps) × AreLow m (pairs_at p ps)
pairs_low m p no_pairs h e = (tt, tt)
pairs_low m p (pair x t ps) h e = let rest = pairs_low m p ps h.3 (omega (arith, e)) in (((h.0, h.1), rest.0), (omega (arith, e), rest.1))

members_low : (m : ℕ) (p : Place) (t : Tree) → IsTree t → depth t ≤ suc m → HeldChildren (members_at p t) × AreLow m (members_at p t)
members_low m p (scalar x) h e = (tt, tt)
members_low m p (list ts) h e = elements_low m p ts h (omega (arith, e))
members_low m p (map ps) h e = pairs_low m p ps h (omega (arith, e))

no_members : (m : ℕ) (p : Place) (t : Tree) → depth t ≤ 0 → IsTree t → HeldChildren (members_at p t) × AreLow m (members_at p t)
no_members m p (scalar x) e h = (tt, tt)
no_members m p (list ts) e h = let w : ⊥ = omega (arith, e) in absurd w
no_members m p (map ps) e h = let w : ⊥ = omega (arith, e) in absurd w

abbrev pub LowChildren : ℕ → Children → Type 0
LowChildren m cs = HeldChildren cs × AreLow m cs

converted_keeps : {H : Type 0} (n : ℕ) (p : Place) (v : Value) → HeldValue v → Keeps {H = H} (LowChildren (max_depth - n)) (tree_of_value (levels_replaced n) p v >>= λ t. give (members_at p t))
converted_keeps n p v h = keeps_then (value_keeps (levels_replaced n) p v h) (λ t a. keeps_give (members_at p t) (low_members (levels_replaced n) refl t a))
  where
    low_members : (l : ℕ) → l ≡ levels_replaced n → (t : Tree) → IsLow l t → LowChildren (max_depth - n) (members_at p t)
    low_members zero e t a = no_members (max_depth - n) p t a.1 a.0
    low_members (suc l) e t a = let low = a.1 in members_low (max_depth - n) p t a.0 (omega (arith, e, low))

in_place_keeps : {H : Type 0} (n : ℕ) (p : Place) (v : Value) → HeldValue v → Keeps {H = H} (LowChildren (max_depth - n)) (children_in_place p n v)
in_place_keeps {H} n p (fragment_value k cs) h =
    keeps_then (keeps_below {P = λ u. AreLow (max_depth - n) cs} p (levels_replaced n) (λ m. children_paid p m cs) (λ m e. let same : m ≡ max_depth - n = omega (arith, e) in subst (λ l. Keeps {H = H} (λ u. AreLow l cs) (children_paid p m cs)) same (children_keep p m cs)))
    (λ u g. keeps_give cs (h.0, g))
in_place_keeps n p none_value h = converted_keeps n p none_value h
in_place_keeps n p (bool_value b) h = converted_keeps n p (bool_value b) h
in_place_keeps n p (int_value z) h = converted_keeps n p (int_value z) h
in_place_keeps n p (text_value t) h = converted_keeps n p (text_value t) h
in_place_keeps n p (tuple_value vs) h = converted_keeps n p (tuple_value vs) h
in_place_keeps n p (range_value a b d) h = converted_keeps n p (range_value a b d) h
in_place_keeps n p (struct_value fs) h = converted_keeps n p (struct_value fs) h
in_place_keeps n p (list_value r) h = converted_keeps n p (list_value r) h
in_place_keeps n p (dict_value r) h = converted_keeps n p (dict_value r) h
in_place_keeps n p (function_value r) h = converted_keeps n p (function_value r) h
in_place_keeps n p (module_value x fs) h = converted_keeps n p (module_value x fs) h
in_place_keeps n p (native_value x) h = converted_keeps n p (native_value x) h

replaced_keeps : {H : Type 0} (p : Place) (k : ItemKind) (n : ℕ) (v : Value) → HeldValue v → Keeps {H = H} (HeldTaken (max_depth - n)) (replaced p k n v)
replaced_keeps p k n v h = keeps_if (fits_kind k v) (λ e. keeps_then (in_place_keeps n p v h) (λ cs g. keeps_give (many cs) g)) (λ e. keeps_fail kind.FragmentMixed p [])

one_keeps : {H : Type 0} (p : Place) (n : ℕ) (v : Value) → HeldValue v → Keeps {H = H} (HeldTaken (max_depth - n)) (tree_of_value (levels_at n) p v >>= λ t. give (taken (one t)))
one_keeps p n v h = keeps_then (value_keeps (levels_at n) p v h) (λ t a. keeps_give (taken (one t)) a)

map_taken : {H : Type 0} (p : Place) (n : ℕ) (cs : Children) → HeldChildren cs → IsTrue (keys_distinct (child_keys cs)) → Keeps {H = H} (HeldTaken (max_depth - n)) (below p (levels_at n) (λ m. children_paid p m cs) >>= λ u. give (taken (map_of cs)))
map_taken p n cs h d = keeps_then (keeps_below {P = λ u. depth (map (children_pairs cs)) ≤ max_depth - n} p (levels_at n) (λ m. children_paid p m cs) (λ m e. keeps_weaker (λ u g. let low = low_pairs m cs g in omega (arith, e, low)) (children_keep p m cs))) (λ u g. keeps_give (taken (map_of cs)) ((h, d), g))

list_taken : {H : Type 0} (p : Place) (n : ℕ) (cs : Children) → HeldChildren cs → Keeps {H = H} (HeldTaken (max_depth - n)) (below p (levels_at n) (λ m. children_paid p m cs) >>= λ u. give (taken (list_of cs)))
list_taken p n cs h = keeps_then (keeps_below {P = λ u. depth (list (children_trees cs)) ≤ max_depth - n} p (levels_at n) (λ m. children_paid p m cs) (λ m e. keeps_weaker (λ u g. let low = low_trees m cs g in omega (arith, e, low)) (children_keep p m cs))) (λ u g. keeps_give (taken (list_of cs)) (h, g))

pub taken_keeps : {H : Type 0} (p : Place) (k : ItemKind) (n : ℕ) (v : Value) → HeldValue v → Keeps {H = H} (HeldTaken (max_depth - n)) (take_over p k n v)
taken_keeps p k n (native_value (replacement v)) h = replaced_keeps p k n v h
taken_keeps p k n (fragment_value pair_item cs) h = map_taken p n cs h.0 h.1
taken_keeps p k n (fragment_value element_item cs) h = list_taken p n cs h.0
taken_keeps p k n (fragment_value document_item cs) h = one_keeps p n (fragment_value document_item cs) h
taken_keeps p k n none_value h = one_keeps p n none_value h
taken_keeps p k n (bool_value b) h = one_keeps p n (bool_value b) h
taken_keeps p k n (int_value z) h = one_keeps p n (int_value z) h
taken_keeps p k n (text_value t) h = one_keeps p n (text_value t) h
taken_keeps p k n (tuple_value vs) h = one_keeps p n (tuple_value vs) h
taken_keeps p k n (range_value a b d) h = one_keeps p n (range_value a b d) h
taken_keeps p k n (struct_value fs) h = one_keeps p n (struct_value fs) h
taken_keeps p k n (list_value r) h = one_keeps p n (list_value r) h
taken_keeps p k n (dict_value r) h = one_keeps p n (dict_value r) h
taken_keeps p k n (function_value r) h = one_keeps p n (function_value r) h
taken_keeps p k n (module_value x fs) h = one_keeps p n (module_value x fs) h
taken_keeps p k n (native_value (builtin x)) h = one_keeps p n (native_value (builtin x)) h
taken_keeps p k n (native_value (method x v)) h = one_keeps p n (native_value (method x v)) h
taken_keeps p k n (native_value (host_native x held)) h = one_keeps p n (native_value (host_native x held)) h

pub key_taken_keeps : {H : Type 0} (p : Place) (v : Value) → HeldValue v → Keeps {H = H} HeldKey (key_taken p v)
key_taken_keeps p (text_value t) h = keeps_give (Some (string t)) h
key_taken_keeps p _ h = keeps_fail kind.NotYaml p []

-- ---- one more child

bool_equal : (a b : Bool) → same_bool a b ≡ true → a ≡ b
bool_equal true b e = sym e
bool_equal false true e = cc
bool_equal false false e = refl

integer_equal : (a b : ℤ) → same_integer a b ≡ true → a ≡ b
integer_equal (pos m) (pos n) e = ap pos (eqb-true m n e)
integer_equal (negsuc m) (negsuc n) e = ap negsuc (eqb-true m n e)
integer_equal (pos m) (negsuc n) e = cc
integer_equal (negsuc m) (pos n) e = cc

keys_same : (x y : Scalar) → same_key x y ≡ true → x ≡ y
keys_same null null e = refl
keys_same (boolean a) (boolean b) e = ap boolean (bool_equal a b e)
keys_same (integer a) (integer b) e = ap integer (integer_equal a b e)
keys_same (string a) (string b) e = ap string ((bytes_eq-Decides a b).0 e)
keys_same _ _ e = cc

-- no child has the key
abbrev Avoids : Scalar → Children → Type 0
Avoids y cs = has_key y (child_keys cs) ≡ false

-- what a collection holds: children that the program holds, no deeper than so many levels, no key twice
abbrev pub Good : ℕ → Children → Type 0
Good m cs = HeldChildren cs × AreLow m cs × IsTrue (keys_distinct (child_keys cs))

-- a key that stands among none of the old children and isn't the new one stands among none of the new ones
record Added (m : ℕ) (x : Option Scalar) (before after : Children) : Type 0 where
  good : Good m after
  avoids : (y : Scalar) → Avoids y before → keys_equal (Some y) x ≡ false → Avoids y after

distinct : (b c : Bool) → b ≡ false → c ≡ true → (not b && c) ≡ true
distinct true c e f = cc
distinct false c e f = f

child_added : {H : Type 0} (m : ℕ) (cs : Children) (p : Place) (ns : BuiltNotes) (x : Option Scalar) (b : Body) → Good m cs → HeldKey x → HeldBody b → depth (body_tree b) ≤ m → Keeps {H = H} (Added m x cs) (add_child cs (child p ns x b))
child_added m no_children p ns None b g k h l = keeps_give _ (record { good = (((tt, h), tt), (l, tt), refl); avoids = λ y e f. refl })
child_added m no_children p ns (Some x) b g k h l = keeps_give _ (record { good = (((k, h), tt), (l, tt), refl); avoids = λ y e f. or_from (same_key y x) false f refl })
child_added m (a_child (child q ms None d) cs) p ns x b g k h l =
    keeps_then (child_added m cs p ns x b (g.0.1, g.1.1, g.2) k h l) (λ all a. keeps_give _ (record { good = ((g.0.0, a.good.0), (g.1.0, a.good.1), a.good.2); avoids = a.avoids }))
child_added m (a_child (child q ms (Some y) d) cs) p ns None b g k h l =
    let parts = and_parts (not (has_key y (child_keys cs))) (keys_distinct (child_keys cs)) g.2 in
    let fresh = not-true (has_key y (child_keys cs)) parts.0 in
    keeps_then (child_added m cs p ns None b (g.0.1, g.1.1, parts.1) k h l)
    (λ all a. keeps_give _ (record { good = ((g.0.0, a.good.0), (g.1.0, a.good.1), distinct (has_key y (child_keys all)) (keys_distinct (child_keys all)) (a.avoids y fresh refl) a.good.2); avoids = λ z e f. or_from (same_key z y) (has_key z (child_keys all)) (or_parts (same_key z y) (has_key z (child_keys cs)) e).0 (a.avoids z (or_parts (same_key z y) (has_key z (child_keys cs)) e).1 f) }))
child_added m (a_child (child q ms (Some y) d) cs) p ns (Some x) b g k h l =
    let parts = and_parts (not (has_key y (child_keys cs))) (keys_distinct (child_keys cs)) g.2 in
    let fresh = not-true (has_key y (child_keys cs)) parts.0 in
    let once = parts.1 in
    keeps_if (same_key y x)
    (λ e. let same = keys_same y x e in keeps_if (overrides ns)
    (λ i. keeps_give _ (record {
      good = (((k, h), g.0.1), (l, g.1.1), subst (λ z. (not (has_key z (child_keys cs)) && keys_distinct (child_keys cs)) ≡ true) same g.2);
      avoids = λ z f j. subst (λ w. (same_key z w || has_key z (child_keys cs)) ≡ false) same f;
    }))
    (λ i. keeps_fail kind.KeyTwice p _))
    (λ e. keeps_then (child_added m cs p ns (Some x) b (g.0.1, g.1.1, once) k h l)
    (λ all a. keeps_give _ (record {
      good = ((g.0.0, a.good.0), (g.1.0, a.good.1), distinct (has_key y (child_keys all)) (keys_distinct (child_keys all)) (a.avoids y fresh e) a.good.2);
      avoids = λ z f j. or_from (same_key z y) (has_key z (child_keys all)) (or_parts (same_key z y) (has_key z (child_keys cs)) f).0 (a.avoids z (or_parts (same_key z y) (has_key z (child_keys cs)) f).1 j);
    })))

one_added : {H : Type 0} (m : ℕ) (cs : Children) (c : Child) → Good m cs → HeldChild c → AreLow m (a_child c no_children) → Keeps {H = H} (Good m) (add_child cs c)
one_added m cs (child p ns x b) g h l = keeps_weaker (λ all a. a.good) (child_added m cs p ns x b g h.0 h.1 l.0)

all_added : {H : Type 0} (m : ℕ) (cs more : Children) → Good m cs → HeldChildren more → AreLow m more → Keeps {H = H} (Good m) (add_all cs more)
all_added m cs no_children g h l = keeps_give cs g
all_added m cs (a_child (child p ns x b) more) g h l = keeps_then (one_added m cs (child p ns x b) g h.0 (l.0, tt)) (λ all a. all_added m all more a h.1 l.1)

pub taken_added : {H : Type 0} (m : ℕ) (cs : Children) (p : Place) (ns : BuiltNotes) (x : Option Scalar) (t : Taken) → Good m cs → HeldKey x → HeldTaken m t → Keeps {H = H} (Good m) (add_taken cs p ns x t)
taken_added m cs p ns x (taken b) g k h = one_added m cs (child p ns x b) g (k, h.0) (h.1, tt)
taken_added m cs p ns x (many more) g k h = all_added m cs more g h.0 h.1
