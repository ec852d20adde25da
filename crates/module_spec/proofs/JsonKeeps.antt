-- What JSON a value is and what value a text of JSON is are such as the program holds.
use Rattle.std.proofs.Common.{◌≡◌, ◌^◌, ◌≤◌, ◌&&◌, ◌==◌, ℕ, zero, suc, ℤ, pos, nat_le, nat_lt, Bool, true, false, if◌then◌else◌, List, [], ◌∷◌, length, drop, Option, Some, None, option_and_then, option_map, FitsSigned, Ordering, Less, Equal, Greater, refl, arith, ltb-true, leb-true}
use Rattle.std.specs.Float.{binary64, float_is_finite}
use Rattle.std.specs.Int.{w128}
use Rattle.std.specs.Ordering.{match_ordering}
use Rattle.std.specs.Prelude.{neg_ℤ, slice_index}
use Rattle.std.specs.Str.{is_utf8}
use Rattle.std.proofs.lemmas.Bool.{and_parts}
use Rattle.std.proofs.lemmas.Str.{IsUtf8-from_is_utf8}
use Rattle.ytt_base.specs.declared.fault.FaultKind.TheVariants as kind
use Rattle.ytt_base.specs.declared.fault.Place.{Place}
use Rattle.ytt_base.specs.Trees.{Scalar, null, boolean, integer, string, Tree, scalar, list, map, Trees, no_trees, tree, Pairs, no_pairs, pair, IsScalar, depth, max_depth}
use Rattle.code_spec.specs.Program.{pair_item, element_item}
use Rattle.fast_float.specs.Text.{Parts, digits_of, minus, nearest, scan}
use Rattle.json.specs.Json as parsed
use Rattle.json.specs.Lex.{tokens}
use Rattle.serde_json.specs.Data as json
use Rattle.serde_json.specs.Data.{Data, Items, Members, Num, item, no_items, no_members, put}
use Rattle.serde_json.specs.Read as reading
use Rattle.serde_json.specs.Read.{float_of, is_integer, number_from, of_items, of_json, of_members}
use Rattle.serde_json.specs.Written.{compact_text}
use Rattle.star_spec.proofs.Keeping.{Anything, IfFound, Keeps, found_if, found_one, keeps_below, keeps_fail, keeps_give, keeps_need, keeps_or_fail, keeps_paid, keeps_then}
use Rattle.star_spec.proofs.MembersHeld.{list_keeps, pairs_keep}
use Rattle.star_spec.specs.Held.{HeldValue}
use Rattle.template_meaning.specs.Take.{with_text_keys}
use Rattle.value_spec.specs.Keys.{text_cost}
use Rattle.value_spec.specs.Outcomes.{Computation, give, ◌>>=◌}
use Rattle.value_spec.specs.Values.{Value, none_value, bool_value, int_value, text_value, tuple_value, struct_value, fragment_value, list_value, dict_value, values_in, fields_in, child, Children, no_children, a_child, Body, one, map_of, list_of}
use Rattle.module_spec.proofs.RowsKeep.{text_given_keeps}
use Rattle.module_spec.proofs.TreesKeep.{HeldTree, HeldTreePairs, HeldTrees, given_keeps}
use Rattle.module_spec.specs.JsonCodec as codec
use Rattle.module_spec.specs.JsonCodec.{body_data, child_key, data_of, deeper_data, elements_data, inner_data, items_by, key_data, members_by, members_data, number_data, number_of, number_tree, outer_data, pair_in_front, pairs_data, pairs_of, scalar_data, scalar_key, string_read, text_data, tree_data, tree_in_front, tree_of, tree_read, trees_data, trees_of}

-- ---- to a text: a walk leaves what is held as it is

number_keeps : {H : Type 0} (p : Place) (z : ℤ) → Keeps {H = H} Anything (number_data p z)
number_keeps p z = keeps_then {P = Anything} (keeps_or_fail kind.CodecForm p (number_of z) (λ n e. tt)) (λ n u. keeps_give (json.number n) tt)

text_keeps : {H : Type 0} (p : Place) (t : List ℕ) → Keeps {H = H} Anything (text_data p t)
text_keeps p t = keeps_paid (text_cost (length t)) p (keeps_give (json.string t) tt)

key_keeps : {H : Type 0} (p : Place) (v : Value) → Keeps {H = H} Anything (key_data p v)
key_keeps p (text_value t) = keeps_paid (text_cost (length t)) p (keeps_give t tt)
key_keeps p _ = keeps_fail kind.CodecForm p []

scalar_keeps : {H : Type 0} (p : Place) (x : Scalar) → Keeps {H = H} Anything (scalar_data p x)
scalar_keeps p null = keeps_give json.null tt
scalar_keeps p (boolean b) = keeps_give (json.boolean b) tt
scalar_keeps p (integer z) = number_keeps p z
scalar_keeps p (string t) = text_keeps p t

scalar_key_keeps : {H : Type 0} (p : Place) (x : Scalar) → Keeps {H = H} Anything (scalar_key p x)
scalar_key_keeps p (string t) = keeps_paid (text_cost (length t)) p (keeps_give t tt)
scalar_key_keeps p _ = keeps_fail kind.CodecForm p []

child_key_keeps : {H : Type 0} (p : Place) (x : Option Scalar) → Keeps {H = H} Anything (child_key p x)
child_key_keeps p None = keeps_fail kind.CodecForm p []
child_key_keeps p (Some x) = scalar_key_keeps p x

array_keeps : {H : Type 0} (m : Computation H Items) → Keeps Anything m → Keeps {H = H} Anything (m >>= λ ds. give (json.array ds))
array_keeps m h = keeps_then {P = Anything} h (λ ds u. keeps_give (json.array ds) tt)

object_keeps : {H : Type 0} (m : Computation H Members) → Keeps Anything m → Keeps {H = H} Anything (m >>= λ ms. give (json.object ms))
object_keeps m h = keeps_then {P = Anything} h (λ ms u. keeps_give (json.object ms) tt)

mutual
  tree_keeps : {H : Type 0} (p : Place) (n : ℕ) (t : Tree) → Keeps {H = H} Anything (tree_data p n t)
  tree_keeps p n (scalar x) = scalar_keeps p x
  tree_keeps p n (list ts) = array_keeps _ (keeps_below p n (λ m. trees_data p m ts) (λ m e. trees_keep p m ts))
  tree_keeps p n (map ps) = object_keeps _ (keeps_below p n (λ m. pairs_data p m ps) (λ m e. tree_pairs_keep p m ps))

  trees_keep : {H : Type 0} (p : Place) (n : ℕ) (ts : Trees) → Keeps {H = H} Anything (trees_data p n ts)
  trees_keep p n no_trees = keeps_give no_items tt
  trees_keep p n (tree t ts) = keeps_then {P = Anything} (keeps_paid 1 p (tree_keeps p n t)) (λ d u. keeps_then {P = Anything} (trees_keep p n ts) (λ ds w. keeps_give (item d ds) tt))

  tree_pairs_keep : {H : Type 0} (p : Place) (n : ℕ) (ps : Pairs) → Keeps {H = H} Anything (pairs_data p n ps)
  tree_pairs_keep p n no_pairs = keeps_give no_members tt
  tree_pairs_keep p n (pair x t ps) =
      keeps_then {P = Anything} (keeps_paid 1 p (scalar_key_keeps p x)) (λ k u. keeps_then {P = Anything} (tree_keeps p n t) (λ d w. keeps_then {P = Anything} (tree_pairs_keep p n ps) (λ ms g. keeps_give (put k d ms) tt)))

mutual
  body_keeps : {H : Type 0} (p : Place) (n : ℕ) (b : Body) → Keeps {H = H} Anything (body_data p n b)
  body_keeps p n (one t) = tree_keeps p n t
  body_keeps p n (map_of cs) = object_keeps _ (keeps_below p n (λ m. members_data p m cs) (λ m e. children_keep p m cs))
  body_keeps p n (list_of cs) = array_keeps _ (keeps_below p n (λ m. elements_data p m cs) (λ m e. elements_keep p m cs))

  children_keep : {H : Type 0} (p : Place) (n : ℕ) (cs : Children) → Keeps {H = H} Anything (members_data p n cs)
  children_keep p n no_children = keeps_give no_members tt
  children_keep p n (a_child (child q ns x b) cs) =
      keeps_then {P = Anything} (keeps_paid 1 p (child_key_keeps p x)) (λ k u. keeps_then {P = Anything} (body_keeps p n b) (λ d w. keeps_then {P = Anything} (children_keep p n cs) (λ ms g. keeps_give (put k d ms) tt)))

  elements_keep : {H : Type 0} (p : Place) (n : ℕ) (cs : Children) → Keeps {H = H} Anything (elements_data p n cs)
  elements_keep p n no_children = keeps_give no_items tt
  elements_keep p n (a_child (child q ns x b) cs) =
      keeps_then {P = Anything} (keeps_paid 1 p (body_keeps p n b)) (λ d u. keeps_then {P = Anything} (elements_keep p n cs) (λ ds w. keeps_give (item d ds) tt))

module _ {H : Type 0} (convert : Value → Computation H Data) (keeps : (v : Value) → Keeps Anything (convert v)) (p : Place) where
  items_keep : (vs : List Value) → Keeps Anything (items_by convert p vs)
  items_keep [] = keeps_give no_items tt
  items_keep (v ∷ vs) = keeps_then {P = Anything} (keeps_paid 1 p (keeps v)) (λ d u. keeps_then {P = Anything} (items_keep vs) (λ ds w. keeps_give (item d ds) tt))

  members_keep : (ms : List (Value × Value)) → Keeps Anything (members_by convert p ms)
  members_keep [] = keeps_give no_members tt
  members_keep (m ∷ ms) =
      keeps_then {P = Anything} (keeps_paid 1 p (key_keeps p m.0)) (λ k u. keeps_then {P = Anything} (keeps m.1) (λ d w. keeps_then {P = Anything} (members_keep ms) (λ ds g. keeps_give (put k d ds) tt)))

  inner_keeps : (n : ℕ) (v : Value) → Keeps Anything (inner_data convert n p v)
  inner_keeps n (list_value r) = array_keeps _ (keeps_then (list_keeps r) (λ vs h. items_keep vs))
  inner_keeps n (tuple_value vs) = array_keeps _ (items_keep (values_in vs))
  inner_keeps n (dict_value r) = object_keeps _ (keeps_then (pairs_keep r) (λ ms h. members_keep ms))
  inner_keeps n (struct_value fs) = object_keeps _ (members_keep (with_text_keys (fields_in fs)))
  inner_keeps n (fragment_value pair_item cs) = object_keeps _ (children_keep p n cs)
  inner_keeps n (fragment_value element_item cs) = array_keeps _ (elements_keep p n cs)
  inner_keeps n _ = keeps_fail kind.NotYaml p []

outer_keeps : {H : Type 0} (collection : Computation H Data) (p : Place) (v : Value) → Keeps Anything collection → Keeps Anything (outer_data collection p v)
outer_keeps collection p none_value k = keeps_give json.null tt
outer_keeps collection p (bool_value b) k = keeps_give (json.boolean b) tt
outer_keeps collection p (int_value z) k = number_keeps p z
outer_keeps collection p (text_value t) k = text_keeps p t
outer_keeps collection p (tuple_value vs) k = k
outer_keeps collection p (struct_value fs) k = k
outer_keeps collection p (list_value r) k = k
outer_keeps collection p (dict_value r) k = k
outer_keeps collection p (fragment_value pair_item cs) k = k
outer_keeps collection p (fragment_value element_item cs) k = k
outer_keeps collection p _ k = keeps_fail kind.NotYaml p []

deeper_keeps : {H : Type 0} (n : ℕ) (p : Place) (v : Value) → Keeps {H = H} Anything (deeper_data n p v)
deeper_keeps zero p v = keeps_fail kind.TooDeep p []
deeper_keeps (suc n) p v = inner_keeps (λ w. outer_data (deeper_data n p w) p w) (λ w. outer_keeps (deeper_data n p w) p w (deeper_keeps n p w)) p n v

pub encode_keeps : {H : Type 0} (p : Place) (v : Value) → HeldValue v → Keeps {H = H} HeldValue (codec.encode p v)
encode_keeps p v h = keeps_then {P = Anything} (outer_keeps (deeper_data max_depth p v) p v (deeper_keeps max_depth p v)) (λ d u. text_given_keeps p (compact_text d))

-- ---- what is found

found_test : {A : Type 0} (P : A → Type 0) (b : Bool) (o q : Option A) → (b ≡ true → IfFound P o) → IfFound P q → IfFound P (if b then o else q)
found_test P true o q h k = h refl
found_test P false o q h k = k

found_map : {A B : Type 0} (P : A → Type 0) (Q : B → Type 0) (f : A → B) (o : Option A) → IfFound P o → ((a : A) → P a → Q (f a)) → IfFound Q (option_map f o)
found_map P Q f None h k = tt
found_map P Q f (Some a) h k = k a h

found_then : {A B : Type 0} (P : A → Type 0) (Q : B → Type 0) (f : A → Option B) (o : Option A) → IfFound P o → ((a : A) → P a → IfFound Q (f a)) → IfFound Q (option_and_then f o)
found_then P Q f None h k = tt
found_then P Q f (Some a) h k = k a h

found_any : {A : Type 0} (o : Option A) → IfFound Anything o
found_any None = tt
found_any (Some a) = tt

-- ---- what JSON a text is: its integers are such as the program holds

abbrev HeldNumber : Num → Type 0
HeldNumber (json.unsigned n) = FitsSigned w128 (pos n)
HeldNumber (json.negative z) = FitsSigned w128 z
HeldNumber (json.float x) = Unit {0}

abbrev mutual
  HeldData : Data → Type 0
  HeldData json.null = Unit {0}
  HeldData (json.boolean b) = Unit {0}
  HeldData (json.number n) = HeldNumber n
  HeldData (json.string t) = Unit {0}
  HeldData (json.array ds) = HeldItems ds
  HeldData (json.object ms) = HeldMembers ms

  HeldItems : Items → Type 0
  HeldItems no_items = Unit {0}
  HeldItems (item d ds) = HeldData d × HeldItems ds

  HeldMembers : Members → Type 0
  HeldMembers no_members = Unit {0}
  HeldMembers (json.member k d ms) = HeldData d × HeldMembers ms

negative_fits : (n : ℕ) → n ≤ 2 ^ 63 → FitsSigned w128 (neg_ℤ (pos n))
negative_fits zero l = record { sfits = omega arith }
negative_fits (suc n) l = record { sfits = omega (arith, l) }

float_held : (sign : Bool) (q : Parts) → IfFound HeldNumber (float_of sign q)
float_held sign q = found_if HeldNumber (float_is_finite (nearest binary64 sign q)) (Some (json.float (nearest binary64 sign q))) None tt tt

number_held : (sign : Bool) (q : Parts) → IfFound HeldNumber (number_from sign q)
number_held false q =
    found_test HeldNumber (is_integer q && nat_lt (digits_of q) (2 ^ 64)) _ (float_of false q)
    (λ e. let small = ltb-true (digits_of q) (2 ^ 64) (and_parts (is_integer q) (nat_lt (digits_of q) (2 ^ 64)) e).1 in record { sfits = omega (arith, small) }) (float_held false q)
number_held true q =
    found_test HeldNumber (is_integer q && nat_lt 0 (digits_of q) && nat_le (digits_of q) (2 ^ 63)) _ (float_of true q)
    (λ e. negative_fits (digits_of q) (leb-true (digits_of q) (2 ^ 63) (and_parts (is_integer q && nat_lt 0 (digits_of q)) (nat_le (digits_of q) (2 ^ 63)) e).1)) (float_held true q)

number_read_held : (s : List ℕ) → IfFound HeldNumber (reading.number_of s)
unfolding reading.number_of
number_read_held s = found_if HeldNumber (slice_index s 0 == minus) _ _ (number_held true (scan (drop 1 s))) (number_held false (scan s))

ordered_held : (o : Ordering) (a b c : Members) → HeldMembers a → HeldMembers b → HeldMembers c → HeldMembers (match_ordering o a b c)
ordered_held Less a b c h k g = h
ordered_held Equal a b c h k g = k
ordered_held Greater a b c h k g = g

put_held : (k : List ℕ) (d : Data) (ms : Members) → HeldData d → HeldMembers ms → HeldMembers (put k d ms)
put_held k d no_members h g = (h, tt)
put_held k d (json.member l e ms) h g = ordered_held _ (json.member k d (json.member l e ms)) (json.member l d ms) (json.member l e (put k d ms)) (h, g) (h, g.1) (g.0, put_held k d ms h g.1)

mutual
  data_held : (j : parsed.Json) → IfFound HeldData (of_json j)
  data_held parsed.null = tt
  data_held (parsed.boolean b) = tt
  data_held (parsed.number s) = found_map HeldNumber HeldData json.number (reading.number_of s) (number_read_held s) (λ n h. h)
  data_held (parsed.string s) = tt
  data_held (parsed.array js) = found_map HeldItems HeldData json.array (of_items js) (items_held js) (λ ds h. h)
  data_held (parsed.object ms) = found_map HeldMembers HeldData json.object (of_members ms no_members) (members_held ms no_members tt) (λ ds h. h)

  items_held : (js : parsed.Items) → IfFound HeldItems (of_items js)
  items_held parsed.no_items = tt
  items_held (parsed.item j js) = found_then HeldData HeldItems _ (of_json j) (data_held j) (λ d h. found_map HeldItems HeldItems (item d) (of_items js) (items_held js) (λ ds g. (h, g)))

  members_held : (ms : parsed.Members) (found : Members) → HeldMembers found → IfFound HeldMembers (of_members ms found)
  members_held parsed.no_members found h = h
  members_held (parsed.member k j ms) found h = found_then HeldData HeldMembers _ (of_json j) (data_held j) (λ d g. members_held ms (put k d found) (put_held k d found g h))

-- ---- the tree that it is

number_tree_held : (n : Num) → HeldNumber n → IfFound HeldTree (number_tree n)
number_tree_held (json.unsigned n) h = h
number_tree_held (json.negative z) h = h
number_tree_held (json.float x) h = tt

string_held : (t : List ℕ) → IfFound IsScalar (string_read t)
string_held t = found_test IsScalar (is_utf8 t) (Some (string t)) None (λ e. IsUtf8-from_is_utf8 t e) tt

tree_front_held : (o : Option Tree) (q : Option Trees) → IfFound HeldTree o → IfFound HeldTrees q → IfFound HeldTrees (tree_in_front o q)
tree_front_held (Some t) (Some ts) h k = (h, k)
tree_front_held (Some t) None h k = tt
tree_front_held None q h k = tt

pair_front_held : (x : Option Scalar) (o : Option Tree) (q : Option Pairs) → IfFound IsScalar x → IfFound HeldTree o → IfFound HeldTreePairs q → IfFound HeldTreePairs (pair_in_front x o q)
pair_front_held (Some x) (Some t) (Some ps) g h k = (g, h, k)
pair_front_held (Some x) (Some t) None g h k = tt
pair_front_held (Some x) None q g h k = tt
pair_front_held None o q g h k = tt

mutual
  tree_held : (d : Data) → HeldData d → IfFound HeldTree (tree_of d)
  tree_held json.null h = tt
  tree_held (json.boolean b) h = tt
  tree_held (json.number n) h = number_tree_held n h
  tree_held (json.string t) h = found_map IsScalar HeldTree scalar (string_read t) (string_held t) (λ x g. g)
  tree_held (json.array ds) h = found_map HeldTrees HeldTree list (trees_of ds) (trees_held ds h) (λ ts g. g)
  tree_held (json.object ms) h = found_map HeldTreePairs HeldTree map (pairs_of ms) (pairs_held ms h) (λ ps g. g)

  trees_held : (ds : Items) → HeldItems ds → IfFound HeldTrees (trees_of ds)
  trees_held no_items h = tt
  trees_held (item d ds) h = tree_front_held (tree_of d) (trees_of ds) (tree_held d h.0) (trees_held ds h.1)

  pairs_held : (ms : Members) → HeldMembers ms → IfFound HeldTreePairs (pairs_of ms)
  pairs_held no_members h = tt
  pairs_held (json.member k d ms) h = pair_front_held (string_read k) (tree_of d) (pairs_of ms) (string_held k) (tree_held d h.0) (pairs_held ms h.1)

read_held : (text : List ℕ) → IfFound HeldTree (tree_read text)
read_held text =
    let whole = option_and_then (λ p. parsed.if_last p.0 p.1) (parsed.value reading.max_depth (tokens text)) in
    found_then HeldData HeldTree tree_of (reading.read text) (found_then Anything HeldData of_json whole (found_any whole) (λ j u. data_held j)) tree_held

pub decode_keeps : {H : Type 0} (p : Place) (text : List ℕ) → Keeps {H = H} HeldValue (codec.decode p text)
decode_keeps p text =
    keeps_then {P = HeldTree} (keeps_or_fail kind.CodecForm p (tree_read text) (λ t e. found_one HeldTree (tree_read text) t (read_held text) e))
    (λ t h. keeps_then (keeps_need kind.TooDeep p (nat_le (depth t) max_depth)) (λ u g. given_keeps p text t h))
