-- What a member of a fragment holds is a value that the program holds, and so are the new lists and dicts of its tree.
use Rattle.std.proofs.Common.{ℕ, List, [], ◌∷◌, length, Option, Some, None, refl}
use Rattle.ytt_base.specs.declared.fault.Place.{Place}
use Rattle.ytt_base.specs.Trees.{Scalar, null, boolean, integer, string, Tree, scalar, list, map, Trees, no_trees, tree, Pairs, no_pairs, pair, IsScalar, IsTree, AreTrees, ArePairs, max_depth}
use Rattle.code_spec.specs.Program.{pair_item, element_item}
use Rattle.index_spec.specs.FreshValues.{value_of_scalar, fresh_value, fresh_values, fresh_pairs, fresh_body}
use Rattle.index_spec.specs.Index.{body_value}
use Rattle.star_spec.specs.Held.{HeldValue, HeldBody, HeldList, HeldPairs}
use Rattle.value_spec.specs.Built.{scalar_paid, key_paid, tree_paid, trees_paid, pairs_paid, children_paid, body_paid}
use Rattle.value_spec.specs.Keys.{text_cost}
use Rattle.value_spec.specs.Store.{put_pair, put_pairs}
use Rattle.value_spec.specs.Values.{Value, fragment_value, child, Children, no_children, a_child, Body, one, map_of, list_of}
use Rattle.star_spec.proofs.Keeping.{Keeps, Anything, keeps_then, keeps_give, keeps_paid, keeps_below}
use Rattle.star_spec.proofs.MembersHeld.{BothHeld, put_pair_held, new_list_keeps, new_dict_keeps}

-- ---- steps

pub scalar_keeps : {H : Type 0} (p : Place) (x : Scalar) → Keeps {H = H} Anything (scalar_paid p x)
scalar_keeps p null = keeps_give tt tt
scalar_keeps p (boolean b) = keeps_give tt tt
scalar_keeps p (integer z) = keeps_give tt tt
scalar_keeps p (string t) = keeps_paid (text_cost (length t)) p (keeps_give tt tt)

pub key_keeps : {H : Type 0} (p : Place) (x : Option Scalar) → Keeps {H = H} Anything (key_paid p x)
key_keeps p None = keeps_give tt tt
key_keeps p (Some x) = scalar_keeps p x

mutual
  tree_keeps : {H : Type 0} (p : Place) (n : ℕ) (t : Tree) → Keeps {H = H} Anything (tree_paid p n t)
  tree_keeps p n (scalar x) = scalar_keeps p x
  tree_keeps p n (list ts) = keeps_below p n (λ m. trees_paid p m ts) (λ m e. trees_keep p m ts)
  tree_keeps p n (map ps) = keeps_below p n (λ m. pairs_paid p m ps) (λ m e. pairs_keep p m ps)

  trees_keep : {H : Type 0} (p : Place) (n : ℕ) (ts : Trees) → Keeps {H = H} Anything (trees_paid p n ts)
  trees_keep p n no_trees = keeps_give tt tt
  trees_keep p n (tree t ts) = keeps_then (keeps_paid 1 p (tree_keeps p n t)) (λ u g. trees_keep p n ts)

  pairs_keep : {H : Type 0} (p : Place) (n : ℕ) (ps : Pairs) → Keeps {H = H} Anything (pairs_paid p n ps)
  pairs_keep p n no_pairs = keeps_give tt tt
  pairs_keep p n (pair x t ps) = keeps_then (keeps_paid 1 p (scalar_keeps p x)) (λ u g. keeps_then (tree_keeps p n t) (λ v h. pairs_keep p n ps))

mutual
  children_keep : {H : Type 0} (p : Place) (n : ℕ) (cs : Children) → Keeps {H = H} Anything (children_paid p n cs)
  children_keep p n no_children = keeps_give tt tt
  children_keep p n (a_child (child q ns x b) cs) =
      keeps_then (keeps_paid 1 p (key_keeps p x)) (λ u g. keeps_then (body_keeps p n b) (λ v h. children_keep p n cs))

  pub body_keeps : {H : Type 0} (p : Place) (n : ℕ) (b : Body) → Keeps {H = H} Anything (body_paid p n b)
  body_keeps p n (one t) = tree_keeps p n t
  body_keeps p n (map_of cs) = keeps_below p n (λ m. children_paid p m cs) (λ m e. children_keep p m cs)
  body_keeps p n (list_of cs) = keeps_below p n (λ m. children_paid p m cs) (λ m e. children_keep p m cs)

-- ---- fresh values

put_both_held : (ps ms : List (Value × Value)) → HeldPairs ps → BothHeld ms → HeldPairs (put_pairs ps ms)
put_both_held ps [] h k = h
put_both_held ps (m ∷ ms) h k = put_both_held (put_pair m.0 m.1 ps) ms (put_pair_held m.0 m.1 ps k.0 k.1 h) k.2

scalar_held : (x : Scalar) → IsScalar x → HeldValue (value_of_scalar x)
scalar_held null h = tt
scalar_held (boolean b) h = tt
scalar_held (integer z) h = h
scalar_held (string t) h = h

mutual
  fresh_keeps : {H : Type 0} (t : Tree) → IsTree t → Keeps {H = H} HeldValue (fresh_value t)
  fresh_keeps (scalar x) h = keeps_give (value_of_scalar x) (scalar_held x h)
  fresh_keeps (list ts) h = keeps_then (members_keep ts h) new_list_keeps
  fresh_keeps (map ps) h = keeps_then (entries_keep ps h) (λ ms k. new_dict_keeps (put_pairs [] ms) (put_both_held [] ms tt k))

  members_keep : {H : Type 0} (ts : Trees) → AreTrees ts → Keeps {H = H} HeldList (fresh_values ts)
  members_keep no_trees h = keeps_give [] tt
  members_keep (tree t ts) h = keeps_then (fresh_keeps t h.0) (λ v k. keeps_then (members_keep ts h.1) (λ vs g. keeps_give (v ∷ vs) (k, g)))

  entries_keep : {H : Type 0} (ps : Pairs) → ArePairs ps → Keeps {H = H} BothHeld (fresh_pairs ps)
  entries_keep no_pairs h = keeps_give [] tt
  entries_keep (pair x t ps) h =
      keeps_then (fresh_keeps t h.1) (λ v k. keeps_then (entries_keep ps h.3) (λ ms g. keeps_give ((value_of_scalar x, v) ∷ ms) (scalar_held x h.0, k, g)))

fresh_body_keeps : {H : Type 0} (b : Body) → HeldBody b → Keeps {H = H} HeldValue (fresh_body b)
fresh_body_keeps (one t) h = fresh_keeps t h
fresh_body_keeps (map_of cs) h = keeps_give (fragment_value pair_item cs) h
fresh_body_keeps (list_of cs) h = keeps_give (fragment_value element_item cs) (h, refl)

pub body_value_keeps : {H : Type 0} (p : Place) (b : Body) → HeldBody b → Keeps {H = H} HeldValue (body_value p b)
body_value_keeps p b h = keeps_then (body_keeps p max_depth b) (λ u g. fresh_body_keeps b h)
