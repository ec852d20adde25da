-- What a tree is as a value: new lists and dicts, each made behind those that stand in it.
use Rattle.std.specs.Prelude.{List, [], ◌∷◌}
use Rattle.ytt_base.specs.Trees.{Scalar, null, boolean, integer, string, Tree, scalar, list, map, Trees, no_trees, tree, Pairs, no_pairs, pair}
use Rattle.code_spec.specs.Program.{pair_item, element_item}
use Rattle.value_spec.specs.Values.{Value, none_value, bool_value, int_value, text_value, fragment_value, Body, one, map_of, list_of}
use Rattle.value_spec.specs.Outcomes.{Computation, give, new_list, new_dict, ◌>>=◌}
use Rattle.value_spec.specs.Store.{put_pairs}

abbrev pub value_of_scalar : Scalar → Value
value_of_scalar null = none_value
value_of_scalar (boolean b) = bool_value b
value_of_scalar (integer z) = int_value z
value_of_scalar (string t) = text_value t

abbrev mutual
  pub fresh_value : {H : Type 0} → Tree → Computation H Value
  fresh_value (scalar x) = give (value_of_scalar x)
  fresh_value (list ts) = fresh_values ts >>= new_list
  fresh_value (map ps) = fresh_pairs ps >>= λ ms. new_dict (put_pairs [] ms)

  pub fresh_values : {H : Type 0} → Trees → Computation H (List Value)
  fresh_values no_trees = give []
  fresh_values (tree t ts) = fresh_value t >>= λ v. fresh_values ts >>= λ vs. give (v ∷ vs)

  pub fresh_pairs : {H : Type 0} → Pairs → Computation H (List (Value × Value))
  fresh_pairs no_pairs = give []
  fresh_pairs (pair x t ps) = fresh_value t >>= λ v. fresh_pairs ps >>= λ ms. give ((value_of_scalar x, v) ∷ ms)

-- what a member of a fragment holds: a fragment where it was built of items, and else a fresh value
abbrev pub fresh_body : {H : Type 0} → Body → Computation H Value
fresh_body (one t) = fresh_value t
fresh_body (map_of cs) = give (fragment_value pair_item cs)
fresh_body (list_of cs) = give (fragment_value element_item cs)
