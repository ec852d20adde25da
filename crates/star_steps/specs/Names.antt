-- The names that contracts and specs over an arena cite, passed on from one place. Declares nothing.
pub use Rattle.code_spec.specs.Options.{further}
pub use Rattle.code_spec.specs.Program.{ItemKind}
pub use Rattle.index_spec.specs.FreshValues.{fresh_body, fresh_pairs, fresh_value, fresh_values, value_of_scalar}
pub use Rattle.index_spec.specs.Index.{as_scalar, begins_inner, body_at, body_under, body_value, by_place, character_at, child_count, cut_text, element_at, entry_of, field_of, found_body, found_value, has_key, index_row, is_inner, is_whole, member_at, missing, number_at, other_key, place_among, set_index_row, set_member_at, value_under}
pub use Rattle.index_spec.specs.KeyTexts.{AreKeysWithin, IsKeyWithin, closed, hex_digit, integer_text, key_text, key_texts, more_texts, quoted, quoted_byte, quoted_bytes}
pub use Rattle.index_spec.specs.Slices.{Places, and_more, between, bound_or, bytes_cut, cut_row, end_place, first_place, from_end, give_tuple, has_bounds, is_bound, members_cut, members_slice, picked, picked_bytes, place_count, places_of, slice_row, step_in}
pub use Rattle.object_arena.specs.Made.{Makes, MakesObject}
pub use Rattle.operator_spec.specs.Equality.{all_found, among, and_then, equal_by, equal_dicts, equal_elements, equal_entries, equal_found, equal_members, equal_pairs, equal_scalars, equal_texts, equal_trees, equality, inside_at, named_values, native_name, pair_count, tree_count}
pub use Rattle.operator_spec.specs.Operators.{answered, augment_row, begins_with, binary_row, compared, contained_in, copies, cost_in, denied, extend_row, if_both, if_one, is_part, join_dicts, join_pairs, key_of_dict, new_keys, not_row, one_more_unless, part_of_text, product_row, remainder_row, repeat_row, repeated, sum_row, tuple_of, unary_row, union_row}
pub use Rattle.operator_spec.specs.Order.{Comparison, above, are_comparable, by_bool, by_integer, by_members, by_number, comparison, each_sized, is_above, is_below, key_sized, measured_by, measured_within, order, order_by, order_within, rank, same}
pub use Rattle.star_steps.specs.Meets.{Gives, Meets, as_is, state_in, stop_of}
pub use Rattle.star_tree.specs.View.{item_kind_of}
pub use Rattle.star_tree.specs.Whole.{binary_operator_of, unary_operator_of}
pub use Rattle.star_tree.specs.declared.code.BinOp.{BinOp}
pub use Rattle.star_values.specs.Objects.{pair_in, pairs_in, seen}
pub use Rattle.star_values.specs.Owns.{Each, Grows, Owns, OwnsAll, OwnsBuilt, OwnsField, OwnsFields, OwnsItem, OwnsOption, OwnsPair, all_values, body_values, held_at, item_values, note_values, values_of_item}
pub use Rattle.star_values.specs.View.{View, body_in, built_in, child_in, children_in, fields_in, item_kind_in, notes_in, option_in, scalar_key, struct_in, value_in, value_of, values_of}
pub use Rattle.star_values.specs.declared.value.BuiltItem.{BuiltItem}
pub use Rattle.star_values.specs.declared.value.BuiltValue.{BuiltValue, fold-BuiltValue, the_lemmas}
pub use Rattle.star_values.specs.declared.value.NamedValue.{NamedValue}
pub use Rattle.star_values.specs.declared.value.Ref.{Ref}
pub use Rattle.star_values.specs.declared.value.Sort.{Sort}
pub use Rattle.star_values.specs.declared.value.Value.{Value}
pub use Rattle.std.specs.Char.{encode_utf8}
pub use Rattle.std.specs.Int.{w128}
pub use Rattle.std.specs.Prelude.{Bool, Err, IfOk, IsTrue, List, MatchOption, None, Ok, OnOk, Option, Result, Some, [], bytes_eq, codes, drop, false, get_or, if◌then◌else◌, int_lt, is_some, length, map, nat_lt, not, option_map, pos, slice_get, slice_set, string_bytes, suc, take, true, zero, ℕ, ℤ, ◌%◌, ◌*ℤ◌, ◌++◌, ◌+ℤ◌, ◌+◌, ◌/◌, ◌<ℤ◌, ◌<◌, ◌==◌, ◌||◌, ◌∷◌, ◌≡◌, ◌≤ℤ◌, ◌≤◌}
pub use Rattle.std.specs.Str.{IsCharBoundary, encode_utf8_all}
pub use Rattle.std.specs.Str.Iter.{HasSubslice}
pub use Rattle.std.specs.declared.cmp.Ordering.{Ordering}
pub use Rattle.value_spec.specs.Built.{body_paid, body_tree, children_paid, children_pairs, children_trees, fragment_body, key_paid, pairs_paid, scalar_paid, tree_paid, trees_paid}
pub use Rattle.value_spec.specs.Keys.{AreKeys, IsKey, first_offence, key_offence, place_of_key, text_cost}
pub use Rattle.value_spec.specs.Members.{as_int, as_text, count_in, is_empty, keys_in, members_in, numbers_of, truth_in}
pub use Rattle.value_spec.specs.Numbers.{at_least_zero, progression, range_count, steps_up}
pub use Rattle.value_spec.specs.Outcomes.{Computation, Ending, State, acting, after_act, asks, bad, done, fail, give, need, new_dict, new_list, or_fail, paid, paid_by, reads, take_if, take_steps, then_do, ◌>>=◌}
pub use Rattle.value_spec.specs.Store.{Answer, dict_put, did, list_at, list_extend, list_set, may_change, object, on_found, pairs_at, put_key, put_pair, put_pairs, refused, value_at_place, value_of_key, with_object}
pub use Rattle.value_spec.specs.Values.{Body, Children, Contents, Fields, Object, Store, Values, a_child, a_value, bool_value, child, dict_value, fragment_value, function_value, int_value, list_of, list_value, map_of, module_value, native_value, no_built, no_children, no_values, none_value, of_dict, one, range_value, struct_value, text_value, tuple_value, values_from, values_in}
pub use Rattle.ytt_base.specs.Outcomes.{fault_at}
pub use Rattle.ytt_base.specs.Trees.{Pairs, Scalar, Trees, boolean, integer, list, max_depth, no_pairs, no_trees, null, pair, same_integer, scalar, string, tree}
pub use Rattle.ytt_base.specs.View.{key_of, pairs_of, tree_of, trees_of}
pub use Rattle.ytt_base.specs.declared.fault.FaultKind.{FaultKind}
pub use Rattle.ytt_base.specs.declared.fault.Place.{Place}
pub use Rattle.ytt_base.specs.declared.fault.Stop.{Stop}
pub use Rattle.ytt_base.specs.declared.text.Memory.{Memory}
pub use Rattle.ytt_base.specs.declared.tree.Key.{Key}
