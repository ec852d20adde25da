-- The names that laws and answers over an arena cite, passed on from one place. Declares nothing.
pub use Rattle.star_steps.proofs.Meeting.{gives_same, gives_stop, meets_same, meets_stop, tuple_members}
pub use Rattle.star_values.proofs.Growing.{each_at, grows_same, grows_then, owns_kept, value_kept}
pub use Rattle.star_values.proofs.Slots.{some_same}
pub use Rattle.std.proofs.Common.{Bool, Err, FitsSigned, IfOk, List, None, Ok, OnOk, Option, Result, Some, [], add-one, ap, append-nil, append_assoc, arith, codes, cond, drop, eq-eqb, false, get_or, if◌then◌else◌, inl, inr, is_some, length, map, map-id, min, nat_le, nat_lt, neg_ℤ, negsuc, not, of_z, option_and_then, option_map, pos, refl, rules, slice_get, slice_range, string_bytes, subst, suc, sym, take, to_z, true, zero, ℕ, ℤ, ◌%◌, ◌&&◌, ◌*ℤ◌, ◌*◌, ◌++◌, ◌+ℤ◌, ◌+◌, ◌-◌, ◌/◌, ◌<ℤ◌, ◌<◌, ◌==◌, ◌||◌, ◌∙◌, ◌∷◌, ◌≡◌, ◌≤ℤ◌, ◌≤◌, ◌⊎◌}
pub use Rattle.std.proofs.Math.IntN.{+ℤ-neg_ℤ_cancel, +ℤ_comm}
pub use Rattle.std.proofs.Math.ListN.{drop_of_length-le}
pub use Rattle.std.proofs.Math.Nat.{mul-le-mul_left}
pub use Rattle.std.proofs.Math.Seq.{drop-cons, take-length}
pub use Rattle.std.proofs.lemmas.Bool.{le-leb, leb-false, leb-true, ltb-false, ltb-true, ne_eqb}
pub use Rattle.std.proofs.lemmas.Int.{ints, to_z-of_z}
pub use Rattle.std.proofs.lemmas.Iterator.{YieldsList-from_chars}
pub use Rattle.std.proofs.lemmas.Iterator.Consumers.{YieldsList-end}
pub use Rattle.std.proofs.lemmas.List.{drop-take, drop_more, length-map, map-append, take-append-drop, take_all, take_more}
pub use Rattle.std.proofs.lemmas.Option.{get_or_from_slice_get, slice_get-get_or, slice_get-map, slice_get_read, slice_get_within}
pub use Rattle.std.proofs.lemmas.Str.{encode_ascii, encodes-append, encodes-chars}
pub use Rattle.std.proofs.lemmas.Str.Pattern.{contains_text}
pub use Rattle.value_spec.proofs.Computations.{then_assoc, then_ext, then_give}
pub use Rattle.ytt_base.proofs.Views.{tree_of-List, tree_of-Map}
pub use Rattle.star_steps.specs.Names.{Answer, AreKeys, AreKeysWithin, BinOp, Body, BuiltItem, BuiltValue, Children, Comparison, Computation, Contents, Each, Ending, FaultKind, Fields, Gives, Grows, HasSubslice, IsCharBoundary, IsKey, IsKeyWithin, IsTrue, ItemKind, Key, Makes, MakesObject, MatchOption, Meets, Memory, NamedValue, Object, Ordering, Owns, OwnsAll, OwnsBuilt, OwnsField, OwnsFields, OwnsItem, OwnsOption, OwnsPair, Pairs, Place, Places, Ref, Scalar, Sort, State, Stop, Store, Trees, Value, Values, View, a_child, a_value, above, acting, after_act, all_found, all_values, among, and_more, and_then, answered, are_comparable, as_int, as_is, as_scalar, as_text, at_least_zero, augment_row, asks, bad, begins_inner, begins_with, between, binary_operator_of, binary_row, body_at, body_in, body_paid, body_tree, body_under, body_value, body_values, bool_value, boolean, bound_or, built_in, by_bool, by_integer, by_members, by_number, by_place, bytes_cut, bytes_eq, character_at, child, child_count, child_in, children_in, children_paid, children_pairs, children_trees, closed, compared, comparison, contained_in, copies, cost_in, count_in, cut_row, cut_text, denied, dict_put, dict_value, did, done, each_sized, element_at, encode_utf8, encode_utf8_all, end_place, entry_of, equal_by, equal_dicts, equal_elements, equal_entries, equal_found, equal_members, equal_pairs, equal_scalars, equal_texts, equal_trees, equality, extend_row, fail, fault_at, field_of, fields_in, first_offence, first_place, fold-BuiltValue, found_body, found_value, fragment_body, fragment_value, fresh_body, fresh_pairs, fresh_value, fresh_values, from_end, function_value, further, give, give_tuple, has_bounds, has_key, held_at, hex_digit, if_both, if_one, index_row, inside_at, int_lt, int_value, integer, integer_text, is_above, is_below, is_bound, is_empty, is_inner, is_part, is_whole, item_kind_in, item_kind_of, item_values, join_dicts, join_pairs, key_of, key_of_dict, key_offence, key_paid, key_sized, key_text, key_texts, keys_in, list, list_at, list_extend, list_of, list_set, list_value, map_of, max_depth, may_change, measured_by, measured_within, member_at, members_cut, members_in, members_slice, missing, module_value, more_texts, named_values, native_name, native_value, need, new_dict, new_keys, new_list, no_built, no_children, no_pairs, no_trees, no_values, none_value, not_row, note_values, notes_in, null, number_at, numbers_of, object, of_dict, on_found, one, one_more_unless, option_in, or_fail, order, order_by, order_within, other_key, paid, paid_by, pair, pair_count, pair_in, pairs_at, pairs_in, pairs_of, pairs_paid, part_of_text, picked, picked_bytes, place_among, place_count, place_of_key, places_of, product_row, progression, put_key, put_pair, put_pairs, quoted, quoted_byte, quoted_bytes, range_count, range_value, rank, reads, refused, remainder_row, repeat_row, repeated, same, same_integer, scalar, scalar_key, scalar_paid, seen, set_index_row, set_member_at, slice_row, slice_set, state_in, step_in, steps_up, string, struct_in, struct_value, sum_row, take_if, take_steps, text_cost, text_value, the_lemmas, then_do, tree, tree_count, tree_of, tree_paid, trees_of, trees_paid, truth_in, tuple_of, tuple_value, unary_operator_of, unary_row, union_row, value_at_place, value_in, value_of, value_of_key, value_of_scalar, value_under, values_from, values_in, values_of, values_of_item, w128, with_object, ◌>>=◌}
