-- The names that the proofs cite, passed on from one place. Declares nothing.
pub use Rattle.std.proofs.Common.{◌≡◌, ℕ, zero, suc, List, [], ◌∷◌, ◌++◌, map, get_or, Option, Some, None, slice_get, slice_set, refl, sym, ap, subst, ◌∙◌, rules, ℤ, pos, negsuc, Bool, true, false, IsTrue, tests, ◌<◌, ◌==◌, nat_le, length, Result, Ok, Err, IfOk, cond, ◌⊎◌, inl, inr, ◌+◌, IsSome, arith}
pub use Rattle.std.proofs.lemmas.Bool.{and_parts, eqb-true, le-leb}
pub use Rattle.std.proofs.lemmas.Grind.{common_steps}
pub use Rattle.std.proofs.lemmas.List.{length-map, map-set, set-set, set-get_or, map-append}
pub use Rattle.std.proofs.lemmas.Option.{get_or_from_slice_get, slice_get_past, slice_get-get_or, slice_get-map, slice_get_cases}
pub use Rattle.std.proofs.lemmas.Slice.Eq.{bytes_eq-Decides}
pub use Rattle.std.specs.Map.{lookup, remove_entry}
pub use Rattle.std.specs.Option.{option_map}
pub use Rattle.std.specs.Prelude.{is_some, remove, if◌then◌else◌}
pub use Rattle.indexmap.proofs.SetLemmas.{map-insert, map-remove}
pub use Rattle.indexmap.specs.IndexMap.{insert_entry}
pub use Rattle.ytt_base.specs.Trees.{same_bool, same_integer}
pub use Rattle.value_spec.proofs.Keys.{same_key_alike}
pub use Rattle.value_spec.specs.Keys.{IsKey, AreKeys, same_key, same_keys, place_of_key}
pub use Rattle.code_spec.specs.Options.{further}
pub use Rattle.value_spec.specs.Members.{keys_in}
pub use Rattle.value_spec.specs.Store.{Answer, set_member, insert_member, remove_member, did, refused, key_missing, value_at_place, value_of_key, with_value, with_pair, put_pair, with_contents, with_pairs, put_key, cut_by, cut_key, Act, at_object, on_found, put_back, change, changed}
pub use Rattle.value_spec.specs.Values.{none_value, bool_value, int_value, text_value, tuple_value, no_values, a_value, values_from, of_list, of_dict, Store}
pub use Rattle.star_tree.specs.View.{item_kind_of}
pub use Rattle.star_values.specs.Answers.{Answers}
pub use Rattle.star_values.specs.Changing.{Identified, pairs_of, SetsAt, InsertsAt, RemovesAt, DecidesOne, contents_kind, lent_kind, IsBack, IsOut}
pub use Rattle.star_values.specs.Objects.{native_by, thing_value, held_value, variable_in, pair_in, key_of_pair, walked_members, lent_in, contents_in, loops_in, object_in, store_in, pairs_in, held_from, held_of, view_of}
pub use Rattle.star_values.specs.Owns.{held_sort, OwnsHeldRef, OwnsObjectRef, Owns, Each, OwnsAll, OwnsOption, OwnsFields, OwnsVariable, OwnsPair, field_values, note_values, all_values, body_values, item_values, values_of_item, OwnsItem, OwnsBuilt, OwnsThing, OwnsHeld, OwnsLent, OwnsContents, OwnsObject, Grows, OneKey, KeysOnce, SameHeld, held_at, object_sort, contents_sort, object_at, NumberedAt, InOrder, Sound}
pub use Rattle.star_values.specs.Types.{Sort, Ref, Value, NamedValue, BuiltNote, BuiltItem, ind-BuiltItem, BuiltValue, fold-BuiltValue, BuiltItem-F, BuiltValue-F, Thing, Held, NamedBox, Lent, Contents, Object, ArenaStop}
pub use Rattle.star_values.specs.View.{View, text_in, members_in, bounds_in, struct_in, module_in, item_kind_in, children_in, native_in, option_in, fields_in, scalar_key, notes_in, in_children, value_step, item_step, body_in, child_in, built_in, value_of, values_of, value_in}
pub use Rattle.star_values.specs.declared.value.BuiltValue.TheFolds.{fold-roll-BuiltItem, fold-roll-BuiltValue, map-BuiltItem, map-BuiltValue}
pub use Rattle.star_values.specs.declared.value.BuiltValue.TheViews.{roll-BuiltItem, roll-BuiltValue}
