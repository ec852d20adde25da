-- The names that the proofs cite, passed on from one place. Declares nothing.
pub use Rattle.std.proofs.Common.{◌≡◌, ℕ, Bool, List, [], ◌∷◌, length, get_or, Option, Some, slice_get, refl, sym, ap, ◌∙◌, zero, suc, ◌≤◌, None, arith, length-set, inl, inr, ◌<◌, true, false, true≢false, ◌++◌, subst, rules, IsSome, add-one}
pub use Rattle.std.proofs.lemmas.Bool.Decides.{Decides-eqb}
pub use Rattle.std.proofs.lemmas.List.{length-map}
pub use Rattle.std.proofs.lemmas.List.Folds.{list_any_at}
pub use Rattle.std.proofs.lemmas.Option.{get_or_from_slice_get, slice_get-map, slice_get-get_or, slice_get_within, slice_get_read}
pub use Rattle.std.proofs.lemmas.Slice.Eq.{bytes_eq-Decides, slice_eq-Decides}
pub use Rattle.std.specs.List.{list_any}
pub use Rattle.std.specs.Map.{lookup}
pub use Rattle.std.specs.Option.{option_map}
pub use Rattle.std.specs.Prelude.{if◌then◌else◌}
pub use Rattle.indexmap.specs.IndexSet.{insert_key}
pub use Rattle.value_spec.specs.Keys.{IsKey}
pub use Rattle.value_spec.specs.Store.{walked, found, index_range, key_missing, pairs_of_contents, pairs_in, value_of_key, dict_get, as_frozen, change, changed, freeze_since, put_key, push_member, empty_out, cut_key, extend_members, set_member, remove_member, insert_member}
pub use Rattle.value_spec.specs.Values.{none_value, tuple_value, values_in, values_from, Store, text_value}
pub use Rattle.star_values.proofs.Acts.{acted, back_again, changed_as, value_seen, found_owned}
pub use Rattle.star_values.proofs.Growing.{some_held, grows_same, held_kept, owns_contents_kept, owns_lent_kept, owns_kept, value_kept, grows_then, each_at, owns_all_kept}
pub use Rattle.star_values.proofs.KeysOnce.{identified, same_if_key, one_key}
pub use Rattle.star_values.proofs.Slots.{some_same, IsNew, front_or_last, held_length, view_more_held, grows_more_held, sound_more_held, held_here, held_within, stands_within, seen_here, owns_here, held_known, same_sort, SameSort, view_other_object, grows_other_object, sound_other_object, view_more_objects, grows_more_objects, sound_more_objects}
pub use Rattle.star_values.specs.Changing.{DecidesOne, pairs_of, contents_kind, MeansSame}
pub use Rattle.star_values.specs.Objects.{contents_in, object_in, held_value, held_of, store_in, view_of, seen, Slots}
pub use Rattle.star_values.specs.Owns.{held_at, object_at, OneKey, OwnsContents, Grows, OwnsHeld, NumberedAt, SameHeld, Sound, KeysOnce, Owns}
pub use Rattle.star_values.specs.View.{View, members_in, value_of, values_of}
pub use Rattle.star_values.specs.declared.held.Held.{Held}
pub use Rattle.star_values.specs.declared.object.Contents.{Contents}
pub use Rattle.star_values.specs.declared.object.Object.{Object}
pub use Rattle.star_values.specs.declared.value.Ref.{Ref}
pub use Rattle.star_values.specs.declared.value.Sort.{Sort}
pub use Rattle.star_values.specs.declared.value.Value.{Value}
pub use Rattle.object_arena.specs.Stands.{is_object, choose, sort_at, tuple_members, object_count, length_of}
