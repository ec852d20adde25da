-- The names that contracts and specs cite, passed on from one place. Declares nothing.
pub use Rattle.std.specs.Prelude.{◌≡◌, ◌<◌, [], ℕ, is_some, length, slice_get, slice_set, IsSome, Some, IfOk, OnErr, OnOk, IsTrue, ◌^◌, ◌≤◌, Option, None, ◌↔◌, Result, Bool, true, false, List, nat_lt}
pub use Rattle.indexmap.specs.IndexMap.{get_by}
pub use Rattle.ytt_base.specs.declared.text.Memory.{Memory}
pub use Rattle.value_spec.specs.Keys.{IsKey, place_of_key}
pub use Rattle.value_spec.specs.Store.{put_pair, with_contents, with_object, pairs_at, dict_at, dict_get, dict_put, dict_remove, clear, list_extend, list_insert, list_push, list_remove, list_set, may_change, as_frozen, begin_loop, change, end_loop, freeze_since, box_at, found, function_at, index_range, list_at, list_get, count_of}
pub use Rattle.value_spec.specs.Values.{of_box, dict_value, fragment_value, function_value, list_value, module_value, of_dict, of_function, of_list, range_value, native_value, replacement, struct_value, text_value, tuple_value, values_from, values_in}
pub use Rattle.star_tree.specs.View.{item_kind_of}
pub use Rattle.star_values.specs.Answers.{Answers, TakesNone}
pub use Rattle.star_values.specs.Changing.{contents_kind, IsBack, IsOut, MeansSame}
pub use Rattle.star_values.specs.Objects.{contents_in, lent_in, loops_in, held_value, object_in, seen, thing_value, pair_in, env_in, native_by, function_in, pairs_in}
pub use Rattle.star_values.specs.Owns.{Each, Grows, NumberedAt, OwnsContents, OwnsHeld, OwnsLent, SameHeld, held_at, held_sort, object_at, OneKey, Owns, OwnsPair, OwnsAll, OwnsBuilt, OwnsEnv, OwnsFields, OwnsObjectRef, OwnsOption, OwnsFunction, OwnsThing}
pub use Rattle.star_values.specs.View.{View, value_of, values_of, built_in, fields_in, option_in, members_in}
pub use Rattle.star_values.specs.declared.lent.Lent.{Lent}
pub use Rattle.star_values.specs.declared.value.Ref.{Ref}
pub use Rattle.star_values.specs.declared.value.Sort.{Sort}
pub use Rattle.star_values.specs.declared.value.Value.{Value}
