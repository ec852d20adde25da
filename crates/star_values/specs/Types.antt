-- The types of the code, and the names that the specs cite, passed on from one place. Declares nothing.
pub use Rattle.std.specs.Prelude.{ℕ, ℤ, pos, List, [], ◌∷◌, get_or, Option, Some, None, ◌++◌, ◌≡◌, length, IsTrue, slice_get, ◌↔◌, ◌<◌, ◌≤◌, ◌==◌, Bool, true, false, insert, remove, slice_set, Result, Ok, Err}
pub use Rattle.ytt_base.specs.Trees.{Scalar}
pub use Rattle.ytt_base.specs.View.{tree_of, key_of}
pub use Rattle.ytt_base.specs.declared.tree.Key.{Key}
pub use Rattle.code_spec.specs.Code.{Name}
pub use Rattle.value_spec.specs.Keys.{IsKey, same_key}
pub use Rattle.code_spec.specs.Program.{ItemKind, document_item}
pub use Rattle.value_spec.specs.Store.{option_members, Answer, did, refused, frozen, iterating, index_range, key_missing}
pub use Rattle.value_spec.specs.Values.{none_value, bool_value, int_value, text_value, tuple_value, range_value, struct_value, fragment_value, list_value, dict_value, function_value, module_value, native_value, builtin, method, host_native, replacement, Fields, no_fields, a_field, Children, no_children, a_child, no_values, values_from, arguments, child, no_built, a_built, one, map_of, list_of, Store, of_list, of_dict, of_box, of_function, Env}
pub use Rattle.star_tree.specs.View.{item_kind_of}
pub use Rattle.star_values.specs.declared.object.ArenaStop.{ArenaStop}
pub use Rattle.star_values.specs.declared.value.Sort.{Sort}
pub use Rattle.star_values.specs.declared.value.Ref.{Ref}
pub use Rattle.star_values.specs.declared.value.Value.{Value}
pub use Rattle.star_values.specs.declared.value.NamedValue.{NamedValue}
pub use Rattle.star_values.specs.declared.value.CallArgs.{CallArgs}
pub use Rattle.star_values.specs.declared.value.BuiltNote.{BuiltNote}
pub use Rattle.star_values.specs.declared.value.BuiltItem.{BuiltItem, fold-BuiltItem, ind-BuiltItem}
pub use Rattle.star_values.specs.declared.value.BuiltValue.{BuiltValue, fold-BuiltValue}
pub use Rattle.star_values.specs.declared.value.BuiltValue.TheOpen.{BuiltItem-F, BuiltValue-F}
pub use Rattle.star_values.specs.declared.held.Answerer.{Answerer}
pub use Rattle.star_values.specs.declared.held.Thing.{Thing}
pub use Rattle.star_values.specs.declared.held.Held.{Held}
pub use Rattle.star_values.specs.declared.object.NamedBox.{NamedBox}
pub use Rattle.star_values.specs.declared.object.Function.{Function}
pub use Rattle.star_values.specs.declared.lent.Lent.{Lent}
pub use Rattle.star_values.specs.declared.object.Contents.{Contents}
pub use Rattle.star_values.specs.declared.object.Object.{Object}
