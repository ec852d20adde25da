-- What contracts see of an arena: what its held things are, by their places, and the store of its objects. What a value of
-- the code is follows from the held things by a function.
use Rattle.star_values.specs.Types.{ℕ, ℤ, pos, List, [], get_or, Option, Some, None, tree_of, key_of, Key, Scalar, Name, ItemKind, document_item, none_value, bool_value, int_value, text_value, tuple_value, range_value, struct_value, fragment_value, list_value, dict_value, function_value, module_value, native_value, builtin, Fields, no_fields, a_field, Children, no_children, a_child, no_values, values_from, arguments, child, no_built, a_built, one, map_of, list_of, Store, Value, NamedValue, CallArgs, BuiltNote, BuiltItem, fold-BuiltItem, BuiltValue, fold-BuiltValue, BuiltItem-F, BuiltValue-F}
use Rattle.std.specs.Prelude.{map as each, ◌∷◌}
use Rattle.value_spec.specs.Values as plain
use Rattle.star_values.specs.declared.value.Value.TheVariants as value

pub record View : Type 0 where
  pub held : List plain.Value
  pub store : Store

-- ---- parts of what is held, where it is of a kind that has them

abbrev pub text_in : plain.Value → List ℕ
text_in (text_value t) = t
text_in _ = []

abbrev pub members_in : plain.Value → plain.Values
members_in (tuple_value vs) = vs
members_in _ = no_values

-- the start, the stop and the step of a range
abbrev pub bounds_in : plain.Value → ℤ × ℤ × ℤ
bounds_in (range_value start stop step) = (start, stop, step)
bounds_in _ = (pos 0, pos 0, pos 0)

abbrev pub struct_in : plain.Value → Fields
struct_in (struct_value fs) = fs
struct_in _ = no_fields

abbrev pub module_in : plain.Value → Name × Fields
module_in (module_value x fs) = (x, fs)
module_in _ = ([], no_fields)

abbrev pub item_kind_in : plain.Value → ItemKind
item_kind_in (fragment_value k cs) = k
item_kind_in _ = document_item

abbrev pub children_in : plain.Value → Children
children_in (fragment_value k cs) = cs
children_in _ = no_children

-- what is called by a name, or stands in a node's place
abbrev pub native_in : plain.Value → plain.Native
native_in (native_value n) = n
native_in _ = builtin []

-- ---- values

-- The value, where the held things are these. Its kind is that of the variant, whatever stands there.
abbrev pub value_in : (held : List plain.Value) → Value → plain.Value
value_in held value.None = none_value
value_in held (value.Bool b) = bool_value b
value_in held (value.Int z) = int_value z
value_in held (value.Text r) = text_value (text_in (get_or held r.at none_value))
value_in held (value.List r) = list_value r.at
value_in held (value.Dict r) = dict_value r.at
value_in held (value.Tuple r) = tuple_value (members_in (get_or held r.at none_value))
value_in held (value.Range r) = range_value (bounds_in (get_or held r.at none_value)).0 (bounds_in (get_or held r.at none_value)).1 (bounds_in (get_or held r.at none_value)).2
value_in held (value.Struct r) = struct_value (struct_in (get_or held r.at none_value))
value_in held (value.Fragment r) = fragment_value (item_kind_in (get_or held r.at none_value)) (children_in (get_or held r.at none_value))
value_in held (value.Func r) = function_value r.at
value_in held (value.Native r) = native_value (native_in (get_or held r.at none_value))
value_in held (value.Module r) = module_value (module_in (get_or held r.at none_value)).0 (module_in (get_or held r.at none_value)).1

abbrev pub values_in : (held : List plain.Value) → List Value → List plain.Value
values_in held vs = each (value_in held) vs

abbrev pub option_in : (held : List plain.Value) → Option Value → Option plain.Value
option_in held None = None
option_in held (Some v) = Some (value_in held v)

abbrev pub fields_in : (held : List plain.Value) → List NamedValue → Fields
fields_in held [] = no_fields
fields_in held (f ∷ fs) = a_field f.name (value_in held f.value) (fields_in held fs)

abbrev pub arguments_in : (held : List plain.Value) → CallArgs → plain.Arguments
arguments_in held args = arguments (values_from (values_in held args.positional)) (fields_in held args.named)

-- ---- what items are built into

abbrev pub scalar_key : Option Key → Option Scalar
scalar_key None = None
scalar_key (Some k) = Some (key_of k)

abbrev pub notes_in : (held : List plain.Value) → List BuiltNote → plain.BuiltNotes
notes_in held [] = no_built
notes_in held (n ∷ ns) = a_built n.name (arguments_in held n.args) (notes_in held ns)

abbrev pub in_children : List plain.Child → Children
in_children [] = no_children
in_children (c ∷ cs) = a_child c (in_children cs)

-- one level, where each item and each value inside is seen already
abbrev pub value_step : BuiltValue-F plain.Body plain.Child → plain.Body
value_step (BuiltValue-F.One t) = one (tree_of t)
value_step (BuiltValue-F.Map is) = map_of (in_children is)
value_step (BuiltValue-F.List is) = list_of (in_children is)

abbrev pub item_step : (held : List plain.Value) → BuiltItem-F plain.Body plain.Child → plain.Child
item_step held i = child i.place (notes_in held i.notes) (scalar_key i.key) i.value

abbrev pub body_in : (held : List plain.Value) → BuiltValue → plain.Body
body_in held = fold-BuiltValue plain.Body plain.Child value_step (item_step held)

abbrev pub child_in : (held : List plain.Value) → BuiltItem → plain.Child
child_in held = fold-BuiltItem plain.Body plain.Child value_step (item_step held)

abbrev pub built_in : (held : List plain.Value) → List BuiltItem → Children
built_in held is = in_children (each (child_in held) is)

-- ---- by the view of an arena

abbrev pub value_of : View → Value → plain.Value
value_of a v = value_in a.held v

abbrev pub values_of : View → List Value → List plain.Value
values_of a vs = values_in a.held vs
