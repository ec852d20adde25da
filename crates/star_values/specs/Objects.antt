-- The plain data that held things and objects stand for, and what contracts see of them together.
use Rattle.value_spec.specs.Members.{keys_in}
use Rattle.star_values.specs.Types.{ℕ, List, [], get_or, Option, Some, None, Name, option_members, none_value, text_value, tuple_value, range_value, struct_value, fragment_value, module_value, native_value, builtin, method, host_native, replacement, of_list, of_dict, of_box, of_function, values_from, Env, Store, item_kind_of, Value, Answerer, Thing, Held, NamedBox, Function, Lent, Contents, Object}
use Rattle.std.specs.Prelude.{suc, map as each, ◌∷◌, ◌++◌}
use Rattle.value_spec.specs.Values as plain
use Rattle.star_values.specs.declared.held.Answerer.TheVariants as answerer
use Rattle.star_values.specs.declared.held.Thing.TheVariants as thing
use Rattle.star_values.specs.declared.held.Held.TheVariants as held
use Rattle.star_values.specs.declared.lent.Lent.TheVariants as lent
use Rattle.star_values.specs.declared.object.Contents.TheVariants as contents
use Rattle.star_values.specs.View.{View, text_in, value_in, values_in, option_in, fields_in, built_in}

-- ---- held things

-- a function or method of the language, or what a host answers
abbrev pub native_by : Answerer → Name → Option plain.Value → plain.Native
native_by answerer.Language x None = builtin x
native_by answerer.Language x (Some v) = method x v
native_by answerer.Host x on = host_native x (values_from (option_members on))

abbrev pub thing_value : (before : List plain.Value) → Thing → plain.Value
thing_value before (thing.Range start stop step) = range_value start stop step
thing_value before (thing.Struct fs) = struct_value (fields_in before fs)
thing_value before (thing.Module x fs) = module_value x (fields_in before fs)
thing_value before (thing.Native by x on) = native_value (native_by by x (option_in before on))
thing_value before (thing.Replacement v) = native_value (replacement (value_in before v))
thing_value before (thing.Fragment k is) = fragment_value (item_kind_of k) (built_in before is)

-- a held thing is made of those before it
abbrev pub held_value : (before : List plain.Value) → Held → plain.Value
held_value before (held.Text w) = text_value w.text
held_value before (held.Tuple vs) = tuple_value (values_from (values_in before vs.items))
held_value before (held.Other n) = thing_value before n.thing

abbrev pub held_from : (before : List plain.Value) → List Held → List plain.Value
held_from before [] = before
held_from before (h ∷ hs) = held_from (before ++ held_value before h ∷ []) hs

abbrev pub held_of : List Held → List plain.Value
held_of hs = held_from [] hs

-- ---- objects

abbrev pub pair_in : (held : List plain.Value) → Value × Value → plain.Value × plain.Value
pair_in held p = (value_in held p.0, value_in held p.1)

abbrev pub pairs_in : (held : List plain.Value) → List (Value × Value) → List (plain.Value × plain.Value)
pairs_in held ps = each (pair_in held) ps

-- the name of a variable and its box's position
abbrev pub variable_in : (held : List plain.Value) → NamedBox → Name × ℕ
variable_in held b = (text_in (get_or held b.name.at none_value), b.at.at)

abbrev pub env_in : (held : List plain.Value) → List NamedBox → Env
env_in held bs = each (variable_in held) bs

abbrev pub function_in : (held : List plain.Value) → Function → plain.Function
function_in held f = record { name = f.name; file = f.file; number = f.code; env = env_in held f.boxes; defaults = values_in held f.defaults }

abbrev pub key_of_pair : Option (Value × Value) → Option Value
key_of_pair None = None
key_of_pair (Some p) = Some p.0

abbrev pub lent_in : (held : List plain.Value) → Lent → plain.Contents
lent_in held (lent.List vs) = of_list (values_in held vs.value.items)
lent_in held (lent.Dict m) = of_dict (pairs_in held m.value.entries)

abbrev pub contents_in : (held : List plain.Value) → Contents → plain.Contents
contents_in held (contents.List vs) = of_list (values_in held vs.items)
contents_in held (contents.Dict m) = of_dict (pairs_in held m.entries)
contents_in held (contents.Lent l more) = lent_in held l
contents_in held (contents.Box v) = of_box (option_in held v)
contents_in held (contents.Func f) = of_function (function_in held f)

-- the loops that walk an object
abbrev pub loops_in : Contents → ℕ
loops_in (contents.Lent l more) = suc more
loops_in _ = 0

abbrev pub object_in : (held : List plain.Value) → Object → plain.Object
object_in held o = record { contents = contents_in held o.contents; frozen = o.frozen; loops = loops_in o.contents }

abbrev pub store_in : (held : List plain.Value) → List Object → Store
store_in held os = each (object_in held) os

-- the members of a list, or the keys of a dict, which a loop goes over
abbrev pub walked_members : plain.Contents → List plain.Value
walked_members (of_list vs) = vs
walked_members (of_dict ps) = keys_in ps
walked_members _ = []

-- ---- both

-- what stands in an arena
pub record Slots : Type 0 where
  pub held : List Held
  pub objects : List Object

abbrev pub view_of : List Held → List Object → View
view_of hs os = record { held = held_of hs; store = store_in (held_of hs) os }

-- what contracts see of an arena
unfoldable pub seen : Slots → View
seen a = view_of a.held a.objects
