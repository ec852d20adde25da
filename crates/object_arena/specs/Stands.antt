-- What stands at a place of an arena.
use Rattle.object_arena.specs.Names.{ℕ, Bool, true, false, List, [], length, Option, Some, None, slice_get, count_of, values_in, of_list, of_dict, of_box, of_function, Sort, Ref, Lent, lent_in, held_at, object_at, View, members_in}
use Rattle.std.specs.Prelude.{◌≡◌}
use Rattle.std.specs.Option.{option_map}
use Rattle.value_spec.specs.Values as plain
use Rattle.star_values.specs.declared.value.Sort.TheVariants as sort

-- lists, dicts, functions and boxes have a position in the store, and nothing else has
abbrev pub is_object : Sort → Bool
is_object sort.List = true
is_object sort.Dict = true
is_object sort.Func = true
is_object sort.Box = true
is_object _ = false

-- lists, dicts, tuples and boxes
abbrev pub has_length : Sort → Bool
has_length sort.List = true
has_length sort.Dict = true
has_length sort.Tuple = true
has_length sort.Box = true
has_length _ = false

-- all others
abbrev pub has_shape : Sort → Bool
has_shape sort.List = false
has_shape sort.Dict = false
has_shape sort.Tuple = false
has_shape sort.Box = false
has_shape _ = true

-- something besides a text or a tuple
abbrev pub holds_thing : Option Sort → Bool
holds_thing None = false
holds_thing (Some sort.Text) = false
holds_thing (Some sort.Tuple) = false
holds_thing _ = true

abbrev pub choose : {A : Type 0} → Bool → A → A → A
choose true a b = a
choose false a b = b

-- what stands where a reference says, of the kinds that it may be
abbrev pub sort_at : View → Ref → Option Sort
sort_at a r = choose (is_object r.sort) (object_at a r.at) (held_at a r.at)

-- a list or a box
abbrev pub has_members : Option plain.Object → Bool
has_members None = false
has_members (Some o) = elim o.contents [ of_list vs ↦ true | of_dict ps ↦ false | of_box v ↦ true | of_function f ↦ false ]

abbrev pub is_unset : Option plain.Value → Bool
is_unset None = true
is_unset (Some v) = false

-- a list, or a box without a value
abbrev pub has_room : Option plain.Object → Bool
has_room None = false
has_room (Some o) = elim o.contents [ of_list vs ↦ true | of_dict ps ↦ false | of_box v ↦ is_unset v | of_function f ↦ false ]

-- a list or a dict
abbrev pub is_walked : Option plain.Object → Bool
is_walked None = false
is_walked (Some o) = elim o.contents [ of_list vs ↦ true | of_dict ps ↦ true | of_box v ↦ false | of_function f ↦ false ]

-- the loops that walk an object
abbrev pub loops_of : Option plain.Object → ℕ
loops_of None = 0
loops_of (Some o) = o.loops

-- what the object at a place holds is lent
abbrev pub Lends : View → ℕ → Lent → Type 0
Lends a at l = option_map (λ (o : plain.Object). o.contents) (slice_get a.store at) ≡ Some (lent_in a.held l)

-- the members of a tuple that is held at a place
abbrev pub tuple_members : Option plain.Value → List plain.Value
tuple_members None = []
tuple_members (Some v) = values_in (members_in v)

abbrev pub object_count : Option plain.Object → ℕ
object_count None = 0
object_count (Some o) = count_of o.contents

-- the members of a tuple, list or box, or the pairs of a dict
abbrev pub length_of : View → Ref → ℕ
length_of a r = choose (is_object r.sort) (object_count (slice_get a.store r.at)) (length (tuple_members (slice_get a.held r.at)))
