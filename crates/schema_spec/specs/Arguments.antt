-- The notes of an item that was built, and the forms that their arguments may have.
use Rattle.std.specs.Prelude.{Bool, true, false, ◌&&◌, ◌||◌, List, [], ◌∷◌, Option, Some, None, bytes_eq, take, codes, if◌then◌else◌}
use Rattle.code_spec.specs.Allowed.{has_name, are_distinct}
use Rattle.code_spec.specs.Code.{Name}
use Rattle.star_spec.specs.Held.{field_names}
use Rattle.value_spec.specs.Values.{Value, bool_value, Values, no_values, a_value, Fields, no_fields, a_field, Arguments, arguments, BuiltNotes, no_built, a_built}

-- ---- notes

-- a note of this name is among them
abbrev pub has_note : Name → BuiltNotes → Bool
has_note x no_built = false
has_note x (a_built y given ns) = bytes_eq x y || has_note x ns

-- the name begins with `overlay/`
abbrev pub is_overlay_name : Name → Bool
is_overlay_name x = bytes_eq (take 8 x) (codes "overlay/")

abbrev pub has_overlay_note : BuiltNotes → Bool
has_overlay_note no_built = false
has_overlay_note (a_built x given ns) = is_overlay_name x || has_overlay_note ns

-- ---- arguments

abbrev pub are_none : Values → Bool
are_none no_values = true
are_none (a_value v vs) = false

abbrev pub are_unnamed : Fields → Bool
are_unnamed no_fields = true
are_unnamed (a_field x v fs) = false

abbrev pub no_arguments : Arguments → Bool
no_arguments (arguments vs fs) = are_none vs && are_unnamed fs

-- each name is one of these
abbrev pub are_among : (allowed names : List Name) → Bool
are_among allowed [] = true
are_among allowed (x ∷ xs) = has_name x allowed && are_among allowed xs

-- nothing but arguments of these names, none of them twice
abbrev pub has_form : (allowed : List Name) → Arguments → Bool
has_form allowed (arguments vs fs) = are_none vs && (are_distinct (field_names fs) && are_among allowed (field_names fs))

-- the argument of a name
abbrev pub named_in : Name → Fields → Option Value
named_in x no_fields = None
named_in x (a_field y v fs) = if bytes_eq x y then Some v else named_in x fs

abbrev pub named : Name → Arguments → Option Value
named x (arguments vs fs) = named_in x fs

-- the one argument by position, where there is no other
abbrev pub only_argument : Arguments → Option Value
only_argument (arguments no_values fs) = None
only_argument (arguments (a_value v vs) fs) = if are_none vs && are_unnamed fs then Some v else None

-- the value is True
abbrev pub is_true : Value → Bool
is_true (bool_value b) = b
is_true _ = false
