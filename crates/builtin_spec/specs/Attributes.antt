-- The attributes of values: the fields of structs and modules, and methods, which are functions of the language that hold what they
-- are of.
use Rattle.std.specs.Prelude.{Bool, ◌||◌, Option, Some, None, bytes_eq, codes, is_some, if◌then◌else◌}
use Rattle.ytt_base.specs.declared.fault.FaultKind.TheVariants as kind
use Rattle.ytt_base.specs.declared.fault.Place.{Place}
use Rattle.code_spec.specs.Code.{Name}
use Rattle.builtin_spec.specs.Binding.{own_in}
use Rattle.builtin_spec.specs.Dicts.{dict_methods}
use Rattle.builtin_spec.specs.Lists.{list_methods}
use Rattle.text_spec.specs.Methods.{method_in, text_methods}
use Rattle.value_spec.specs.Binding.{field_of}
use Rattle.value_spec.specs.Outcomes.{Computation, fail_with, give}
use Rattle.value_spec.specs.Values.{Value, text_value, struct_value, list_value, dict_value, module_value, native_value, method}

-- ---- the names of methods

abbrev pub is_text_method : Name → Bool
is_text_method x = bytes_eq x (codes "format") || is_some (method_in x text_methods)

-- a method that a list has, and one that a dict has: the table is the same for each
abbrev pub is_list_method : Name → Bool
is_list_method x = is_some (own_in {H = Unit {0}} x (list_methods 0))

abbrev pub is_dict_method : Name → Bool
is_dict_method x = is_some (own_in {H = Unit {0}} x (dict_methods 0))

-- ---- attributes

-- the method of this name, where there is one
abbrev pub method_if : Bool → Name → Value → Option Value
method_if b x v = if b then Some (native_value (method x v)) else None

abbrev pub attribute_of : Value → Name → Option Value
attribute_of (struct_value fs) x = field_of x fs
attribute_of (module_value m fs) x = field_of x fs
attribute_of (text_value t) x = method_if (is_text_method x) x (text_value t)
attribute_of (list_value r) x = method_if (is_list_method x) x (list_value r)
attribute_of (dict_value r) x = method_if (is_dict_method x) x (dict_value r)
attribute_of _ x = None

-- an attribute, or KeyMissing with its name
abbrev pub or_missing : {H : Type 0} → Place → Name → Option Value → Computation H Value
or_missing p x None = fail_with kind.KeyMissing p x
or_missing p x (Some v) = give v

-- `x.name`
abbrev pub attribute_row : {H : Type 0} → Place → Value → Name → Computation H Value
attribute_row p v x = or_missing p x (attribute_of v x)
