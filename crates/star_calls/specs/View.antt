-- What the forms of arguments are, and what their stars give or have room for, in the words of the definitions.
use Rattle.std.specs.Prelude.{ℕ, nat_le, Bool, true, List, Option, Some, None}
use Rattle.value_spec.specs.Numbers.{range_count}
use Rattle.value_spec.specs.Store.{pairs_at}
use Rattle.value_spec.specs.Values as plain
use Rattle.value_spec.specs.Values.{Fields, Store, dict_value, range_value}
use Rattle.star_spec.specs.Eval.{as_fields}
use Rattle.star_values.specs.Owns.{OwnsFields}
use Rattle.star_values.specs.View.{View, fields_in}
use Rattle.star_values.specs.declared.value.NamedValue.{NamedValue}
use Rattle.star_calls.specs.Arguments.{Form, positional, by_name, star, two_stars}
use Rattle.star_calls.specs.declared.arguments.ArgumentForm.{ArgumentForm}
use Rattle.star_calls.specs.declared.arguments.ArgumentForm.TheVariants as form

abbrev pub form_of : ArgumentForm → Form
form_of form.Positional = positional
form_of (form.Named x) = by_name x.now
form_of (form.Star p) = star p
form_of (form.Stars p) = two_stars p

-- ---- members

-- a range has no more members than this
abbrev pub room_within : ℕ → plain.Value → Bool
room_within n (range_value start stop step) = nat_le (range_count start stop step) n
room_within n _ = true

-- ---- pairs

-- the pairs of a dict as arguments by name, if it is one, and each key is a text
abbrev pub fields_of_dict : Store → plain.Value → Option Fields
fields_of_dict store (dict_value r) = as_fields (pairs_at r store)
fields_of_dict store _ = None

abbrev pub named : View → Option (List NamedValue) → Option Fields
named a None = None
named a (Some fs) = Some (fields_in a.held fs)

abbrev pub OwnsIfNamed : View → Option (List NamedValue) → Type 0
OwnsIfNamed a None = Unit {0}
OwnsIfNamed a (Some fs) = OwnsFields a fs
