-- What the calls of this crate read of an arena.
use Rattle.std.specs.Prelude.{ℕ, List, get_or}
use Rattle.star_values.specs.declared.value.NamedValue.{NamedValue}
use Rattle.template_meaning.specs.Take.{with_text_keys}
use Rattle.value_spec.specs.Values as plain
use Rattle.star_values.specs.View.{View, fields_in, text_in, value_in}
use Rattle.star_values.specs.declared.value.Ref.{Ref}
use Rattle.value_spec.specs.Values.{none_value, text_value}

-- the text at a place
abbrev pub text_at : View → Ref → List ℕ
text_at a r = text_in (get_or a.held r.at none_value)

-- a field as a pair, whose key is its name
abbrev pub field_pair : (held : List plain.Value) → NamedValue → plain.Value × plain.Value
field_pair held f = (text_value f.name, value_in held f.value)

abbrev pub field_pairs : (held : List plain.Value) → List NamedValue → List (plain.Value × plain.Value)
field_pairs held fs = with_text_keys (plain.fields_in (fields_in held fs))
