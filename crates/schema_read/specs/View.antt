-- What the notes of an item say, as the plain data that the program's types stand for.
use Rattle.std.specs.Prelude.{Bool}
use Rattle.std.specs.Option.{option_map}
use Rattle.ytt_base.specs.declared.fault.Place.{Place}
use Rattle.ytt_base.specs.View.{tree_of}
use Rattle.value_spec.specs.Outcomes.{Computation}
use Rattle.value_spec.specs.Values.{Arguments}
use Rattle.star_values.specs.View.{View, arguments_in}
use Rattle.star_values.specs.declared.value.BuiltNote.{BuiltNote}
use Rattle.star_values.specs.declared.value.CallArgs.{CallArgs}
use Rattle.schema_spec.specs.Reading as plain
use Rattle.schema_spec.specs.Reading.{read_note}
use Rattle.schema_read.specs.declared.notes.Said.{Said}

abbrev pub said_of : Said → plain.Said
said_of s = record { nullable = s.nullable; is_any = s.is_any; default = option_map tree_of s.default }

abbrev pub given : View → CallArgs → Arguments
given a args = arguments_in a.held args

-- what was said, with what one note says
abbrev pub with_note : Place → (in_list : Bool) → View → BuiltNote → Said → Computation (Unit {0}) plain.Said
with_note p in_list a note said = read_note p in_list note.name (given a note.args) (said_of said)
