-- The forms and kinds of plain scalars, as plain data, that the program's stand for.
use Rattle.yaml_spec.specs.Scalars.{Form, null_form, bool_form, octal_form, bad_octal_form, integer_form, prefixed_form, float_form, word_form, string_form, PlainKind, null_kind, bool_kind, integer_kind, octal_kind, bad_octal_kind, hex_kind, float_kind, word_kind, string_kind}
use Rattle.yaml_kinds.specs.declared.form.Form as told
use Rattle.yaml_kinds.specs.declared.form.Form.TheVariants as form
use Rattle.yaml_kinds.specs.declared.kind.ScalarKind.{ScalarKind}
use Rattle.yaml_kinds.specs.declared.kind.ScalarKind.TheVariants as kind

abbrev pub plain_form : told.Form → Form
plain_form form.Null = null_form
plain_form (form.Bool b) = bool_form b
plain_form form.Octal = octal_form
plain_form form.BadOctal = bad_octal_form
plain_form form.Int = integer_form
plain_form form.PrefixedOctal = prefixed_form 8
plain_form form.PrefixedHex = prefixed_form 16
plain_form form.Float = float_form
plain_form form.Word = word_form
plain_form form.Str = string_form

abbrev pub kind_told : ScalarKind → PlainKind
kind_told kind.Null = null_kind
kind_told kind.Bool = bool_kind
kind_told kind.Int = integer_kind
kind_told kind.Octal = octal_kind
kind_told kind.BadOctal = bad_octal_kind
kind_told kind.Hex = hex_kind
kind_told kind.Float = float_kind
kind_told kind.Word = word_kind
kind_told kind.Str = string_kind
