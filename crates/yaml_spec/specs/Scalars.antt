-- Plain scalars by their form: the first form that fits (YAML 1.2.2, 10.2.1 and 10.3.2, in this profile).
use Rattle.std.specs.Prelude.{ℕ, zero, suc, ◌+◌, ◌*◌, ◌^◌, ℤ, pos, negsuc, Bool, true, false, not, ◌&&◌, ◌||◌, ◌==◌, nat_le, nat_lt, if◌then◌else◌, List, [], ◌∷◌, take, drop, codes, bytes_eq, Result, Ok, Err}
use Rattle.std.specs.List.{list_all}
use Rattle.ytt_base.specs.Trees.{Scalar, null, boolean, integer, string}
use Rattle.ytt_base.specs.declared.fault.FaultKind.{FaultKind}
use Rattle.ytt_base.specs.declared.fault.FaultKind.TheVariants as kind
use Rattle.yaml_spec.specs.Bytes.{plus, dash, dot, first, is_empty, is_one_of, is_word, is_digit, is_octal_digit, is_hex_digit, digit_value, null_words, true_words, false_words, yes_words}

-- The forms of a plain scalar, in the order in which they are tried. A bad octal has a digit from 8 on behind its leading zero;
-- a prefixed one has `0o` or `0x` and digits of this base; a word is one that YAML 1.1 reads as a bool.
pub data Form : Type 0 where
  null_form : Form
  bool_form : Bool → Form
  octal_form : Form
  bad_octal_form : Form
  integer_form : Form
  prefixed_form : ℕ → Form
  float_form : Form
  word_form : Form
  string_form : Form

-- infinite floats without their sign
abbrev pub infinity_words : List (List ℕ)
infinity_words = codes ".inf" ∷ codes ".Inf" ∷ codes ".INF" ∷ []

-- the floats that are no numbers
abbrev pub nan_words : List (List ℕ)
nan_words = codes ".nan" ∷ codes ".NaN" ∷ codes ".NAN" ∷ []

-- a sign stands before the number
abbrev pub has_sign : List ℕ → Bool
has_sign t = first t == plus || first t == dash

-- the number without its sign
abbrev pub unsigned : List ℕ → List ℕ
unsigned t = if has_sign t then drop 1 t else t

-- one or more bytes that pass the test
abbrev pub some_of : (ℕ → Bool) → List ℕ → Bool
some_of test t = not (is_empty t) && list_all test t

-- `0` and one or more decimal digits
abbrev pub has_leading_zero : List ℕ → Bool
has_leading_zero t = first t == 48 && some_of is_digit (drop 1 t)

-- the text behind the digits at its start
abbrev pub skip_digits : List ℕ → List ℕ
skip_digits [] = []
skip_digits (b ∷ bs) = elim (is_digit b) [ true ↦ skip_digits bs | false ↦ b ∷ bs ]

-- nothing, or `e` or `E`, an optional sign and digits
abbrev pub is_exponent : List ℕ → Bool
is_exponent t = is_empty t || (is_one_of (69 ∷ 101 ∷ []) (first t) && some_of is_digit (unsigned (drop 1 t)))

-- digits that `.` and any number of digits may follow, or `.` and digits; then an optional exponent
abbrev pub is_decimal_fraction : List ℕ → Bool
is_decimal_fraction t =
    if first t == dot then is_digit (first (drop 1 t)) && is_exponent (skip_digits (drop 1 t))
    else is_digit (first t) && is_exponent (if first (skip_digits t) == dot then skip_digits (drop 1 (skip_digits t)) else skip_digits t)

-- a number with a fraction or an exponent, an infinite one, or none
abbrev pub is_float : List ℕ → Bool
is_float t = is_decimal_fraction (unsigned t) || is_word infinity_words (unsigned t) || is_word nan_words t

-- `0o` with octal digits, `0x` with hexadecimal digits
abbrev pub has_prefix : List ℕ → (ℕ → Bool) → List ℕ → Bool
has_prefix prefix test t = bytes_eq (take 2 t) prefix && some_of test (drop 2 t)

-- the first form that fits
unfoldable pub form : List ℕ → Form
form t =
    if is_word null_words t then null_form
    else if is_word true_words t then bool_form true
    else if is_word false_words t then bool_form false
    else if has_leading_zero (unsigned t) && list_all is_octal_digit (unsigned t) then octal_form
    else if has_leading_zero (unsigned t) then bad_octal_form
    else if some_of is_digit (unsigned t) then integer_form
    else if has_prefix (codes "0o") is_octal_digit t then prefixed_form 8
    else if has_prefix (codes "0x") is_hex_digit t then prefixed_form 16
    else if is_float t then float_form
    else if is_word yes_words t then word_form
    else string_form

-- the number that digits write in this base, after what is read so far
abbrev pub digits_value : ℕ → ℕ → List ℕ → ℕ
digits_value base n [] = n
digits_value base n (d ∷ ds) = digits_value base (n * base + digit_value d) ds

-- the integer of this size, negative or not
abbrev pub with_sign : Bool → ℕ → ℤ
with_sign false n = pos n
with_sign true zero = pos 0
with_sign true (suc n) = negsuc n

-- the integer of this size, negative or not, if it has 128 bits
abbrev pub integer_of : Bool → ℕ → Result Scalar FaultKind
integer_of negative n =
    if (if negative then nat_le n (2 ^ 127) else nat_lt n (2 ^ 127)) then Ok (integer (with_sign negative n)) else Err kind.IntWide

-- a minus sign stands before the number
abbrev pub is_negative : List ℕ → Bool
is_negative t = first t == dash

-- the value of a plain scalar of this form, or why it has none
abbrev pub value_of : Form → List ℕ → Result Scalar FaultKind
value_of null_form t = Ok null
value_of (bool_form b) t = Ok (boolean b)
value_of octal_form t = integer_of (is_negative t) (digits_value 8 0 (unsigned t))
value_of bad_octal_form t = Err kind.YamlOut
value_of integer_form t = integer_of (is_negative t) (digits_value 10 0 (unsigned t))
value_of (prefixed_form base) t = integer_of false (digits_value base 0 (drop 2 t))
value_of float_form t = Err kind.FloatScalar
value_of word_form t = Ok (string t)
value_of string_form t = Ok (string t)

-- what a program asks a plain scalar for: its form, without its value; hexadecimal digits behind `0x` are a kind of their own
pub data PlainKind : Type 0 where
  null_kind : PlainKind
  bool_kind : PlainKind
  integer_kind : PlainKind
  octal_kind : PlainKind
  bad_octal_kind : PlainKind
  hex_kind : PlainKind
  float_kind : PlainKind
  word_kind : PlainKind
  string_kind : PlainKind

-- the kind of a plain scalar of this form
abbrev pub kind_of : Form → PlainKind
kind_of null_form = null_kind
kind_of (bool_form b) = bool_kind
kind_of octal_form = octal_kind
kind_of bad_octal_form = bad_octal_kind
kind_of integer_form = integer_kind
kind_of (prefixed_form base) = if base == 16 then hex_kind else octal_kind
kind_of float_form = float_kind
kind_of word_form = word_kind
kind_of string_form = string_kind

-- the kind of a plain scalar
abbrev pub plain_kind : List ℕ → PlainKind
plain_kind t = kind_of (form t)

-- the value of a plain scalar, or why it has none
unfoldable pub plain : List ℕ → Result Scalar FaultKind
plain t = value_of (form t) t

-- a plain scalar of this form is a string, and no word that YAML 1.1 reads as a bool
abbrev pub is_string_form : Form → Bool
is_string_form string_form = true
is_string_form _ = false

-- a plain scalar of this form is a word that YAML 1.1 reads as a bool, and that is a string here
abbrev pub is_word_form : Form → Bool
is_word_form word_form = true
is_word_form _ = false

-- a plain scalar of this form is an integer in decimal digits
abbrev pub is_integer_form : Form → Bool
is_integer_form integer_form = true
is_integer_form _ = false
