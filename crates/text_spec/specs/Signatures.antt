-- As what the arguments of a method are read.
use Rattle.std.specs.Prelude.{ℕ, ℤ, Bool, false, get_or, List, [], ◌∷◌, Option, Some, None, option_map, option_and_then}
use Rattle.value_spec.specs.Members.{as_text, members_in}
use Rattle.value_spec.specs.Values.{Value, none_value, bool_value, int_value, text_value, tuple_value, values_in, Store}

-- none; a text; one that isn't empty; the same two, or None; an integer or a bool, or None; a text or a tuple of texts; and
-- what has members, each of which is a text
pub data Kind : Type 0 where
  no_kind : Kind
  text_kind : Kind
  separator : Kind
  optional_text : Kind
  optional_separator : Kind
  optional_integer : Kind
  optional_bool : Kind
  text_or_texts : Kind
  text_members : Kind

pub data Operand : Type 0 where
  absent : Operand
  of_text : List ℕ → Operand
  of_integer : ℤ → Operand
  of_bool : Bool → Operand
  of_texts : List (List ℕ) → Operand

abbrev pub unless_none : (Value → Option Operand) → Value → Option Operand
unless_none read none_value = Some absent
unless_none read v = read v

abbrev pub read_text : Value → Option Operand
read_text v = option_map of_text (as_text v)

abbrev pub read_separator : Value → Option Operand
read_separator (text_value (b ∷ t)) = Some (of_text (b ∷ t))
read_separator _ = None

abbrev pub read_integer : Value → Option Operand
read_integer (int_value z) = Some (of_integer z)
read_integer _ = None

abbrev pub read_bool : Value → Option Operand
read_bool (bool_value b) = Some (of_bool b)
read_bool _ = None

abbrev pub text_in_front : Option (List ℕ) → Option (List (List ℕ)) → Option (List (List ℕ))
text_in_front (Some t) (Some ts) = Some (t ∷ ts)
text_in_front _ _ = None

-- the texts that these are, if each is one
abbrev pub all_texts : List Value → Option (List (List ℕ))
all_texts [] = Some []
all_texts (v ∷ vs) = text_in_front (as_text v) (all_texts vs)

abbrev pub read_texts : List Value → Option Operand
read_texts vs = option_map of_texts (all_texts vs)

abbrev pub read_choices : Value → Option Operand
read_choices (tuple_value vs) = read_texts (values_in vs)
read_choices v = read_texts (v ∷ [])

abbrev pub read_as : Store → Kind → Value → Option Operand
read_as store no_kind v = Some absent
read_as store text_kind v = read_text v
read_as store separator v = read_separator v
read_as store optional_text v = unless_none read_text v
read_as store optional_separator v = unless_none read_separator v
read_as store optional_integer v = unless_none read_integer v
read_as store optional_bool v = unless_none read_bool v
read_as store text_or_texts v = read_choices v
read_as store text_members v = option_and_then read_texts (members_in store v)

-- what the first three arguments are read as
pub record Operands : Type 0 where
  pub first : Operand
  pub second : Operand
  pub third : Operand

pub record Kinds : Type 0 where
  pub first : Kind
  pub second : Kind
  pub third : Kind

-- an argument, or None where there are fewer
abbrev pub value_at : ℕ → List Value → Value
value_at n vs = get_or vs n none_value

abbrev pub three_read : Option Operand → Option Operand → Option Operand → Option Operands
three_read (Some a) (Some b) (Some c) = Some (record { first = a; second = b; third = c })
three_read _ _ _ = None

-- each by its own kind
abbrev pub read_operands : Store → Kinds → List Value → Option Operands
read_operands store ks vs = three_read (read_as store ks.first (value_at 0 vs)) (read_as store ks.second (value_at 1 vs)) (read_as store ks.third (value_at 2 vs))

-- ---- what is taken from an operand

abbrev pub text_in : Operand → List ℕ
text_in (of_text t) = t
text_in _ = []

abbrev pub texts_in : Operand → List (List ℕ)
texts_in (of_texts ts) = ts
texts_in _ = []

abbrev pub bool_in : Operand → Bool
bool_in (of_bool b) = b
bool_in _ = false

-- a number that is given, or this one
abbrev pub integer_or : ℤ → Operand → ℤ
integer_or z (of_integer y) = y
integer_or z _ = z
