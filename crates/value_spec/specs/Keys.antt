-- The keys of dicts: which values are keys, when two are equal, their size; and pairs by their keys.
use Rattle.std.specs.Prelude.{ℕ, zero, suc, ◌/◌, Bool, true, false, ◌&&◌, List, [], ◌∷◌, Option, Some, None, if◌then◌else◌, bytes_eq}
use Rattle.ytt_base.specs.declared.fault.FaultKind.{FaultKind}
use Rattle.ytt_base.specs.declared.fault.FaultKind.TheVariants as kind
use Rattle.ytt_base.specs.Trees.{same_bool, same_integer}
use Rattle.value_spec.specs.Values.{Value, none_value, bool_value, int_value, text_value, tuple_value, Values, no_values, a_value}
use Rattle.code_spec.specs.Options.{or_else, further}

-- the keys are equal: the kind counts too
abbrev mutual
  pub same_key : Value → Value → Bool
  same_key none_value none_value = true
  same_key (bool_value a) (bool_value b) = same_bool a b
  same_key (int_value a) (int_value b) = same_integer a b
  same_key (text_value a) (text_value b) = bytes_eq a b
  same_key (tuple_value a) (tuple_value b) = same_keys a b
  same_key _ _ = false

  pub same_keys : Values → Values → Bool
  same_keys no_values no_values = true
  same_keys (a_value a more) (a_value b others) = same_key a b && same_keys more others
  same_keys _ _ = false

-- a value that may be a key: None, a bool, an integer, a text, or a tuple of such
abbrev mutual
  pub IsKey : Value → Type 0
  IsKey none_value = Unit {0}
  IsKey (bool_value b) = Unit {0}
  IsKey (int_value z) = Unit {0}
  IsKey (text_value t) = Unit {0}
  IsKey (tuple_value vs) = AreKeys vs
  IsKey _ = ⊥

  pub AreKeys : Values → Type 0
  AreKeys no_values = Unit {0}
  AreKeys (a_value v vs) = IsKey v × AreKeys vs

-- why a value is no key, where so many tuples may stand in one another
abbrev mutual
  pub key_offence : (levels : ℕ) → Value → Option FaultKind
  key_offence n none_value = None
  key_offence n (bool_value b) = None
  key_offence n (int_value z) = None
  key_offence n (text_value t) = None
  key_offence zero (tuple_value vs) = Some kind.TooDeep
  key_offence (suc n) (tuple_value vs) = first_offence n vs
  key_offence n _ = Some kind.ValueKind

  pub first_offence : (levels : ℕ) → Values → Option FaultKind
  first_offence n no_values = None
  first_offence n (a_value v vs) = or_else (key_offence n v) (first_offence n vs)

-- the steps that a text of so many bytes takes
abbrev pub text_cost : ℕ → ℕ
text_cost bytes = bytes / 16

-- ---- pairs by their keys

-- where the first pair with this key stands
abbrev pub place_of_key : Value → List (Value × Value) → Option ℕ
place_of_key k [] = None
place_of_key k (p ∷ ps) = if same_key p.0 k then Some 0 else further (place_of_key k ps)
