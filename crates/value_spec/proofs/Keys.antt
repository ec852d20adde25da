-- A key is equal to itself; a value without an offence is a key.
use Rattle.std.proofs.Common.{◌≡◌, ℕ, zero, suc, ℤ, Bool, true, false, ◌&&◌, List, Option, Some, None, bytes_eq, refl, ap, ◌∙◌, rules}
use Rattle.std.proofs.lemmas.Slice.Eq.{bytes_eq-Decides}
use Rattle.ytt_base.specs.Trees.{same_bool, same_integer}
use Rattle.value_spec.specs.Values.{Value, none_value, bool_value, int_value, text_value, tuple_value, range_value, struct_value, fragment_value, list_value, dict_value, function_value, module_value, native_value, Values, no_values, a_value}
use Rattle.code_spec.specs.Options.{or_else}
use Rattle.value_spec.specs.Keys.{same_key, same_keys, IsKey, AreKeys, key_offence, first_offence}

-- ---- equal to itself

same_bool_alike : (b : Bool) → same_bool b b ≡ true
same_bool_alike true = refl
same_bool_alike false = refl

same_integer_alike : (z : ℤ) → same_integer z z ≡ true
same_integer_alike z = search rules

bytes_alike : (t : List ℕ) → bytes_eq t t ≡ true
bytes_alike t = (bytes_eq-Decides t t).1 refl

mutual
  pub same_key_alike : (x : Value) → IsKey x → same_key x x ≡ true
  same_key_alike none_value h = refl
  same_key_alike (bool_value b) h = same_bool_alike b
  same_key_alike (int_value z) h = same_integer_alike z
  same_key_alike (text_value t) h = bytes_alike t
  same_key_alike (tuple_value vs) h = same_keys_alike vs h
  same_key_alike (range_value start stop step) h = absurd h
  same_key_alike (struct_value fs) h = absurd h
  same_key_alike (fragment_value k cs) h = absurd h
  same_key_alike (list_value r) h = absurd h
  same_key_alike (dict_value r) h = absurd h
  same_key_alike (function_value r) h = absurd h
  same_key_alike (module_value x fs) h = absurd h
  same_key_alike (native_value n) h = absurd h

  pub same_keys_alike : (vs : Values) → AreKeys vs → same_keys vs vs ≡ true
  same_keys_alike no_values h = refl
  same_keys_alike (a_value v vs) h = ap (λ b. b && same_keys vs vs) (same_key_alike v h.0) ∙ same_keys_alike vs h.1

-- ---- no offence

neither : {A : Type 0} (a b : Option A) → or_else a b ≡ None → (a ≡ None) × (b ≡ None)
neither None b e = (refl, e)
neither (Some x) b e = absurd (search (rules, e))

mutual
  pub key_unless_offence : (levels : ℕ) (x : Value) → key_offence levels x ≡ None → IsKey x
  key_unless_offence n none_value e = tt
  key_unless_offence n (bool_value b) e = tt
  key_unless_offence n (int_value z) e = tt
  key_unless_offence n (text_value t) e = tt
  key_unless_offence zero (tuple_value vs) e = absurd (search (rules, e))
  key_unless_offence (suc n) (tuple_value vs) e = keys_unless_offence n vs e
  key_unless_offence n (range_value start stop step) e = absurd (search (rules, e))
  key_unless_offence n (struct_value fs) e = absurd (search (rules, e))
  key_unless_offence n (fragment_value k cs) e = absurd (search (rules, e))
  key_unless_offence n (list_value r) e = absurd (search (rules, e))
  key_unless_offence n (dict_value r) e = absurd (search (rules, e))
  key_unless_offence n (function_value r) e = absurd (search (rules, e))
  key_unless_offence n (module_value x fs) e = absurd (search (rules, e))
  key_unless_offence n (native_value x) e = absurd (search (rules, e))

  pub keys_unless_offence : (levels : ℕ) (vs : Values) → first_offence levels vs ≡ None → AreKeys vs
  keys_unless_offence n no_values e = tt
  keys_unless_offence n (a_value v vs) e =
      let k = neither (key_offence n v) (first_offence n vs) e in
      (key_unless_offence n v k.0, keys_unless_offence n vs k.1)
