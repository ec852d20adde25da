-- Keys, whose tuples stand in so many levels.
use Rattle.star_steps.proofs.Names.{◌≡◌, ℕ, zero, suc, ◌-◌, ◌<◌, Option, None, Some, refl, rules, sym, subst, arith, AreKeys, IsKey, none_value, bool_value, int_value, text_value, tuple_value, Values, no_values, a_value, AreKeysWithin, IsKeyWithin, first_offence, key_offence}
use Rattle.code_spec.specs.Options.{or_else}
use Rattle.value_spec.specs.Values.{Value, range_value, struct_value, fragment_value, list_value, dict_value, function_value, module_value, native_value}

mutual
  pub is_key : (n : ℕ) (v : Value) → IsKeyWithin n v → IsKey v
  is_key n none_value h = tt
  is_key n (bool_value b) h = tt
  is_key n (int_value z) h = tt
  is_key n (text_value t) h = tt
  is_key zero (tuple_value vs) h = absurd h
  is_key (suc n) (tuple_value vs) h = are_keys n vs h
  is_key n _ h = absurd h

  are_keys : (n : ℕ) (vs : Values) → AreKeysWithin n vs → AreKeys vs
  are_keys n no_values h = tt
  are_keys n (a_value v vs) h = (is_key n v h.0, are_keys n vs h.1)

-- the members of a tuple stand in one level less
pub has_level : (n : ℕ) (vs : Values) → IsKeyWithin n (tuple_value vs) → 0 < n
has_level zero vs h = absurd h
has_level (suc n) vs h = omega arith

pub level_less : (n : ℕ) (vs : Values) → IsKeyWithin n (tuple_value vs) → AreKeysWithin (n - 1) vs
level_less zero vs h = absurd h
level_less (suc n) vs h = let same : suc n - 1 ≡ n = omega arith in subst (λ m. AreKeysWithin m vs) (sym same) h

-- ---- no offence

neither : {A : Type 0} (a b : Option A) → or_else a b ≡ None → (a ≡ None) × (b ≡ None)
neither None b e = (refl, e)
neither (Some x) b e = absurd (search (rules, e))

-- what has no offence is a key, whose tuples stand in so many levels
mutual
  pub within_unless_offence : (n : ℕ) (v : Value) → key_offence n v ≡ None → IsKeyWithin n v
  within_unless_offence n none_value e = tt
  within_unless_offence n (bool_value b) e = tt
  within_unless_offence n (int_value z) e = tt
  within_unless_offence n (text_value t) e = tt
  within_unless_offence zero (tuple_value vs) e = absurd (search (rules, e))
  within_unless_offence (suc n) (tuple_value vs) e = all_within_unless_offence n vs e
  within_unless_offence n (range_value start stop step) e = absurd (search (rules, e))
  within_unless_offence n (struct_value fs) e = absurd (search (rules, e))
  within_unless_offence n (fragment_value k cs) e = absurd (search (rules, e))
  within_unless_offence n (list_value r) e = absurd (search (rules, e))
  within_unless_offence n (dict_value r) e = absurd (search (rules, e))
  within_unless_offence n (function_value r) e = absurd (search (rules, e))
  within_unless_offence n (module_value x fs) e = absurd (search (rules, e))
  within_unless_offence n (native_value x) e = absurd (search (rules, e))

  all_within_unless_offence : (n : ℕ) (vs : Values) → first_offence n vs ≡ None → AreKeysWithin n vs
  all_within_unless_offence n no_values e = tt
  all_within_unless_offence n (a_value v vs) e =
      let k = neither (key_offence n v) (first_offence n vs) e in
      (within_unless_offence n v k.0, all_within_unless_offence n vs k.1)
