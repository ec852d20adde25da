-- What takes the size of a key, and isn't refused, is a key whose tuples stand in so many levels.
use Rattle.star_steps.proofs.Names.{◌≡◌, ℕ, zero, suc, Result, Ok, Err, OnOk, refl, Place, Stop, State, Ending, done, bad, asks, then_do, Computation, take_steps, none_value, bool_value, int_value, text_value, tuple_value, range_value, struct_value, fragment_value, list_value, dict_value, function_value, module_value, native_value, Values, no_values, a_value, values_in, each_sized, key_sized, measured_by, measured_within, IsKeyWithin, AreKeysWithin, Meets, as_is}
use Rattle.value_spec.specs.Values.{Value}
use Rattle.star_compare.specs.Alike.{measure}

-- what ends well went on from a value
went_on : {A B : Type 0} (o : Ending (Unit {0}) A) (k : A → Computation (Unit {0}) B) (b : B) (t : State (Unit {0})) → then_do o k ≡ done b t → (r : A × State (Unit {0})) × (o ≡ done r.0 r.1) × (k r.0 r.1 ≡ done b t)
went_on (done a s) k b t e = ((a, s), refl, e)
went_on (bad f s) k b t e = cc
went_on (asks q s n) k b t e = cc

mutual
  key_within : (n : ℕ) (p : Place) (v : Value) (s t : State (Unit {0})) (u : Unit {0}) → measured_by 5 (measured_within 5 n p) p v s ≡ done u t → IsKeyWithin n v
  key_within n p none_value s t u e = tt
  key_within n p (bool_value b) s t u e = tt
  key_within n p (int_value z) s t u e = tt
  key_within n p (text_value w) s t u e = tt
  key_within zero p (tuple_value vs) s t u e = cc
  key_within (suc n) p (tuple_value vs) s t u e = keys_within n p vs s t u e
  key_within n p (range_value start stop step) s t u e = cc
  key_within n p (struct_value fs) s t u e = cc
  key_within n p (fragment_value k cs) s t u e = cc
  key_within n p (list_value r) s t u e = cc
  key_within n p (dict_value r) s t u e = cc
  key_within n p (function_value r) s t u e = cc
  key_within n p (module_value x fs) s t u e = cc
  key_within n p (native_value x) s t u e = cc

  keys_within : (n : ℕ) (p : Place) (vs : Values) (s t : State (Unit {0})) (u : Unit {0}) → each_sized (measured_by 5 (measured_within 5 n p) p) p (values_in vs) s ≡ done u t → AreKeysWithin n vs
  keys_within n p no_values s t u e = tt
  keys_within n p (a_value v vs) s t u e =
      let k = λ (u : Unit {0}). each_sized (measured_by 5 (measured_within 5 n p) p) p (values_in vs) in
      let m = λ (u : Unit {0}). measured_by 5 (measured_within 5 n p) p v in
      let first = went_on (then_do (take_steps 1 p s) m) k u t e in
      let inner = went_on (take_steps 1 p s) m first.0.0 first.0.1 first.1 in
      (key_within n p v inner.0.1 first.0.1 first.0.0 inner.2, keys_within n p vs first.0.1 t u first.2)

-- the size of a key, by the levels
pub sized_key : (p : Place) (v : Value) (s : State (Unit {0})) → key_sized p v s ≡ measure 5 100 p v s
unfolding measure
sized_key p v s = refl

pub key_if_sized : (p : Place) (v : Value) (s t : State (Unit {0})) (r : Result (Unit {0}) Stop) → Meets as_is r t (measure 5 100 p v s) → OnOk r (IsKeyWithin 100 v)
unfolding measure
key_if_sized p v s t (Ok u) e = key_within 100 p v s t u e
key_if_sized p v s t (Err stop) e = tt
