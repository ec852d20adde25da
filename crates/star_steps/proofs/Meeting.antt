-- How computations end that go on from others.
use Rattle.std.proofs.Common.{◌≡◌, ℕ, List, [], ◌∷◌, Result, Err, IfOk, refl, sym, ap, subst, ◌∙◌}
use Rattle.ytt_base.specs.declared.fault.Stop.{Stop}
use Rattle.ytt_base.specs.declared.fault.Stop.TheVariants as stop
use Rattle.value_spec.specs.Outcomes.{State, Ending, then_do, Computation}
use Rattle.value_spec.specs.Values as plain
use Rattle.star_values.specs.Owns.{Owns}
use Rattle.star_values.specs.View.{View, members_in, value_of}
use Rattle.star_values.specs.declared.value.Value.{Value}
use Rattle.star_values.proofs.Growing.{grows_same}
use Rattle.star_steps.specs.Meets.{Meets, Gives, state_in}

-- the same ending
pub meets_same : {A B : Type 0} (view : A → B) (r : Result A Stop) (s : State (Unit {0})) (o p : Ending (Unit {0}) B) → p ≡ o → Meets view r s o → Meets view r s p
meets_same view r s o p e m = subst (Meets view r s) (sym e) m

pub gives_same : (o p : Ending (Unit {0}) plain.Value) (r : Result Value Stop) (a b : View) (n : ℕ) → p ≡ o → Gives o r a b n → Gives p r a b n
gives_same o p r a b n e g = subst (λ o. Gives o r a b n) (sym e) g

-- a refusal is the end of all that would follow
pub meets_stop : {A B C D : Type 0} (view : A → B) (onto : C → D) (e : Stop) (s : State (Unit {0})) (o : Ending (Unit {0}) B) (k : B → Computation (Unit {0}) D) (r : Result C Stop) → Meets view (Err e) s o → r ≡ Err e → Meets onto r s (then_do o k)
meets_stop view onto (stop.Fault f) s o k r m e = subst (λ r. Meets onto r s (then_do o k)) (sym e) (ap (λ o. then_do o k) m)
meets_stop view onto stop.Memory s o k r m e = subst (λ r. Meets onto r s (then_do o k)) (sym e) tt

pub gives_stop : {A B : Type 0} (view : A → B) (e : Stop) (a : View) (n : ℕ) (o : Ending (Unit {0}) B) (k : B → Computation (Unit {0}) plain.Value) (r : Result Value Stop) (p : Ending (Unit {0}) plain.Value) →
    p ≡ then_do o k → Meets view (Err e) (state_in a n) o → r ≡ Err e → Gives p r a a n
gives_stop view e a n o k r p same m is = subst (λ p. Gives p r a a n) (sym same) (record {
  meaning = meets_stop view (value_of a) e (state_in a n) o k r m is;
  owns = subst (λ r. IfOk r (Owns a)) (sym is) tt;
  grows = grows_same a;
})

-- ---- tuples

members_back : (vs : List plain.Value) → plain.values_in (plain.values_from vs) ≡ vs
members_back [] = refl
members_back (v ∷ vs) = ap (λ l. v ∷ l) (members_back vs)

-- the members of a value that is such a tuple
pub tuple_members : (ms : plain.Values) (vs : List plain.Value) → plain.tuple_value ms ≡ plain.tuple_value (plain.values_from vs) → plain.values_in ms ≡ vs
tuple_members ms vs e = ap plain.values_in (ap members_in e) ∙ members_back vs
