-- Calls that may ask for keys.
use Rattle.std.proofs.Common.{◌≡◌, ℕ, ◌≤◌, Bool, true, List, [], ◌∷◌, length, Result, Err, Option, None, Some, if◌then◌else◌, arith, refl, sym, ap, subst, ◌∙◌}
use Rattle.ytt_base.specs.declared.fault.Place.{Place}
use Rattle.ytt_base.specs.declared.fault.Stop.{Stop}
use Rattle.ytt_base.specs.declared.fault.FaultKind.TheVariants as kind
use Rattle.builtin_spec.specs.Sorting.{Keyed, Wanted, candidates, first_row, is_key_function, key_alone, keyed_by}
use Rattle.star_steps.specs.Meets.{Meets, state_in}
use Rattle.star_steps.proofs.Meeting.{meets_same, meets_stop, tuple_members}
use Rattle.star_values.proofs.Growing.{grows_same}
use Rattle.star_values.specs.View.{View, fields_in}
use Rattle.star_values.specs.declared.value.NamedValue.{NamedValue}
use Rattle.value_spec.specs.Outcomes.{Computation, Ending, done, need, or_fail, then_do, ◌>>=◌}
use Rattle.value_spec.specs.Members.{is_empty}
use Rattle.value_spec.specs.Values.{Fields, Value, arguments, values_from}
use Rattle.star_builtins.specs.Asked.{GivesAsked, asked_in}
use Rattle.star_builtins.specs.View.{Here}
use Rattle.star_builtins.specs.declared.asked.Asked.{Asked}

-- ---- how they end

-- the same row
pub asks_same : (m o : Computation Here Keyed) (r : Result Asked Stop) (a b : View) (n k : ℕ) → o (state_in a n) ≡ m (state_in a n) → GivesAsked m r a b n k → GivesAsked o r a b n k
asks_same m o r a b n k e g = record { meaning = meets_same (asked_in b) r (state_in b k) _ _ e g.meaning; owns = g.owns; grows = g.grows }

-- a refusal is the end of all that would follow
pub asks_stop : {A B : Type 0} (view : A → B) (e : Stop) (a : View) (n k : ℕ) (o : Ending Here B) (f : B → Computation Here Keyed) (r : Result Asked Stop) (m : Computation Here Keyed) →
    m (state_in a n) ≡ then_do o f → Meets view (Err e) (state_in a k) o → r ≡ Err e → GivesAsked m r a a n k
asks_stop view e a n k o f r m same stopped is = subst (λ r. GivesAsked m r a a n k) (sym is) (record {
  meaning = meets_same (asked_in a) (Err e) (state_in a k) _ _ same (meets_stop view (asked_in a) e (state_in a k) o f (Err e) stopped refl);
  owns = tt;
  grows = grows_same a;
})

-- ---- the least and the greatest

-- more names than one
pub many_names : (seen : List Value) (ns : List NamedValue) → 2 ≤ length ns → key_alone (fields_in seen ns) ≡ None
many_names seen [] h = absurd (omega (arith, h))
many_names seen (m ∷ []) h = absurd (omega (arith, h))
many_names seen (m ∷ n ∷ ns) h = refl

abbrev pub first_key : List Value → Fields → Option Value
first_key vs fs = if is_empty vs then None else key_alone fs

-- the key and the members are there
pub first_goes : (d : Bool) (p : Place) (vs : List Value) (fs : Fields) (a : View) (n : ℕ) (k : Value) (ms : List Value) → Some k ≡ first_key vs fs → is_key_function k ≡ true → candidates p vs (state_in a n) ≡ done ms (state_in a n) →
    first_row d p (arguments (values_from vs) fs) (state_in a n) ≡ keyed_by p (record { first_alone = true; descending = d }) k ms (state_in a n)
first_goes d p vs fs a n k ms key called there =
    ap row (tuple_members (values_from vs) vs refl)
    ∙ ap (λ o. then_do (or_fail kind.ArgBind p o (state_in a n)) (behind vs)) (sym key)
    ∙ ap (λ b. then_do (need kind.ValueKind p b (state_in a n)) (λ (u : Unit {0}). candidates p vs >>= keyed_by p w k)) called
    ∙ ap (λ o. then_do o (keyed_by p w k)) there
  where
    w : Wanted
    w = record { first_alone = true; descending = d }

    behind : List Value → Value → Computation Here Keyed
    behind vs k = need kind.ValueKind p (is_key_function k) >>= λ (u : Unit {0}). candidates p vs >>= keyed_by p w k

    row : List Value → Ending Here Keyed
    row vs = then_do (or_fail kind.ArgBind p (first_key vs fs) (state_in a n)) (behind vs)
