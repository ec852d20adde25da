-- What is asked of keys, and what is wanted then.
use Rattle.std.proofs.Math.Bool.{and-true}
use Rattle.star_steps.proofs.Names.{◌≡◌, ℕ, zero, suc, ◌/◌, ◌<◌, ◌≤◌, ◌==◌, Bool, true, false, cond, ◌&&◌, List, [], ◌∷◌, Some, Ok, Err, get_or, length, refl, sym, ap, ◌∙◌, arith, subst, ne_eqb, length-map, fault_at, Place, Stop, are_comparable, Gives, state_in, grows_same, Owns, View, value_of, values_of, then_assoc, Computation, Ending, State, done, fail, need, or_fail, paid_by, reads, take_steps, then_do, ◌>>=◌}
use Rattle.ytt_base.specs.declared.fault.FaultKind.TheVariants as kind
use Rattle.ytt_base.specs.declared.fault.Stop.TheVariants as stop
use Rattle.builtin_spec.specs.Sorting.{Wanted, all_sized, are_of_one_kind, binary_digits, chosen, digits_within, in_order, steps_for, wanted_row}
use Rattle.star_compare.specs.Alike.{measure}
use Rattle.star_values.specs.declared.value.Value as held
use Rattle.value_spec.specs.Store.{first_of}
use Rattle.value_spec.specs.Values.{Value}

abbrev S : Type 0
S = State (Unit {0})

-- ---- kinds

-- a value and the next one, or itself where there is none
one_kind_next : (a : View) (v : held.Value) (vs : List held.Value) → are_of_one_kind (values_of a (v ∷ vs)) ≡ (are_comparable (value_of a v) (value_of a (get_or vs 0 v)) && are_of_one_kind (values_of a vs))
one_kind_next a v [] = sym (and-true (are_comparable (value_of a v) (value_of a v)))
one_kind_next a v (w ∷ ws) = refl

pub kinds_told : (a : View) (vs more : List held.Value) (v w : held.Value) (told : Bool) → vs ≡ v ∷ more → w ≡ get_or more 0 v → told ≡ are_comparable (value_of a v) (value_of a w) → are_of_one_kind (values_of a vs) ≡ (told && are_of_one_kind (values_of a more))
kinds_told a vs more v w told is next e =
    ap (λ vs. are_of_one_kind (values_of a vs)) is ∙ one_kind_next a v more
    ∙ ap (λ b. b && are_of_one_kind (values_of a more)) (sym (e ∙ ap (λ w. are_comparable (value_of a v) (value_of a w)) next))

pub none_told : (a : View) (vs : List held.Value) → length vs ≡ 0 → are_of_one_kind (values_of a vs) ≡ true
none_told a [] e = refl
none_told a (v ∷ vs) e = absurd (omega arith)

-- ---- sizes

pub sizes_begin : (p : Place) (v : Value) (vs : List Value) (s : S) → all_sized p (v ∷ vs) s ≡ then_do (measure 6 100 p v s) (λ u. all_sized p vs)
unfolding measure
sizes_begin p v vs s = refl

-- ---- binary digits

digits_enough : (b c n : ℕ) → n ≤ b → n ≤ c → digits_within b n ≡ digits_within c n
digits_enough zero zero n h k = refl
digits_enough zero (suc c) zero h k = refl
digits_enough (suc b) zero zero h k = refl
digits_enough zero (suc c) (suc n) h k = absurd (omega arith)
digits_enough (suc b) zero (suc n) h k = absurd (omega arith)
digits_enough (suc b) (suc c) n h k = ap (λ m. cond (n == 0) 0 (suc m)) (digits_enough b c (n / 2) (omega arith) (omega arith))

pub digits_half : (n : ℕ) → 0 < n → binary_digits n ≡ suc (binary_digits (n / 2))
digits_half zero h = absurd (omega arith)
digits_half (suc n) h = ap (λ t. cond t 0 (suc (digits_within n (suc n / 2)))) (ne_eqb (suc n) 0 (λ e. omega arith)) ∙ ap suc (digits_enough n (suc n / 2) (suc n / 2) (omega arith) (omega arith))

few_within : (b n : ℕ) → digits_within b n ≤ b
few_within zero n = omega arith
few_within (suc b) n = let h = few_within b (n / 2) in elim (n == 0) as (λ t. cond t 0 (suc (digits_within b (n / 2))) ≤ suc b) [ true ↦ omega arith | false ↦ omega arith ]

pub digits_few : (n : ℕ) → binary_digits n ≤ n
digits_few n = few_within n n

-- ---- what is wanted

abbrev rest_of : Place → Wanted → (cost : ℕ) → (vs ks : List Value) → Computation (Unit {0}) Value
rest_of p w n vs ks = paid_by n p (reads (λ store. in_order w.descending store vs ks)) >>= chosen p w.first_alone

abbrev chosen_of : Place → Wanted → (vs ks : List Value) → Unit {0} → Computation (Unit {0}) Value
chosen_of p w vs ks u r = chosen p w.first_alone (in_order w.descending r.store vs ks) r

-- what was told of the kinds
module _ (p : Place) (w : Wanted) (a : View) (ms hs : List held.Value) (s : S) (told : Bool) (kinds : told ≡ are_of_one_kind (values_of a hs)) where
  abbrev members : List Value
  members = values_of a ms

  abbrev keys : List Value
  keys = values_of a hs

  pub kinds_row : (t : Bool) → told ≡ t → wanted_row p w members keys s ≡ then_do (need kind.ValueKind p t s) (λ u. all_sized p keys >>= λ z. rest_of p w (steps_for w (length members)) members keys)
  kinds_row t e = ap (λ b. then_do (need kind.ValueKind p b s) (λ u. all_sized p keys >>= λ z. rest_of p w (steps_for w (length members)) members keys)) (sym kinds ∙ e)

  pub sized_row : told ≡ true → (t : S) (cost : ℕ) → all_sized p keys s ≡ done tt t → cost ≡ steps_for w (length ms) → wanted_row p w members keys s ≡ then_do (take_steps cost p t) (chosen_of p w members keys)
  sized_row e t cost h is =
      kinds_row true e ∙ ap (λ o. then_do o (λ z. rest_of p w (steps_for w (length members)) members keys)) h
      ∙ ap (λ n. rest_of p w n members keys t) (ap (steps_for w) (length-map ms (value_of a)) ∙ sym is)
      ∙ then_assoc (take_steps cost p t) (λ u. reads (λ store. in_order w.descending store members keys)) (chosen p w.first_alone)

  pub paid_row : told ≡ true → (t r : S) (cost : ℕ) (alone : Bool) → all_sized p keys s ≡ done tt t → cost ≡ steps_for w (length ms) → take_steps cost p t ≡ done tt r → w.first_alone ≡ alone → wanted_row p w members keys s ≡ chosen p alone (in_order w.descending r.store members keys) r
  paid_row e t r cost alone h is k so = sized_row e t cost h is ∙ ap (λ o. then_do o (chosen_of p w members keys)) k ∙ ap (λ b. chosen p b (in_order w.descending r.store members keys) r) so

pub gives_fail : (p : Place) (a : View) (n : ℕ) (o : Ending (Unit {0}) Value) (e : Stop) → o ≡ fail kind.ValueKind p (state_in a n) → e ≡ stop.Fault (fault_at kind.ValueKind p) → Gives o (Err e) a a n
gives_fail p a n o e same is = subst (λ e. Gives o (Err e) a a n) (sym is) (record { meaning = same; owns = tt; grows = grows_same a })

pub one_chosen : (p : Place) (vs : List Value) (a : View) (n : ℕ) (v : held.Value) → first_of vs ≡ Some (value_of a v) → Owns a v → Gives (chosen p true vs (state_in a n)) (Ok v) a a n
one_chosen p vs a n v first owned = record { meaning = ap (λ o. or_fail kind.ValueKind p o (state_in a n)) first; owns = owned; grows = grows_same a }
