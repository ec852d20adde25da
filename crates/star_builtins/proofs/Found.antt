-- What is found, or another value; and new lists.
use Rattle.std.proofs.Common.{◌≡◌, ℕ, suc, Bool, true, false, List, [], ◌∷◌, length, Option, Some, None, Ok, is_some, refl, ap, sym, ◌∙◌}
use Rattle.ytt_base.specs.declared.fault.Place.{Place}
use Rattle.builtin_spec.specs.Attributes.{or_missing}
use Rattle.builtin_spec.specs.Builtins.{attribute_or, names_of}
use Rattle.code_spec.specs.Code.{Name}
use Rattle.object_arena.specs.Made.{MakesObject}
use Rattle.star_steps.specs.Meets.{Gives, state_in}
use Rattle.star_values.specs.View.{View, fields_in, values_of}
use Rattle.star_values.specs.declared.value.NamedValue.{NamedValue}
use Rattle.star_values.specs.declared.value.Value as held
use Rattle.value_spec.specs.Outcomes.{State, done, new_list, paid_by, reads, take_steps, then_do, ◌>>=◌}
use Rattle.value_spec.specs.Store.{with_object}
use Rattle.value_spec.specs.Values.{Store, Value, list_value, of_list}

module _ (p : Place) (x : Name) (d : Value) (s : State (Unit {0})) where
  pub there : (given : Bool) (o : Option Value) → is_some o ≡ true → attribute_or p x given d o s ≡ or_missing p x o s
  there given None e = cc
  there given (Some v) e = refl

  pub not_given : (o : Option Value) → attribute_or p x false d o s ≡ or_missing p x o s
  not_given None = refl
  not_given (Some v) = refl

  pub otherwise : (o : Option Value) → is_some o ≡ false → attribute_or p x true d o s ≡ done d s
  otherwise None e = refl
  otherwise (Some v) e = cc

-- a new list of these values
pub listed : (a b : View) (k : ℕ) (ws : List Value) (vs : List held.Value) (v : held.Value) → ws ≡ values_of a vs → MakesObject (list_value (length a.store)) (of_list (values_of a vs)) (Ok v) a b → Gives (new_list ws (state_in a k)) (Ok v) a b k
listed a b k ws vs v e m = record {
  meaning = λ i. done (sym m.value i) (record { store = (ap (λ ws. with_object (of_list ws) a.store) e ∙ sym m.store) i; steps = k; host = tt {0} });
  owns = m.owns;
  grows = m.grows;
}

-- as many names as fields
pub names_count : (seen : List Value) (fs : List NamedValue) → length (names_of (fields_in seen fs)) ≡ length fs
names_count seen [] = refl
names_count seen (f ∷ fs) = ap suc (names_count seen fs)

-- a new list of what the store shows, after steps that were taken
pub paid_listed : (p : Place) (f : Store → List Value) (m count : ℕ) (a b : View) (n k : ℕ) (os : List Value) → m ≡ count → take_steps count p (state_in a n) ≡ done tt (state_in a k) → b.store ≡ a.store → f b.store ≡ os → paid_by m p (reads f >>= new_list) (state_in a n) ≡ new_list os (state_in b k)
paid_listed p f m count a b n k os same taken store is =
    ap (λ m. then_do (take_steps m p (state_in a n)) (λ (u : Unit {0}). reads f >>= new_list)) same
    ∙ ap (λ o. then_do o (λ (u : Unit {0}). reads f >>= new_list)) taken
    ∙ (λ i. new_list (f (sym store i)) (record { store = sym store i; steps = k; host = tt }))
    ∙ ap (λ vs. new_list vs (state_in b k)) is
