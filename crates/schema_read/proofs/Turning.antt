-- Types of keys that are read one after another.
use Rattle.std.proofs.Common.{◌≡◌, ℕ, List, Option, Result, Err, refl, sym, ap, ◌∙◌}
use Rattle.ytt_base.specs.declared.fault.Place.{Place}
use Rattle.ytt_base.specs.declared.fault.Stop.{Stop}
use Rattle.ytt_base.specs.Trees.{Scalar}
use Rattle.value_spec.specs.Outcomes.{State, Ending, done, bad, asks, then_do, Computation, give, ◌>>=◌}
use Rattle.star_steps.proofs.Meeting.{meets_same, meets_stop}
use Rattle.star_steps.specs.Meets.{Meets}
use Rattle.schema_check.specs.Places.{and_type}
use Rattle.schema_check.specs.View.{types_of}
use Rattle.schema_check.specs.declared.types.TypePairs as held
use Rattle.schema_spec.specs.Reading.{and_types, named_type, text_key}
use Rattle.schema_spec.specs.Schemas.{Schema, TypePairs, no_types, type_pair}

abbrev Gives : Type 0 → Type 0
Gives A = Computation (Unit {0}) A

abbrev after : (front more : TypePairs) → TypePairs
after no_types more = more
after (type_pair n s front) more = type_pair n s (after front more)

after-none : (front : TypePairs) → after front no_types ≡ front
after-none no_types = refl
after-none (type_pair n s front) = ap (type_pair n s) (after-none front)

after-last : (front more : TypePairs) (n : List ℕ) (s : Schema) → after (and_type front n s) more ≡ after front (type_pair n s more)
after-last no_types more n s = refl
after-last (type_pair m t front) more n s = ap (type_pair m t) (after-last front more n s)

abbrev behind : (front more : TypePairs) → Gives TypePairs
behind front more = give (after front more)

-- what all give, where those before gave this front and left this state, and more is what the others give
abbrev pub SoFar : Ending (Unit {0}) TypePairs → (front : TypePairs) → (more : Gives TypePairs) → State (Unit {0}) → Type 0
SoFar all front more s = all ≡ then_do (more s) (behind front)

started : (r : Ending (Unit {0}) TypePairs) → r ≡ then_do r (behind no_types)
started (done ms s) = refl
started (bad f s) = refl
started (asks q s k) = λ i. asks q s (λ got t. started (k got t) i)

-- none is read yet
pub begin : (front : TypePairs) (more : Gives TypePairs) (s : State (Unit {0})) → front ≡ no_types → SoFar (more s) front more s
begin front more s e = started (more s) ∙ ap (λ f. then_do (more s) (behind f)) (sym e)

regrouped : (front : TypePairs) (n : List ℕ) (t : Schema) (r : Ending (Unit {0}) TypePairs) → then_do (then_do r (λ ms. give (type_pair n t ms))) (behind front) ≡ then_do r (behind (and_type front n t))
regrouped front n t (done ms s) = ap (λ all. done all s) (sym (after-last front ms n t))
regrouped front n t (bad f s) = refl
regrouped front n t (asks q s k) = λ i. asks q s (λ got u. regrouped front n t (k got u) i)

module _ (all : Ending (Unit {0}) TypePairs) (front : TypePairs) (first : Gives (List ℕ × Schema)) (more : Gives TypePairs) (s : State (Unit {0})) (h : SoFar all front (and_types first more) s) where
  -- one more is read
  pub next : (n : List ℕ) (t : Schema) (u : State (Unit {0})) → first s ≡ done (n, t) u → SoFar all (and_type front n t) more u
  next n t u e = h ∙ ap (λ o. then_do (then_do o (λ e. more >>= λ ms. give (type_pair e.0 e.1 ms))) (behind front)) e ∙ regrouped front n t (more u)

  -- one is refused
  pub stop : {A : Type 0} (view : A → List ℕ × Schema) (x : Stop) (u : State (Unit {0})) (r : Result held.TypePairs Stop) → Meets view (Err x) u (first s) → r ≡ Err x → Meets types_of r u all
  stop view x u r m e =
      meets_same types_of r u _ all h
      (meets_stop types_of types_of x u (and_types first more s) (behind front) r (meets_stop view types_of x u (first s) (λ e. more >>= λ ms. give (type_pair e.0 e.1 ms)) (Err x) m refl) e)

-- all are read
pub finish : (all : Ending (Unit {0}) TypePairs) (front : TypePairs) (s : State (Unit {0})) → SoFar all front (give no_types) s → all ≡ done front s
finish all front s h = h ∙ ap (λ ms. done ms s) (after-none front)

-- ---- a key with its type

module _ (p : Place) (x : Option Scalar) (typed : Gives Schema) (s : State (Unit {0})) where
  pub named-done : (n : List ℕ) (t : Schema) (v u : State (Unit {0})) → text_key p x s ≡ done n v → typed v ≡ done t u → named_type p x typed s ≡ done (n, t) u
  named-done n t v u e f = ap (λ o. then_do o (λ n. typed >>= λ t. give (n, t))) e ∙ ap (λ o. then_do o (λ t. give (n, t))) f

  pub key-stop : {A B : Type 0} (view : A → List ℕ) (onto : B → List ℕ × Schema) (e : Stop) (u : State (Unit {0})) → Meets view (Err e) u (text_key p x s) → Meets onto (Err e) u (named_type p x typed s)
  key-stop view onto e u m = meets_stop view onto e u (text_key p x s) (λ n. typed >>= λ t. give (n, t)) (Err e) m refl

  pub type-stop : {A B : Type 0} (view : A → Schema) (onto : B → List ℕ × Schema) (n : List ℕ) (v u : State (Unit {0})) (e : Stop) → text_key p x s ≡ done n v → Meets view (Err e) u (typed v) → Meets onto (Err e) u (named_type p x typed s)
  type-stop view onto n v u e k m =
      meets_same onto (Err e) u _ (named_type p x typed s) (ap (λ o. then_do o (λ n. typed >>= λ t. give (n, t))) k) (meets_stop view onto e u (typed v) (λ t. give (n, t)) (Err e) m refl)

abbrev pub as_entry : List ℕ × Schema → List ℕ × Schema
as_entry e = e
