-- Laws of computations: one after another, and after steps.
use Rattle.std.proofs.Common.{◌≡◌, refl}
use Rattle.ytt_base.specs.declared.fault.Place.{Place}
use Rattle.value_spec.specs.Outcomes.{State, Ending, done, bad, asks, then_do, Computation, ◌>>=◌, give, take_steps, paid}

pub then_assoc : {H A B C : Type 0} (r : Ending H A) (f : A → Computation H B) (g : B → Computation H C) → then_do (then_do r f) g ≡ then_do r (λ a s. then_do (f a s) g)
then_assoc (done a s) f g = refl
then_assoc (bad e s) f g = refl
then_assoc (asks q s k) f g = λ i. asks q s (λ got t. then_assoc (k got t) f g i)

-- a value that is given on
pub then_give : {H A : Type 0} (r : Ending H A) → r ≡ then_do r give
then_give (done a s) = refl
then_give (bad e s) = refl
then_give (asks q s k) = λ i. asks q s (λ got t. then_give (k got t) i)

pub then_ext : {H A B : Type 0} (r : Ending H A) (f g : A → Computation H B) → ((a : A) (s : State H) → f a s ≡ g a s) → then_do r f ≡ then_do r g
then_ext (done a s) f g h = h a s
then_ext (bad e s) f g h = refl
then_ext (asks q s k) f g h = λ i. asks q s (λ got t. then_ext (k got t) f g h i)

pub paid_then : {H A B : Type 0} (p : Place) (m : Computation H A) (f : A → Computation H B) (s : State H) → then_do (paid p m s) f ≡ paid p (m >>= f) s
paid_then p m f s = then_assoc (take_steps 1 p s) (λ u. m) f

pub paid_ext : {H A : Type 0} (p : Place) (m m' : Computation H A) (s : State H) → ((s : State H) → m s ≡ m' s) → paid p m s ≡ paid p m' s
paid_ext p m m' s h = then_ext (take_steps 1 p s) (λ u. m) (λ u. m') (λ u s. h s)
