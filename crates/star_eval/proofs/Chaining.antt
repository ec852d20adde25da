-- Computations behind one another.
use Rattle.std.proofs.Common.{◌≡◌, refl, sym}
use Rattle.star_spec.specs.Flow.{Flow, Part, go_on, on, out}
use Rattle.value_spec.proofs.Computations.{then_assoc}
use Rattle.value_spec.specs.Outcomes.{Ending, Computation, asks, done, bad, give, then_do, ◌>>=◌}
use Rattle.value_spec.specs.Values.{none_value}
use Rattle.star_eval.specs.Meets.{Here}

-- one computation behind two others
pub chained : {H A B C : Type 0} (m : Computation H A) (f : A → Computation H B) (g : B → Computation H C) → ((m >>= f) >>= g) ≡ (m >>= λ a. f a >>= g)
chained m f g = λ i s. then_assoc (m s) f g i

-- what gives None where nothing is given, and then what follows
pub none_then : {B : Type 0} (r : Ending Here Here) (f : Computation Here B) → then_do (then_do r (λ u. give none_value)) (λ v. f) ≡ then_do r (λ u. f)
none_then (done u s) f = refl
none_then (bad e s) f = refl
none_then (asks q s k) f = λ i. asks q s (λ got t. none_then (k got t) f i)

-- two computations, and then what gives None where nothing is given
pub index_goes : {X Y : Type 0} (r : Ending Here X) (f : X → Computation Here Y) (g : X → Y → Computation Here Here) →
    then_do (then_do r (λ x t. then_do (f x t) (g x))) (λ u. give none_value) ≡ then_do r (λ x t. then_do (f x t) (λ y t. then_do (g x y t) (λ u. give none_value)))
index_goes (done x s) f g = then_assoc (f x s) (g x) (λ u. give none_value)
index_goes (bad e s) f g = refl
index_goes (asks q s k) f g = λ i. asks q s (λ got t. index_goes (k got t) f g i)

-- the end of a part behind which nothing comes
pub nothing_behind : {K : Type 0} (r : Ending Here (Flow K)) (b : Part Here K) → ((k : K) → b k ≡ give (on k)) → r ≡ then_do r (go_on b)
nothing_behind (done (on k) s) b h = λ i. sym (h k) i s
nothing_behind (done (out w k) s) b h = refl
nothing_behind (bad e s) b h = refl
nothing_behind (asks q s k) b h = λ i. asks q s (λ got t. nothing_behind (k got t) b h i)
