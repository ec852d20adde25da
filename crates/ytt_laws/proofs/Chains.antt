-- Chains of outcomes: what is read next, behind what was read.
use Rattle.std.proofs.Common.{◌≡◌, ◌∙◌, Bool, true, false, ap, subst, sym, refl, Result, Ok, Err}
use Rattle.ytt_base.specs.Outcomes.{Gives, Outcome, and_then, ◌>>=◌}
use Rattle.ytt_base.specs.declared.fault.Stop.{Stop}
use Rattle.ytt_base.specs.declared.fault.Stop.TheVariants as stop

pub then_assoc : {A B C : Type 0} (o : Outcome A) (f : A → Outcome B) (g : B → Outcome C) → (o >>= f) >>= g ≡ o >>= (λ x. f x >>= g)
then_assoc (Ok x) f g = refl
then_assoc (Err e) f g = refl

-- the same is read next, whatever was read
pub then_same : {A B : Type 0} (o : Outcome A) (f g : A → Outcome B) → ((x : A) → f x ≡ g x) → o >>= f ≡ o >>= g
then_same (Ok x) f g h = h x
then_same (Err e) f g h = refl

-- the same is read next behind what was read
pub then_alike : {A B : Type 0} (o : Outcome A) (f g : A → Outcome B) → ((x : A) → o ≡ Ok x → f x ≡ g x) → o >>= f ≡ o >>= g
then_alike (Ok x) f g h = h x refl
then_alike (Err e) f g h = refl

-- two parts that were read, one behind the other
pub both_read : {A B : Type 0} (next : A → Outcome B) (first : Outcome A) (x : A) (y : B) → first ≡ Ok x → next x ≡ Ok y → and_then next first ≡ Ok y
both_read next first x y e h = ap (and_then next) e ∙ h

-- ---- what is read by a test

pub when_true : {A : Type 0} (b : Bool) (o p : Outcome A) → b ≡ true → elim b as (λ _. Outcome A) [ true ↦ o | false ↦ p ] ≡ o
when_true true o p h = refl
when_true false o p h = cc

pub when_false : {A : Type 0} (b : Bool) (o p : Outcome A) → b ≡ false → elim b as (λ _. Outcome A) [ true ↦ o | false ↦ p ] ≡ p
when_false true o p h = cc
when_false false o p h = refl

-- ---- what a call gives

-- a first part that stops is the answer
pub gives_stop : {A B X Y : Type 0} (view : X → A) (next_view : Y → B) (next : A → Outcome B) (s : Stop) (first : Outcome A)
    → Gives view (Err s) first → Gives next_view (Err s) (and_then next first)
gives_stop view next_view next (stop.Fault f) first e = ap (and_then next) e
gives_stop view next_view next stop.Memory first e = tt

-- the same, where the stop is what is answered
pub gives_first : {X Y Z W : Type 0} (view : X → Y) (next_view : Z → W) (result : Result Z Stop) (s : Stop) (first : Outcome Y) (next : Y → Outcome W)
    → result ≡ Err s → Gives view (Err s) first → Gives next_view result (first >>= next)
gives_first view next_view result s first next e g = subst (λ r. Gives next_view r (first >>= next)) (sym e) (gives_stop view next_view next s first g)

-- behind a first part that was read, the next one is the answer
pub gives_next : {A B Y : Type 0} (next_view : Y → B) (next : A → Outcome B) (result : Result Y Stop) (x : A) (first : Outcome A)
    → first ≡ Ok x → Gives next_view result (next x) → Gives next_view result (and_then next first)
gives_next next_view next result x first e g = subst (λ o. Gives next_view result (and_then next o)) (sym e) g

-- an outcome that is the same
pub gives_same : {X Y : Type 0} (view : X → Y) (result : Result X Stop) (some other : Outcome Y) → some ≡ other → Gives view result other → Gives view result some
gives_same view result some other e g = subst (λ o. Gives view result o) (sym e) g

-- a stop is seen alike by any view
pub gives_alike : {A X Y : Type 0} (view : X → A) (other_view : Y → A) (s : Stop) (outcome : Outcome A) → Gives view (Err s) outcome → Gives other_view (Err s) outcome
gives_alike view other_view (stop.Fault f) outcome e = e
gives_alike view other_view stop.Memory outcome e = tt
