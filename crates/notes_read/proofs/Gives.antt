-- What calls that follow one another give.
use Rattle.std.proofs.Common.{◌≡◌, Result, Ok, Err, ap, subst, sym}
use Rattle.std.specs.Prelude.{Bool, true, false, if◌then◌else◌}
use Rattle.ytt_base.specs.declared.fault.Stop.{Stop}
use Rattle.ytt_base.specs.declared.fault.Stop.TheVariants as stop
use Rattle.ytt_base.specs.Outcomes.{Outcome, Gives, ◌>>=◌}

-- one of two outcomes
pub if_so : {A B : Type 0} (view : A → B) (res : Result A Stop) (b : Bool) (x y : Outcome B) → b ≡ true → Gives view res x → Gives view res (if b then x else y)
if_so view res true x y e g = g
if_so view res false x y e g = cc

pub if_not : {A B : Type 0} (view : A → B) (res : Result A Stop) (b : Bool) (x y : Outcome B) → b ≡ false → Gives view res y → Gives view res (if b then x else y)
if_not view res false x y e g = g
if_not view res true x y e g = cc

-- the first call stops
pub stops : {A B C D : Type 0} (first : A → B) (view : C → D) (s : Stop) (o : Outcome B) (next : B → Outcome D) → Gives first (Err s) o → Gives view (Err s) (o >>= next)
stops first view (stop.Fault f) o next e = ap (λ x. x >>= next) e
stops first view stop.Memory o next e = tt

-- or it is gone on with what it gave
pub goes_on : {A B C D : Type 0} (first : A → B) (view : C → D) (x : A) (res : Result C Stop) (o : Outcome B) (next : B → Outcome D) → Gives first (Ok x) o → Gives view res (next (first x)) → Gives view res (o >>= next)
goes_on first view x res o next e g = subst (λ p. Gives view res (p >>= next)) (sym e) g
