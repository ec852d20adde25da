-- Refusals that are passed on.
use Rattle.std.proofs.Common.{◌≡◌, Result, Err, sym, subst}
use Rattle.ytt_base.specs.declared.fault.Fault.{Fault}
use Rattle.ytt_base.specs.declared.fault.Stop.{Stop}
use Rattle.ytt_base.specs.declared.fault.Stop.TheVariants as stop
use Rattle.ytt_base.specs.Outcomes.{Gives, Outcome}

-- where a part is refused, so is the whole
pub stopped : {A B C D : Type 0} (view : A → B) (onto : C → D) (e : Stop) (o : Outcome B) (p : Outcome D) (r : Result C Stop)
    → r ≡ Err e → Gives view (Err e) o → ((f : Fault) → o ≡ Err f → p ≡ Err f) → Gives onto r p
stopped view onto (stop.Fault f) o p r e h more = subst (λ r. Gives onto r p) (sym e) (more f h)
stopped view onto stop.Memory o p r e h more = subst (λ r. Gives onto r p) (sym e) tt
