-- What has an order is measured, and then compared.
use Rattle.star_steps.proofs.Names.{◌≡◌, Bool, true, false, refl, sym, Place, are_comparable, comparison, order, State, Computation, Ending, done, then_do, need, reads, ◌>>=◌, Store, then_assoc}
use Rattle.ytt_base.specs.declared.fault.FaultKind.TheVariants as kind
use Rattle.value_spec.specs.Values.{Value}
use Rattle.star_compare.specs.Alike.{both_measured, measure, ordered}

measured_both : (a b : Value) (e : Ending (Unit {0}) (Unit {0})) (f : Computation (Unit {0}) (Unit {0})) →
    then_do e (λ u t. then_do (f t) (λ w r. done (order r.store a b) r)) ≡ then_do (then_do e (λ u. f)) (λ w r. done (order r.store a b) r)
measured_both a b e f = sym (then_assoc e (λ u. f) (λ w r. done (order r.store a b) r))

comparable : (p : Place) (a b : Value) (s : State (Unit {0})) (t : Bool) → t ≡ true →
    then_do (need kind.ValueKind p t s) (λ u. measure 6 100 p a >>= λ v. measure 6 100 p b >>= λ w. reads (λ store. order store a b)) ≡ then_do (both_measured p a b s) (λ w r. done (order r.store a b) r)
comparable p a b s true e = measured_both a b (measure 6 100 p a s) (measure 6 100 p b)
comparable p a b s false e = cc

-- values that are comparable, and then their sizes
pub comparing_steps : (p : Place) (a b : Value) (s : State (Unit {0})) → are_comparable a b ≡ true → comparison p a b s ≡ then_do (both_measured p a b s) (λ w r. done (order r.store a b) r)
unfolding measure
comparing_steps p a b s e = comparable p a b s (are_comparable a b) e

pub order_is : (store : Store) (a b : Value) → ordered 100 store a b ≡ order store a b
unfolding ordered
order_is store a b = refl
