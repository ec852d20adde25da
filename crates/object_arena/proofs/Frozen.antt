-- Objects that are frozen one after the other.
use Rattle.std.proofs.Common.{◌≡◌, ◌≤◌, ◌∷◌}
use Rattle.object_arena.proofs.Names.{ℕ, zero, suc, [], length, Option, Some, None, slice_get, refl, ap, ◌∙◌, arith, length-set, Store, as_frozen, change, changed, freeze_since}
use Rattle.value_spec.specs.Values as plain

changed_further : (f : plain.Object → plain.Object) (o : plain.Object) (st : Store) (i : ℕ) (found : Option plain.Object) → changed f (o ∷ st) (suc i) found ≡ o ∷ changed f st i found
changed_further f o st i None = refl
changed_further f o st i (Some x) = refl

pub changed_length : (f : plain.Object → plain.Object) (st : Store) (i : ℕ) → length (change f i st) ≡ length st
changed_length f st i = elim (slice_get st i) as (λ found. length (changed f st i found) ≡ length st) [ None ↦ refl | Some o ↦ simp length-set ]

-- where the next is frozen, the same is left to do
pub frozen_next : (st : Store) (i : ℕ) → freeze_since (suc i) (change as_frozen i st) ≡ freeze_since i st
frozen_next [] zero = refl
frozen_next [] (suc i) = refl
frozen_next (o ∷ st) zero = refl
frozen_next (o ∷ st) (suc i) = ap (freeze_since (suc (suc i))) (changed_further as_frozen o st i (slice_get st i)) ∙ ap (λ l. o ∷ l) (frozen_next st i)

-- and nothing at the end
pub frozen_all : (st : Store) (i : ℕ) → length st ≤ i → freeze_since i st ≡ st
frozen_all [] zero h = refl
frozen_all [] (suc i) h = refl
frozen_all (o ∷ st) zero h = absurd (omega (arith, h))
frozen_all (o ∷ st) (suc i) h = ap (λ l. o ∷ l) (frozen_all st i (omega (arith, h)))
