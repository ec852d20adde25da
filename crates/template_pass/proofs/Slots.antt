-- Slots by their level.
use Rattle.std.proofs.Common.{◌≡◌, ℕ, zero, suc, ◌<◌, ◌≤◌, List, [], ◌∷◌, take, refl, ◌∙◌, ap, arith}
use Rattle.template_pass.specs.Building.{Slot, fresh, slot_at, changed}

pub slot_at-none : (d : ℕ) → slot_at d [] ≡ fresh
slot_at-none zero = refl
slot_at-none (suc d) = refl

pub slot_at-changed : (d : ℕ) (f : Slot → Slot) (ss : List Slot) → slot_at d (changed d f ss) ≡ f (slot_at d ss)
slot_at-changed zero f [] = refl
slot_at-changed zero f (s ∷ ss) = refl
slot_at-changed (suc d) f [] = slot_at-changed d f [] ∙ ap f (slot_at-none d)
slot_at-changed (suc d) f (s ∷ ss) = slot_at-changed d f ss

pub slot_at-other : (d e : ℕ) (f : Slot → Slot) (ss : List Slot) → (d ≡ e → ⊥) → slot_at e (changed d f ss) ≡ slot_at e ss
slot_at-other zero zero f ss h = absurd (h refl)
slot_at-other zero (suc e) f [] h = slot_at-none e
slot_at-other zero (suc e) f (s ∷ ss) h = refl
slot_at-other (suc d) zero f [] h = refl
slot_at-other (suc d) zero f (s ∷ ss) h = refl
slot_at-other (suc d) (suc e) f [] h = slot_at-other d e f [] (λ x. h (ap suc x)) ∙ slot_at-none e
slot_at-other (suc d) (suc e) f (s ∷ ss) h = slot_at-other d e f ss (λ x. h (ap suc x))

pub slot_at-kept : (d e : ℕ) (ss : List Slot) → e < d → slot_at e (take d ss) ≡ slot_at e ss
slot_at-kept zero e ss h = absurd (omega (arith, h))
slot_at-kept (suc d) e [] h = refl
slot_at-kept (suc d) zero (s ∷ ss) h = refl
slot_at-kept (suc d) (suc e) (s ∷ ss) h = slot_at-kept d e ss (omega (arith, h))

pub slot_at-left : (d e : ℕ) (ss : List Slot) → d ≤ e → slot_at e (take d ss) ≡ fresh
slot_at-left zero e ss h = slot_at-none e
slot_at-left (suc d) e [] h = slot_at-none e
slot_at-left (suc d) zero (s ∷ ss) h = absurd (omega (arith, h))
slot_at-left (suc d) (suc e) (s ∷ ss) h = slot_at-left d e ss (omega (arith, h))
