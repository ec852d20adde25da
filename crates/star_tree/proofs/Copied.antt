-- What was copied equals what it is a copy of, where there was room.
use Rattle.std.proofs.Common.{◌≡◌, Result, Ok, subst}
use Rattle.std.specs.Prelude.{IfOk}
use Rattle.ytt_base.specs.declared.text.Memory.{Memory}

pub copied : {A : Type 0} (r : Result A Memory) (x a : A) → IfOk r (λ y. y ≡ a) → r ≡ Ok x → x ≡ a
copied r x a h e = subst (λ r. IfOk r (λ y. y ≡ a)) e h

-- both parts are there
pub both_copied : {A B : Type 0} (r : Result (A × B) Memory) (f : Result A Memory) (s : Result B Memory) (x : A) (y : B) → IfOk r (λ two. (f ≡ Ok two.0) × (s ≡ Ok two.1)) → r ≡ Ok (x, y) → (f ≡ Ok x) × (s ≡ Ok y)
both_copied r f s x y h e = subst (λ r. IfOk r (λ two. (f ≡ Ok two.0) × (s ≡ Ok two.1))) e h
