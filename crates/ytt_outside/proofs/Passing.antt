-- What a stream holds after a part of a piece went to it.
use Rattle.std.proofs.Common.{◌≡◌, ℕ, ◌+◌, ◌-◌, ◌==◌, false, List, [], ◌∷◌, ◌++◌, length, take, drop, Option, Some, None, Result, Ok, Err, sym, ap, subst, ◌∙◌, append_assoc, take-append-drop}
use Rattle.std.proofs.Math.Seq.{take-append-add, take-append_seam}
use Rattle.std.proofs.lemmas.List.{take_rest}
use Rattle.std.specs.Io.KnownBytes.{Appends, Keeps, WriteAppends}

pub appends_more : (a b c : Option (List ℕ)) (done more : List ℕ) → Appends a b done → Appends b c more → Appends a c (done ++ more)
appends_more None b c done more p q = tt
appends_more (Some x) None c done more p q = absurd p
appends_more (Some x) (Some y) None done more p q = absurd q
appends_more (Some x) (Some y) (Some z) done more p q = q ∙ ap (λ l. l ++ more) p ∙ append_assoc x done more

appends_kept : (a b c : Option (List ℕ)) (done : List ℕ) → Appends a b done → Keeps b c → Appends a c done
appends_kept None b c done p q = tt
appends_kept (Some x) None c done p q = absurd p
appends_kept (Some x) (Some y) None done p q = absurd q
appends_kept (Some x) (Some y) (Some z) done p q = q ∙ p

-- a part of the rest is done too
pub moves_front : (piece done rest : List ℕ) (n : ℕ) → piece ≡ done ++ rest → piece ≡ (done ++ take n rest) ++ take (length rest - n) (drop n rest)
moves_front piece done rest n e =
    e ∙ ap (λ l. done ++ l) (sym (take-append-drop n rest)) ∙ sym (append_assoc done (take n rest) (drop n rest)) ∙ ap (λ l. (done ++ take n rest) ++ l) (sym (take_rest rest n))

-- after one more write, whatever it gave, a front of the piece is appended
pub front_appended : {E : Type 0} (a b c : Option (List ℕ)) (piece done rest : List ℕ) (r : Result ℕ E) → piece ≡ done ++ rest → Appends a b done → WriteAppends b c r rest
    → (n : ℕ) × Appends a c (take n piece)
front_appended a b c piece done rest (Ok n) e p q = (length done + n, subst (Appends a c) (sym (ap (take (length done + n)) e ∙ take-append-add done rest n)) (appends_more a b c done (take n rest) p q))
front_appended a b c piece done rest (Err x) e p q = (length done, subst (Appends a c) (sym (ap (take (length done)) e ∙ take-append_seam done rest)) (appends_kept a b c done p q))

-- where some of a piece is left, it isn't empty
pub some_left : (done rest : List ℕ) → (length rest == 0) ≡ false → done ++ rest ≡ [] → ⊥
some_left [] [] h e = cc
some_left [] (b ∷ bs) h e = cc
some_left (b ∷ bs) rest h e = cc
