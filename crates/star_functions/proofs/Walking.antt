-- Members that are put behind others, by the last turn of a loop.
use Rattle.std.proofs.Common.{◌≡◌, ℕ, ◌+◌, ◌<◌, List, ◌∷◌, ◌++◌, length, drop, get_or, sym, ap, ◌∙◌, Result, Ok, Err, OnOk}
use Rattle.std.proofs.lemmas.List.{drop_more}
use Rattle.ytt_base.specs.declared.text.Memory.{Memory}

-- the last turn of a loop that leaves what stands behind out
pub put_last : {T B : Type 0} (r : Result (Unit {0}) Memory) (all now next : List B) (xs : List T) (j : ℕ) (x : T) (rest : List T → List B) (one : List B) →
    j < length xs → x ≡ get_or xs j x → ((ys : List T) → rest (x ∷ ys) ≡ one) → now ++ rest (drop j xs) ≡ all → OnOk r (next ≡ now ++ one) → OnOk r (next ≡ all)
put_last (Ok u) all now next xs j x rest one lt e first h k =
    k ∙ ap (λ l. now ++ l) (sym (first (drop (j + 1) xs)) ∙ ap rest (ap (λ y. y ∷ drop (j + 1) xs) e ∙ sym (drop_more xs j x lt))) ∙ h
put_last (Err m) all now next xs j x rest one lt e first h k = tt
