-- Texts that are put behind others.
use Rattle.std.proofs.Common.{◌≡◌, ℕ, ◌+◌, ◌<◌, List, [], ◌∷◌, ◌++◌, length, drop, get_or, sym, ap, ◌∙◌, append_assoc, append-nil, ◌≤◌, Result, Ok, Err, OnOk}
use Rattle.ytt_base.specs.declared.text.Memory.{Memory}
use Rattle.std.proofs.lemmas.List.{drop_more, drop_all}

-- the same text, where there was room
pub put_same : {B : Type 0} (r : Result (Unit {0}) Memory) (old new a b : List B) → OnOk r (new ≡ old ++ a) → b ≡ a → OnOk r (new ≡ old ++ b)
put_same (Ok u) old new a b h e = h ∙ ap (λ l. old ++ l) (sym e)
put_same (Err m) old new a b h e = tt

-- a text behind another, where there was room
pub put_after : {B : Type 0} (r : Result (Unit {0}) Memory) (old mid new a b : List B) → mid ≡ old ++ a → OnOk r (new ≡ mid ++ b) → OnOk r (new ≡ old ++ (a ++ b))
put_after (Ok u) old mid new a b h k = k ∙ ap (λ l. l ++ b) h ∙ append_assoc old a b
put_after (Err m) old mid new a b h k = tt

-- One more turn of a loop, whose own text stands in front of that of all that is left. What is left may be put otherwise after the turn.
pub put_turn : {T B : Type 0} (all now next : List B) (xs : List T) (j : ℕ) (x : T) (before after : List T → List B) (one : List B) →
    j < length xs → x ≡ get_or xs j x → ((ys : List T) → before (x ∷ ys) ≡ one ++ after ys) →
    now ++ before (drop j xs) ≡ all → next ≡ now ++ one → next ++ after (drop (j + 1) xs) ≡ all
put_turn all now next xs j x before after one lt e first h k =
    ap (λ l. l ++ after (drop (j + 1) xs)) k
    ∙ append_assoc now one (after (drop (j + 1) xs))
    ∙ ap (λ l. now ++ l) (sym (first (drop (j + 1) xs)) ∙ ap before (ap (λ y. y ∷ drop (j + 1) xs) e ∙ sym (drop_more xs j x lt)))
    ∙ h

pub put_next : {T B : Type 0} (all now next : List B) (xs : List T) (j : ℕ) (x : T) (rest : List T → List B) (one : List B) →
    j < length xs → x ≡ get_or xs j x → ((ys : List T) → rest (x ∷ ys) ≡ one ++ rest ys) →
    now ++ rest (drop j xs) ≡ all → next ≡ now ++ one → next ++ rest (drop (j + 1) xs) ≡ all
put_next all now next xs j x rest one = put_turn all now next xs j x rest rest one

-- at the end of a loop
pub put_done : {T B : Type 0} (all now : List B) (xs : List T) (j : ℕ) (rest : List T → List B) → length xs ≤ j → rest [] ≡ [] → now ++ rest (drop j xs) ≡ all → now ≡ all
put_done all now xs j rest le e h = sym (append-nil now) ∙ ap (λ l. now ++ l) (sym e ∙ ap rest (sym (drop_all j xs le))) ∙ h
