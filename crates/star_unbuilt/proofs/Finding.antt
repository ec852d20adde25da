-- The first of places at the least line, where they are found one after another.
use Rattle.std.proofs.Common.{◌≡◌, ℕ, ◌+◌, ◌<◌, ◌≤◌, nat_lt, List, [], ◌∷◌, ◌++◌, Bool, true, false, Option, Some, None, if◌then◌else◌, length, drop, get_or, refl, sym, ap, ◌∙◌}
use Rattle.std.proofs.lemmas.List.{drop_more, drop_all}
use Rattle.ytt_base.specs.declared.fault.Place.{Place}
use Rattle.passes_spec.specs.Unbuilt.{first_place}
use Rattle.star_unbuilt.specs.Places.{earlier}

chosen : (b : Bool) (p q : Place) (a c : List Place) →
    ((r : Place) → first_place r (a ++ c) ≡ first_place (first_place r a) c) →
    (if b then first_place q (a ++ c) else first_place p (a ++ c)) ≡ first_place (if b then first_place q a else first_place p a) c
chosen true p q a c h = h q
chosen false p q a c h = h p

first_after : (a c : List Place) (p : Place) → first_place p (a ++ c) ≡ first_place (first_place p a) c
first_after [] c p = refl
first_after (q ∷ a) c p = chosen (nat_lt q.line p.line) p q a c (first_after a c)

-- some places, and then others
pub earlier_then : (o : Option Place) (a c : List Place) → earlier o (a ++ c) ≡ earlier (earlier o a) c
earlier_then None [] c = refl
earlier_then None (p ∷ a) c = ap Some (first_after a c p)
earlier_then (Some p) a c = ap Some (first_after a c p)

pub earlier_none : (o : Option Place) → earlier o [] ≡ o
earlier_none None = refl
earlier_none (Some p) = refl

-- one more turn of a loop
pub earlier_turn : {T : Type 0} (all now next : Option Place) (xs : List T) (j : ℕ) (x : T) (places : List T → List Place) (one : List Place) →
    j < length xs → x ≡ get_or xs j x → ((ys : List T) → places (x ∷ ys) ≡ one ++ places ys) →
    earlier now (places (drop j xs)) ≡ all → next ≡ earlier now one → earlier next (places (drop (j + 1) xs)) ≡ all
earlier_turn all now next xs j x places one lt e first h k =
    ap (λ o. earlier o (places (drop (j + 1) xs))) k
    ∙ sym (earlier_then now one (places (drop (j + 1) xs)))
    ∙ ap (earlier now) (sym (first (drop (j + 1) xs)) ∙ ap places (ap (λ y. y ∷ drop (j + 1) xs) e ∙ sym (drop_more xs j x lt)))
    ∙ h

-- one more turn, with these places in front of those that are left
pub earlier_before : (all now next : Option Place) (before after one : List Place) → before ≡ one ++ after → earlier now before ≡ all → next ≡ earlier now one → earlier next after ≡ all
earlier_before all now next before after one e h k = ap (λ o. earlier o after) k ∙ sym (earlier_then now one after) ∙ ap (earlier now) (sym e) ∙ h

-- at the end of a loop
pub earlier_done : {T : Type 0} (all now : Option Place) (xs : List T) (j : ℕ) (places : List T → List Place) → length xs ≤ j → places [] ≡ [] → earlier now (places (drop j xs)) ≡ all → now ≡ all
earlier_done all now xs j places le e h = sym (earlier_none now) ∙ ap (earlier now) (sym e ∙ ap places (sym (drop_all j xs le))) ∙ h

-- some places after others
pub earlier_after : (old mid new : Option Place) (a c : List Place) → mid ≡ earlier old a → new ≡ earlier mid c → new ≡ earlier old (a ++ c)
earlier_after old mid new a c h k = k ∙ ap (λ o. earlier o c) h ∙ sym (earlier_then old a c)
