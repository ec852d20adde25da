-- Members in the order of their keys are what the program holds.
use Rattle.std.proofs.Common.{Bool, true, false, if◌then◌else◌, List, [], ◌∷◌, map as each}
use Rattle.builtin_spec.specs.Sorting.{beside, comes_before, in_order, placed, sorted_by}
use Rattle.star_spec.specs.Held.{HeldValue, HeldList}
use Rattle.value_spec.specs.Values.{Value, Store}

module _ (before : Value × Value → Value × Value → Bool) where
  -- each member of pairs, the keys apart
  abbrev SecondsHeld : List (Value × Value) → Type 0
  SecondsHeld [] = Unit {0}
  SecondsHeld (q ∷ qs) = HeldValue q.1 × SecondsHeld qs

  if_held : (b : Bool) (qs rs : List (Value × Value)) → SecondsHeld qs → SecondsHeld rs → SecondsHeld (if b then qs else rs)
  if_held true qs rs h k = h
  if_held false qs rs h k = k

  placed_held : (q : Value × Value) (qs : List (Value × Value)) → HeldValue q.1 → SecondsHeld qs → SecondsHeld (placed before q qs)
  placed_held q [] h k = (h, tt)
  placed_held q (r ∷ rs) h k = if_held (before r q) (r ∷ placed before q rs) (q ∷ r ∷ rs) (k.0, placed_held q rs h k.1) (h, k)

  sorted_held : (qs : List (Value × Value)) → SecondsHeld qs → SecondsHeld (sorted_by before qs)
  sorted_held [] h = tt
  sorted_held (q ∷ qs) h = placed_held q (sorted_by before qs) h.0 (sorted_held qs h.1)

  beside_held : (ks vs : List Value) → HeldList vs → SecondsHeld (beside ks vs)
  beside_held [] vs h = tt
  beside_held (k ∷ ks) [] h = tt
  beside_held (k ∷ ks) (v ∷ vs) h = (h.0, beside_held ks vs h.1)

  seconds_held : (qs : List (Value × Value)) → SecondsHeld qs → HeldList (each (λ q. q.1) qs)
  seconds_held [] h = tt
  seconds_held (q ∷ qs) h = (h.0, seconds_held qs h.1)

pub in_order_held : (d : Bool) (store : Store) (vs ks : List Value) → HeldList vs → HeldList (in_order d store vs ks)
in_order_held d store vs ks h =
    let before = λ (q r : Value × Value). comes_before d store q.0 r.0 in
    seconds_held before (sorted_by before (beside ks vs)) (sorted_held before (beside ks vs) (beside_held before ks vs h))
