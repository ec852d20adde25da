-- Names in order: those of a set of strings, and one more in its place.
use Rattle.std.proofs.Common.{◌≡◌, ℕ, List, [], ◌∷◌, map, string_bytes, refl, ap, arith, lit<}
use Rattle.std.proofs.lemmas.Map.Keys.{Less-from_sorted, sorted_tail}
use Rattle.std.specs.BTreeSet.{insert_key}
use Rattle.std.specs.List.Sorted.{IsStrictlySortedBy}
use Rattle.std.specs.Ordering.{match_ordering}
use Rattle.std.specs.String.{string_cmp}
use Rattle.std.specs.declared.alloc.Global.{Global}
use Rattle.std.specs.declared.cmp.Ordering.{Ordering}
use Rattle.std.specs.declared.cmp.Ordering.TheVariants.{Less, Equal, Greater}
use Rattle.std.specs.declared.string.String.{String}
use Rattle.ytt_outside.specs.Names.{AreSorted, with_name}

-- the texts of strings in order are in order
pub AreSorted-strings : (ss : List (String Global)) → IsStrictlySortedBy string_cmp ss → AreSorted (map string_bytes ss)
AreSorted-strings [] h = tt
AreSorted-strings (s ∷ []) h = (tt, tt)
AreSorted-strings (s ∷ t ∷ ss) h = (Less-from_sorted string_cmp (s ∷ t ∷ ss) 0 1 s h (lit< tt) (omega arith), AreSorted-strings (t ∷ ss) (sorted_tail string_cmp s (t ∷ ss) h))

placed : (o : Ordering) (s t : String Global) (ss : List (String Global)) (more : List (String Global)) (names : List (List ℕ)) → map string_bytes more ≡ names
    → map string_bytes (match_ordering o (s ∷ t ∷ ss) (t ∷ ss) (t ∷ more)) ≡ match_ordering o (string_bytes s ∷ string_bytes t ∷ map string_bytes ss) (string_bytes t ∷ map string_bytes ss) (string_bytes t ∷ names)
placed Less s t ss more names h = refl
placed Equal s t ss more names h = refl
placed Greater s t ss more names h = ap (λ l. string_bytes t ∷ l) h

-- a string goes to the place of its text
pub with_name-strings : (ss : List (String Global)) (s : String Global) → map string_bytes (insert_key string_cmp ss s) ≡ with_name (map string_bytes ss) (string_bytes s)
with_name-strings [] s = refl
with_name-strings (t ∷ ts) s = placed (string_cmp s t) s t ts (insert_key string_cmp ts s) (with_name (map string_bytes ts) (string_bytes s)) (with_name-strings ts s)
