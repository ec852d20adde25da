-- Names in the order of their bytes.
use Rattle.std.specs.Prelude.{◌≡◌, ℕ, List, [], ◌∷◌}
use Rattle.std.specs.BTreeSet.{insert_key}
use Rattle.std.specs.Cmp.Lexicographic.{slice_cmp}
use Rattle.std.specs.Ordering.{nat_cmp}
use Rattle.std.specs.declared.cmp.Ordering.TheVariants.{Less}

-- the name is below the first of these
abbrev pub IsBelowFirst : List ℕ → List (List ℕ) → Type 0
IsBelowFirst name [] = Unit {0}
IsBelowFirst name (n ∷ ns) = slice_cmp nat_cmp name n ≡ Less

-- each name is below the next one, so none stands twice
abbrev pub AreSorted : List (List ℕ) → Type 0
AreSorted [] = Unit {0}
AreSorted (n ∷ ns) = IsBelowFirst n ns × AreSorted ns

-- the names with this one in its place, unless it is there
abbrev pub with_name : List (List ℕ) → List ℕ → List (List ℕ)
with_name names name = insert_key (slice_cmp nat_cmp) names name
