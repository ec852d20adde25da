-- Where names stand, and the types of a map by their places.
use Rattle.std.specs.Prelude.{ℕ, zero, suc, true, false, List, [], ◌∷◌, Option, Some, None, bytes_eq}
use Rattle.std.specs.Option.{option_map}
use Rattle.schema_spec.specs.Schemas.{Schema, TypePairs, no_types, type_pair}

-- the first place of a name
abbrev pub place_of : (name : List ℕ) → List (List ℕ) → Option ℕ
place_of x [] = None
place_of x (y ∷ ys) = elim (bytes_eq x y) [ true ↦ Some 0 | false ↦ option_map suc (place_of x ys) ]

-- ---- types of keys, one after another

abbrev pub type_count : TypePairs → ℕ
type_count no_types = 0
type_count (type_pair n s ms) = suc (type_count ms)

-- the name at a place, with its type
abbrev pub entry_at : ℕ → TypePairs → Option (List ℕ × Schema)
entry_at n no_types = None
entry_at zero (type_pair m s ms) = Some (m, s)
entry_at (suc n) (type_pair m s ms) = entry_at n ms

-- those from a place on
abbrev pub types_from : ℕ → TypePairs → TypePairs
types_from zero ms = ms
types_from (suc n) no_types = no_types
types_from (suc n) (type_pair m s ms) = types_from n ms

-- one more behind them
abbrev pub and_type : TypePairs → List ℕ → Schema → TypePairs
and_type no_types m t = type_pair m t no_types
and_type (type_pair n s ms) m t = type_pair n s (and_type ms m t)
