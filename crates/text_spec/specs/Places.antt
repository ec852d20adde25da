-- Where a text occurs in another: at each place whose bytes are its own. An empty text occurs at every bound of a character.
use Rattle.std.specs.Prelude.{ℕ, zero, suc, Bool, List, [], ◌∷◌, reverse, Option, Some, None, if◌then◌else◌}
use Rattle.code_spec.specs.Options.{further, or_else}
use Rattle.index_spec.specs.Index.{begins_inner}
use Rattle.operator_spec.specs.Operators.{begins_with}

-- ---- a text that isn't empty

abbrev pub ends_with : (part text : List ℕ) → Bool
ends_with x t = begins_with (reverse x) (reverse t)

-- the first place at which it occurs
abbrev pub first_place : (part text : List ℕ) → Option ℕ
first_place x [] = None
first_place x (b ∷ t) = if begins_with x (b ∷ t) then Some 0 else further (first_place x t)

-- the last place at which it occurs
abbrev pub last_place : (part text : List ℕ) → Option ℕ
last_place x [] = None
last_place x (b ∷ t) = or_else (further (last_place x t)) (if begins_with x (b ∷ t) then Some 0 else None)

-- ---- an empty text

-- the bounds of characters among the first so many places, and the place behind them
abbrev pub bounds : (places at : ℕ) → List ℕ → List ℕ
bounds zero i t = if begins_inner t then [] else i ∷ []
bounds (suc n) i [] = i ∷ []
bounds (suc n) i (b ∷ t) = if begins_inner (b ∷ t) then bounds n (suc i) t else i ∷ bounds n (suc i) t

abbrev pub first_of : List ℕ → Option ℕ
first_of [] = None
first_of (i ∷ is) = Some i

abbrev pub last_of : List ℕ → Option ℕ
last_of [] = None
last_of (i ∷ is) = or_else (last_of is) (Some i)
