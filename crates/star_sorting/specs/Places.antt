-- Members and their keys by their places.
use Rattle.std.specs.Prelude.{ℕ, Bool, List, [], ◌∷◌, Option, Some, None, drop, get_or}
use Rattle.builtin_spec.specs.Sorting.{beside, comes_before, sorted_by}
use Rattle.star_values.specs.View.{View, value_of, values_of}
use Rattle.star_values.specs.declared.value.Value.{Value}
use Rattle.star_values.specs.declared.value.Value.TheVariants as value
use Rattle.value_spec.specs.Values as plain

-- the value at a place, or None past the end
abbrev pub value_at : List Value → ℕ → Value
value_at vs i = get_or vs i value.None

-- the key and the member at a place
abbrev pub pair_at : View → (keys members : List Value) → ℕ → plain.Value × plain.Value
pair_at a ks vs i = (value_of a (value_at ks i), value_of a (value_at vs i))

-- the members that have a key, from a place on
abbrev pub beside_from : View → (keys members : List Value) → ℕ → List (plain.Value × plain.Value)
beside_from a ks vs i = beside (values_of a (drop i ks)) (values_of a (drop i vs))

-- whether the key at the first place comes before that at the second
unfoldable pub earlier : (descending : Bool) → View → (keys : List Value) → (left right : ℕ) → Bool
earlier d a ks i j = comes_before d a.store (value_of a (value_at ks i)) (value_of a (value_at ks j))

-- members with their keys, in the order of these
unfoldable pub in_order_of : (descending : Bool) → View → List (plain.Value × plain.Value) → List (plain.Value × plain.Value)
in_order_of d a qs = sorted_by (λ q r. comes_before d a.store q.0 r.0) qs

abbrev pub first_in : {A : Type 0} → List A → Option A
first_in [] = None
first_in (x ∷ xs) = Some x
