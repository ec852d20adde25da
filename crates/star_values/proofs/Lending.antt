-- The keys of a dict, which a loop goes over.
use Rattle.std.proofs.Common.{◌≡◌, ◌∷◌}
use Rattle.star_values.proofs.Names.{ℕ, zero, suc, List, [], slice_get, refl, keys_in, key_of_pair, pairs_in, Each, OwnsOption, OwnsPair, Value, View, option_in}
use Rattle.value_spec.specs.Values as plain

pub keys_at : (held : List plain.Value) (ps : List (Value × Value)) (i : ℕ) → option_in held (key_of_pair (slice_get ps i)) ≡ slice_get (keys_in (pairs_in held ps)) i
keys_at held [] zero = refl
keys_at held [] (suc i) = refl
keys_at held (p ∷ ps) zero = refl
keys_at held (p ∷ ps) (suc i) = keys_at held ps i

pub key_owned : (a : View) (ps : List (Value × Value)) (i : ℕ) → Each (OwnsPair a) ps → OwnsOption a (key_of_pair (slice_get ps i))
key_owned a [] zero o = tt
key_owned a [] (suc i) o = tt
key_owned a (p ∷ ps) zero o = o.0.0
key_owned a (p ∷ ps) (suc i) o = key_owned a ps i o.1
