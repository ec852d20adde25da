-- Where an argument by name stands.
use Rattle.std.specs.Prelude.{◌≡◌, ◌<◌, ℕ, Some, List, true, false, bytes_eq, length, slice_get}
use Rattle.code_spec.specs.Code.{Name}
use Rattle.star_values.specs.declared.value.NamedValue.{NamedValue}

-- the first so many have other names
abbrev pub OtherNames : Name → List NamedValue → ℕ → Type 0
OtherNames x fs n = (k : ℕ) → k < n → (f : NamedValue) → slice_get fs k ≡ Some f → bytes_eq x f.name ≡ false

-- the first of this name stands there
pub record NamedAt (x : Name) (fs : List NamedValue) (at : ℕ) : Type 0 where
  pub field : NamedValue
  pub there : slice_get fs at ≡ Some field
  pub within : at < length fs
  pub named : bytes_eq x field.name ≡ true
  pub before : OtherNames x fs at
