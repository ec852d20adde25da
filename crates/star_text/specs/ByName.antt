-- Arguments by name, as they are looked up.
use Rattle.std.specs.Prelude.{◌≡◌, ℕ, List, [], ◌∷◌, Option, None, Some, bytes_eq, if◌then◌else◌}
use Rattle.std.specs.Borrow.{Bor}
use Rattle.std.specs.HashMap.{HashMap, get_by}
use Rattle.code_spec.specs.Code.{Name}
use Rattle.star_values.specs.declared.value.NamedValue.{NamedValue}
use Rattle.star_values.specs.declared.value.Value.{Value}

-- the first value of a name
abbrev pub first_named : Name → List NamedValue → Option Value
first_named x [] = None
first_named x (f ∷ fs) = if bytes_eq x f.name then Some f.value else first_named x fs

-- the map has the first value of each name
abbrev pub HasFirst : {S : Type 0} → HashMap (Bor (List ℕ)) Value S → List NamedValue → Type 0
HasFirst m fs = (x : Name) → get_by (λ k. bytes_eq x k.now) m ≡ first_named x fs

-- a map has it, if there is one
abbrev pub HasFirstIfAny : {S : Type 0} → Option (HashMap (Bor (List ℕ)) Value S) → List NamedValue → Type 0
HasFirstIfAny None fs = Unit {0}
HasFirstIfAny (Some m) fs = HasFirst m fs
