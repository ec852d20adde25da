-- What holds of each type that schema documents give.
use Rattle.std.specs.Prelude.{◌≡◌, [], Result}
use Rattle.ytt_base.specs.declared.fault.Fault.{Fault}
use Rattle.ytt_base.specs.Trees.{Tree}
use Rattle.star_spec.specs.Held.{HeldChildren}
use Rattle.value_spec.specs.Outcomes.{State, Reply, Ending, done, bad, asks, Computation}
use Rattle.value_spec.specs.Values.{Children}
use Rattle.schema_spec.specs.Offences.{offences, fill}
use Rattle.schema_spec.specs.Reading.{schema_among}
use Rattle.schema_spec.specs.Schemas.{Schema, default_of}

-- a computation that ends with a value ends with such a one
abbrev pub Gave : {H A : Type 0} → (A → Type 0) → Ending H A → Type 0
Gave P (done a s) = P a
Gave P (bad f s) = Unit {0}
Gave {H = H} P (asks q s k) = (got : Result Reply Fault) (t : State H) → Gave P (k got t)

-- so does this one, whatever state it begins in
pub record GivesOnly {H A : Type 0} (P : A → Type 0) (m : Computation H A) : Type 0 where
  pub by : (s : State H) → Gave P (m s)

-- The default is of the type, and filled. What is of the type stays so where it is filled, and filling it again changes nothing.
pub record IsProper (s : Schema) : Type 0 where
  pub default_conforms : offences s (default_of s) ≡ []
  pub default_is_filled : fill s (default_of s) ≡ default_of s
  pub stays_so : (t : Tree) → offences s t ≡ [] → offences s (fill s t) ≡ []
  pub fills_once : (t : Tree) → fill s (fill s t) ≡ fill s t

-- Schema documents that the program holds give proper types alone, where they give one.
abbrev pub SchemasAreProper : Type 0 → Type 0
SchemasAreProper H = (documents : Children) → HeldChildren documents → GivesOnly {H = H} IsProper (schema_among documents)
