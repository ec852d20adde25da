-- What may be absent.
use Rattle.std.specs.Prelude.{ℕ, suc, Option, Some, None}

-- the first of two
abbrev pub or_else : {A : Type 0} → Option A → Option A → Option A
or_else None o = o
or_else (Some a) o = Some a

-- one place further on
abbrev pub further : Option ℕ → Option ℕ
further None = None
further (Some n) = Some (suc n)
