-- What texts that are borrowed are.
use Rattle.std.specs.Borrow.{Bor}
use Rattle.std.specs.Prelude.{ℕ, List, map as each}

-- the bytes of each text
abbrev pub texts_of : List (Bor (List ℕ)) → List (List ℕ)
texts_of ts = each (λ t. t.now) ts
