-- What stands at a path.
use Rattle.std.specs.Prelude.{ℕ, List}

-- nothing, a file with its bytes, or a folder with its names
pub data Standing : Type 0 where
  nothing : Standing
  file : List ℕ → Standing
  folder : List (List ℕ) → Standing
