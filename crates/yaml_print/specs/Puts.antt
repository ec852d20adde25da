-- What is put behind what was put before.
use Rattle.std.specs.Prelude.{ℕ, List, ◌++◌}
use Rattle.yaml_print.specs.Start.{Start}

-- Whatever text had been put, now it is that text with this one behind it.
pub record Puts {W : Type 0} (has : Start → W → List ℕ → Type 0) (before now : W) (text : List ℕ) : Type 0 where
  pub behind : (start : Start) (s : List ℕ) → has start before s → has start now (s ++ text)
