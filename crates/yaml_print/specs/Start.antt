-- How a place stood before anything was put there.
use Rattle.std.specs.Prelude.{ℕ, List, Option}

-- What its sink told that it holds, how often that had failed, and which loans of the sink and of the buffer the place has.
pub record Start : Type 0 where
  pub held : Option (List ℕ)
  pub faults : ℕ
  pub out : ℕ
  pub buffer : ℕ
