-- What the call of `Sink` leaves.
use Rattle.std.specs.Prelude.{◌≡◌, ℕ, ◌++◌, List, take, Option, Some, None, Result, Ok, Err}
use Rattle.ytt_outside.specs.Counts.{Rose, raised}
use Rattle.ytt_outside.specs.declared.sink.SinkFailed.{SinkFailed}

-- what is told, with these bytes at its end
abbrev pub grown : Option (List ℕ) → List ℕ → Option (List ℕ)
grown None bytes = None
grown (Some held) bytes = Some (held ++ bytes)

-- What a sink tells that it holds has grown by these bytes, and by nothing else.
abbrev pub Grows : Option (List ℕ) → Option (List ℕ) → List ℕ → Type 0
Grows old new bytes = new ≡ grown old bytes

-- It has grown by a front of these bytes.
abbrev pub GrowsByFront : Option (List ℕ) → Option (List ℕ) → List ℕ → Type 0
GrowsByFront old new bytes = (n : ℕ) × Grows old new (take n bytes)

-- all of the bytes are appended, or on failure a front of them
abbrev pub Writes : Option (List ℕ) → Option (List ℕ) → List ℕ → Result (Unit {0}) SinkFailed → Type 0
Writes old new bytes (Ok _) = Grows old new bytes
Writes old new bytes (Err _) = GrowsByFront old new bytes

-- A failure comes only where the count rose, and success leaves it as it was.
abbrev pub SinkCounts : ℕ → ℕ → Result (Unit {0}) SinkFailed → Type 0
SinkCounts before now (Ok _) = now ≡ before
SinkCounts before now (Err _) = Rose before now

-- the count after a call: one more where it failed
abbrev pub count_after : Result (Unit {0}) SinkFailed → ℕ → ℕ
count_after (Ok _) count = count
count_after (Err _) count = raised count
