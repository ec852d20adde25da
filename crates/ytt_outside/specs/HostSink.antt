-- What a `HostSink` keeps, and what it passes on.
use Rattle.std.specs.Prelude.{ℕ, List, take, Option, Result, Ok, Err}
use Rattle.std.specs.Io.KnownBytes.{Appends}
use Rattle.ytt_outside.specs.declared.host_sink.HostSink.{HostSink}
use Rattle.ytt_outside.specs.declared.sink.SinkFailed.{SinkFailed}

-- the stream below
abbrev pub stream_in : {W : Type 0} → HostSink W → W
stream_in s = s.stream

-- how often it failed
abbrev pub faults_in : {W : Type 0} → HostSink W → ℕ
faults_in s = s.faults

-- Where the bytes in a stream are known, all of the piece is appended to them, or on failure a front of it.
abbrev pub Passes : Option (List ℕ) → Option (List ℕ) → List ℕ → Result (Unit {0}) SinkFailed → Type 0
Passes old new piece (Ok _) = Appends old new piece
Passes old new piece (Err _) = (n : ℕ) × Appends old new (take n piece)
