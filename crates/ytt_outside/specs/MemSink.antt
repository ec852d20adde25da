-- What a `MemSink` keeps.
use Rattle.std.specs.Prelude.{ℕ, List}
use Rattle.ytt_outside.specs.declared.mem_sink.FailPoint.{FailPoint}
use Rattle.ytt_outside.specs.declared.mem_sink.MemSink.{MemSink}

-- the bytes that were appended
abbrev pub bytes_in : MemSink → List ℕ
bytes_in s = s.bytes.items

-- how many bytes it has room for
abbrev pub room_in : MemSink → ℕ
room_in s = s.room

-- the calls that are to fail
abbrev pub fails_in : MemSink → List FailPoint
fails_in s = s.fails

-- how many calls were made
abbrev pub calls_in : MemSink → ℕ
calls_in s = s.calls

-- how many of them failed
abbrev pub faults_in : MemSink → ℕ
faults_in s = s.faults
