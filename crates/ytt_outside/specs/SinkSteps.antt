-- What a call of a sink in memory does, by the calls that are to fail and by its room.
use Rattle.std.specs.Prelude.{ℕ, ◌+◌, ◌==◌, nat_lt, Bool, ◌||◌, ◌&&◌, not, List, [], ◌∷◌, ◌++◌, length, take, Option, Some, None, if◌then◌else◌, is_some}
use Rattle.ytt_outside.specs.declared.mem_sink.FailPoint.{FailPoint}

-- how many bytes the call of this number takes at most, where it is listed
abbrev pub taken_at : List FailPoint → ℕ → Option ℕ
taken_at [] call = None
taken_at (f ∷ fs) call = if f.call == call then Some f.taken else taken_at fs call

-- what the call would append of its piece
abbrev pub appended_part : Option ℕ → List ℕ → List ℕ
appended_part None piece = piece
appended_part (Some taken) piece = take taken piece

-- it doesn't fit into the room
abbrev pub is_over : ℕ → List ℕ → List ℕ → Bool
is_over room held part = nat_lt room (length held + length part)

-- what the sink holds after the call
abbrev pub bytes_after : ℕ → List ℕ → Option ℕ → List ℕ → List ℕ
bytes_after room held taken piece = if is_over room held (appended_part taken piece) then held else held ++ appended_part taken piece

-- whether the call fails
abbrev pub fails_at : ℕ → List ℕ → Option ℕ → List ℕ → Bool
fails_at room held taken piece = not (length piece == 0) && (is_some taken || is_over room held (appended_part taken piece))
