-- What the calls of `Files` answer.
use Rattle.std.specs.Prelude.{◌≡◌, ◌≤◌, ℕ, Bool, true, false, nat_lt, List, [], length, Result, Ok, Err, if◌then◌else◌}
use Rattle.ytt_outside.specs.Counts.{Rose, raised}
use Rattle.ytt_outside.specs.Standing.{Standing, nothing, file, folder}
use Rattle.ytt_outside.specs.declared.files.PathKind.{PathKind}
use Rattle.ytt_outside.specs.declared.files.PathKind.TheVariants as kind
use Rattle.ytt_outside.specs.declared.files.Got.{Got}
use Rattle.ytt_outside.specs.declared.files.Got.TheVariants as got
use Rattle.ytt_outside.specs.declared.files.FilesStop.{FilesStop}
use Rattle.ytt_outside.specs.declared.files.FilesStop.TheVariants as stop

abbrev pub kind_of : Standing → PathKind
kind_of nothing = kind.Missing
kind_of (file bytes) = kind.File
kind_of (folder names) = kind.Folder

-- what a read with this limit gives: a folder is no file
abbrev pub got_of : ℕ → Standing → Got
got_of limit nothing = got.Missing
got_of limit (file bytes) = if nat_lt limit (length bytes) then got.TooLarge else got.Bytes bytes
got_of limit (folder names) = got.Missing

-- what listing gives: what is no folder has no names
abbrev pub names_of : Standing → List (List ℕ)
names_of nothing = []
names_of (file bytes) = []
names_of (folder names) = names

-- Failed comes only where the count rose, and any other answer leaves it as it was.
abbrev pub FilesCounts : {T : Type 0} → ℕ → ℕ → Result T FilesStop → Type 0
FilesCounts before now (Ok x) = now ≡ before
FilesCounts before now (Err stop.Failed) = Rose before now
FilesCounts before now (Err stop.Memory) = now ≡ before

-- the count after a call: one more where it failed
abbrev pub count_after : {T : Type 0} → Result T FilesStop → ℕ → ℕ
count_after (Ok x) count = count
count_after (Err stop.Failed) count = raised count
count_after (Err stop.Memory) count = count

-- it has bytes, which take memory
abbrev pub has_bytes : Got → Bool
has_bytes (got.Bytes bytes) = true
has_bytes got.TooLarge = false
has_bytes got.Missing = false

-- bytes that are read are at most this many
abbrev pub IsWithin : ℕ → Got → Type 0
IsWithin limit (got.Bytes bytes) = length bytes ≤ limit
IsWithin limit got.TooLarge = Unit {0}
IsWithin limit got.Missing = Unit {0}
