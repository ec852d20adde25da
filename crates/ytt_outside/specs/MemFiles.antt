-- What a `MemFiles` keeps, and what stands at a path of it.
use Rattle.std.specs.Prelude.{ℕ, ◌+◌, Bool, true, false, ◌||◌, ◌&&◌, not, ◌==◌, nat_eq, List, [], ◌∷◌, length, drop, slice_index, bytes_eq, Option, Some, None, if◌then◌else◌}
use Rattle.std.specs.List.{starts_with, before_first}
use Rattle.ytt_outside.specs.Names.{with_name}
use Rattle.ytt_outside.specs.Standing.{Standing, nothing, file, folder}
use Rattle.ytt_outside.specs.declared.mem_files.MemFiles.{MemFiles}

-- a path and the bytes of the file there
abbrev pub Entry : Type 0
Entry = List ℕ × List ℕ

abbrev pub entries_in : MemFiles → List Entry
entries_in m = m.entries

-- how many calls were made
abbrev pub calls_in : MemFiles → ℕ
calls_in m = m.calls

-- the numbers of the calls that are to fail, from 1
abbrev pub fails_in : MemFiles → List ℕ
fails_in m = m.fails

-- how many calls failed
abbrev pub faults_in : MemFiles → ℕ
faults_in m = m.faults

-- the bytes of the file at the path
abbrev pub bytes_at : List Entry → List ℕ → Option (List ℕ)
bytes_at [] path = None
bytes_at (e ∷ es) path = if bytes_eq e.0 path then Some e.1 else bytes_at es path

abbrev pub slash : ℕ
slash = 47

-- the path lies below the folder: it begins with the folder's, and a slash follows
abbrev pub is_below : List ℕ → List ℕ → Bool
is_below above path = starts_with nat_eq path above && slice_index path (length above) == slash

abbrev pub is_slash : ℕ → Bool
is_slash b = b == slash

-- the name in the folder under which the path stands
abbrev pub name_below : List ℕ → List ℕ → List ℕ
name_below above path = before_first is_slash (drop (length above + 1) path)

-- the names in the folder, in the order of their bytes
abbrev pub names_below : List ℕ → List Entry → List (List ℕ)
names_below above [] = []
names_below above (e ∷ es) = if is_below above e.0 then with_name (names_below above es) (name_below above e.0) else names_below above es

-- a folder is every path before a slash of an added path
abbrev pub folder_or_nothing : List (List ℕ) → Standing
folder_or_nothing [] = nothing
folder_or_nothing (n ∷ ns) = folder (n ∷ ns)

abbrev pub file_or : Standing → Option (List ℕ) → Standing
file_or other None = other
file_or other (Some bytes) = file bytes

-- what stands at the path: the file that was added there, or a folder
abbrev pub standing_in : List Entry → List ℕ → Standing
standing_in es path = file_or (folder_or_nothing (names_below path es)) (bytes_at es path)

-- a path of a folder that the path lies in is no file
abbrev pub is_below_none : List Entry → List ℕ → Bool
is_below_none [] path = true
is_below_none (e ∷ es) path = not (is_below e.0 path) && is_below_none es path

abbrev pub is_nothing : Standing → Bool
is_nothing nothing = true
is_nothing _ = false

-- a file may be added there: nothing stands at the path, and none of its folders is a file
abbrev pub is_free : List Entry → List ℕ → Bool
is_free es path = is_nothing (standing_in es path) && is_below_none es path

-- the call of this number is listed
abbrev pub is_listed : List ℕ → ℕ → Bool
is_listed [] call = false
is_listed (n ∷ ns) call = n == call || is_listed ns call
