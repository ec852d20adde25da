use Rattle.std.proofs.Common.{◌≡◌, ◌≤◌, drop, length, map, string_bytes}
use Rattle.std.specs.BTreeSet.{keys}
use Rattle.ytt_outside.specs.MemFiles.{names_below}
use Rattle.ytt_outside.proofs.mem_files.names_below.Given as goal

abbrev pub invariant-loop-left : goal.invariant-loop-left
invariant-loop-left l = (l.left ≤ length l.entries) × (map string_bytes (keys l.names) ≡ names_below l.folder (drop l.left l.entries))

abbrev pub decreases-loop-left : goal.decreases-loop-left
decreases-loop-left l = l.left
