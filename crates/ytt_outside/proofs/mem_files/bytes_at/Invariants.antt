use Rattle.std.proofs.Common.{◌≡◌, drop}
use Rattle.ytt_outside.specs.MemFiles.{bytes_at}
use Rattle.ytt_outside.proofs.mem_files.bytes_at.Given as goal

abbrev pub invariant-loop-name : goal.invariant-loop-name
invariant-loop-name l = bytes_at (drop l.name-index l.entries) l.path ≡ bytes_at l.entries l.path
