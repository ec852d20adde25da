use Rattle.std.proofs.Common.{◌≡◌, drop}
use Rattle.ytt_outside.specs.MemFiles.{is_below_none}
use Rattle.ytt_outside.proofs.mem_files.is_below_none.Given as goal

abbrev pub invariant-loop-name : goal.invariant-loop-name
invariant-loop-name l = is_below_none (drop l.name-index l.entries) l.path ≡ is_below_none l.entries l.path
