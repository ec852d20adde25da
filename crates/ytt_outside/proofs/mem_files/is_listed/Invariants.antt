use Rattle.std.proofs.Common.{◌≡◌, drop}
use Rattle.ytt_outside.specs.MemFiles.{is_listed}
use Rattle.ytt_outside.proofs.mem_files.is_listed.Given as goal

abbrev pub invariant-loop-number : goal.invariant-loop-number
invariant-loop-number l = is_listed (drop l.number-index l.numbers) l.call ≡ is_listed l.numbers l.call
