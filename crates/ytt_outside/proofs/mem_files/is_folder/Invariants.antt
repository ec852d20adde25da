use Rattle.std.proofs.Common.{◌≡◌, drop}
use Rattle.std.specs.List.{list_any}
use Rattle.ytt_outside.specs.MemFiles.{is_below}
use Rattle.ytt_outside.proofs.mem_files.is_folder.Given as goal

abbrev pub invariant-loop-name : goal.invariant-loop-name
invariant-loop-name l = list_any (λ e. is_below l.path e.0) (drop l.name-index l.entries) ≡ list_any (λ e. is_below l.path e.0) l.entries
