use Rattle.std.proofs.Common.{◌≡◌, ◌≤◌, length, take}
use Rattle.world_spec.specs.Worlds.{is_begun}
use Rattle.file_load.specs.Seen.{files_of}
use Rattle.file_load.proofs.waiting.is_begun.Given as goal

abbrev pub invariant-loop-left : goal.invariant-loop-left
invariant-loop-left l = record {
  within : l.left ≤ length l.waiting;
  same : is_begun l.file (files_of l.waiting) ≡ is_begun l.file (files_of (take l.left l.waiting));
}

abbrev pub decreases-loop-left : goal.decreases-loop-left
decreases-loop-left l = l.left
