use Rattle.std.proofs.Common.{length}
use Rattle.yaml_entries.specs.View.{found_of, hole_of}
use Rattle.yaml_read.proofs.Blocks.{IsClosing}
use Rattle.yaml_read.proofs.closing.close_behind.Given as goal

abbrev pub invariant-inner : goal.invariant-inner
invariant-inner l = IsClosing l.count l.fn.frames (hole_of l.fn.hole) l.open (found_of l.found)

abbrev pub decreases-inner : goal.decreases-inner
decreases-inner l = length l.open
