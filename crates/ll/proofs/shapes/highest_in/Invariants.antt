use Rattle.std.proofs.Common.{◌≡◌, ◌≤◌, length, max, take}
use Rattle.std.specs.Prelude.{reverse}
use Rattle.ll.specs.Shapes.{highest}
use Rattle.ll.proofs.shapes.highest_in.Given as goal

abbrev pub invariant-loop-left : goal.invariant-loop-left
invariant-loop-left l = record {
  within : l.left ≤ length l.shapes;
  high : max l.high (highest l.left (reverse (take l.left l.shapes))) ≡ highest (length l.shapes) (reverse l.shapes);
}

abbrev pub decreases-loop-left : goal.decreases-loop-left
decreases-loop-left l = l.left
