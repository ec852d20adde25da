use Rattle.std.proofs.Common.{◌≡◌, ◌≤◌, length, take}
use Rattle.std.specs.Prelude.{reverse}
use Rattle.star_machine.specs.Turns.{along}
use Rattle.star_machine.proofs.weight.pass_all.Given as goal

abbrev pub invariant-loop-left : goal.invariant-loop-left
invariant-loop-left l = record {
  within : l.left ≤ length l.items;
  same : along (reverse (take l.left l.items)) l.shapes ≡ along (reverse l.items) l.fn.shapes;
}

abbrev pub decreases-loop-left : goal.decreases-loop-left
decreases-loop-left l = l.left
