use Rattle.std.proofs.Common.{◌≡◌, ◌≤◌, length, take}
use Rattle.star_values.specs.View.{View}
use Rattle.world_spec.specs.Worlds.{given_by}
use Rattle.file_load.specs.Gave.{given_in}
use Rattle.file_load.proofs.given.globals_given.Given as goal

abbrev pub invariant-loop-left : goal.invariant-loop-left
invariant-loop-left l = record {
  within : l.left ≤ length l.given;
  same : (a : View) → given_by l.file (given_in a l.given) ≡ given_by l.file (given_in a (take l.left l.given));
}

abbrev pub decreases-loop-left : goal.decreases-loop-left
decreases-loop-left l = l.left
