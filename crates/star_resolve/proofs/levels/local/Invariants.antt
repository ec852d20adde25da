use Rattle.std.proofs.Common.{◌≡◌, ◌+◌, ◌≤◌, length, reverse, take}
use Rattle.star_resolve.specs.Answers.{local_in}
use Rattle.star_resolve.proofs.levels.local.Given as goal

abbrev pub invariant-loop-at : goal.invariant-loop-at
invariant-loop-at l = record {
  same : local_in l.outward l.name (reverse (take l.at l.levels)) ≡ local_in 0 l.name (reverse l.levels);
  few : l.outward + l.at ≤ length l.levels;
}
