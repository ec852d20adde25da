use Rattle.std.proofs.Common.{◌≡◌, ◌++◌, length, reverse}
use Rattle.star_resolve.proofs.gather.put_reversed.Given as goal

abbrev pub invariant-loop-name : goal.invariant-loop-name
invariant-loop-name l = l.onto ++ reverse l.left ≡ l.initial.onto ++ reverse l.initial.left

abbrev pub decreases-loop-name : goal.decreases-loop-name
decreases-loop-name l = length l.left
