use Rattle.std.proofs.Common.{◌≡◌, ◌++◌, length, reverse}
use Rattle.star_builtins.proofs.members.turned_round.Given as goal

abbrev pub invariant-loop-member : goal.invariant-loop-member
invariant-loop-member l = l.turned ++ reverse l.left ≡ reverse l.fn.members

abbrev pub decreases-loop-member : goal.decreases-loop-member
decreases-loop-member l = length l.left
