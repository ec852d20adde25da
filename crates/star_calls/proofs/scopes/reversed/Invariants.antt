use Rattle.std.proofs.Common.{◌≡◌, ◌++◌, length, reverse}
use Rattle.star_calls.proofs.scopes.reversed.Given as goal

abbrev pub invariant-loop-last : goal.invariant-loop-last
invariant-loop-last l = l.scope ++ reverse l.boxes ≡ reverse l.initial.boxes

abbrev pub decreases-loop-last : goal.decreases-loop-last
decreases-loop-last l = length l.boxes
