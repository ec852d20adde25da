use Rattle.std.proofs.Common.{◌≡◌, ◌++◌, length, reverse}
use Rattle.render_core.proofs.parts.turned.Given as goal

abbrev pub invariant-loop-scope : goal.invariant-loop-scope
invariant-loop-scope l = l.turned ++ reverse l.left ≡ reverse l.fn.scopes

abbrev pub decreases-loop-scope : goal.decreases-loop-scope
decreases-loop-scope l = length l.left
