use Rattle.std.proofs.Common.{◌≡◌, ◌++◌, drop}
use Rattle.star_resolve.specs.Frames.{added}
use Rattle.star_resolve.proofs.scope.Scope.besides.Given as goal

abbrev pub invariant-loop-name : goal.invariant-loop-name
invariant-loop-name l = l.scope ++ added (l.known ++ l.scope) (drop l.name-index l.names) ≡ added l.known l.names
