use Rattle.std.proofs.Common.{◌≡◌, drop}
use Rattle.star_resolve.specs.Variables.{each_once, with_each}
use Rattle.star_resolve.proofs.scope.Scope.of.Given as goal

abbrev pub invariant-loop-name : goal.invariant-loop-name
invariant-loop-name l = with_each l.scope (drop l.name-index l.names) ≡ each_once l.names
