use Rattle.star_values.specs.Objects.{seen}
use Rattle.star_calls.proofs.Opened.{OpenedSoFar}
use Rattle.star_calls.proofs.scopes.open_scope.Given as goal

abbrev pub invariant-loop-at : goal.invariant-loop-at
invariant-loop-at l = OpenedSoFar l.names (seen l.initial.arena) (seen l.arena) l.made l.at
