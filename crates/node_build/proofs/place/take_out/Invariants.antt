use Rattle.std.proofs.Common.{◌≡◌, length}
use Rattle.node_build.specs.Positions.{undone}
use Rattle.node_build.proofs.place.take_out.Given as goal

-- what is left of the log takes out what is left
abbrev pub invariant-loop-step : goal.invariant-loop-step
invariant-loop-step l = undone l.log l.items.items ≡ undone l.initial.log l.initial.items.items

abbrev pub decreases-loop-step : goal.decreases-loop-step
decreases-loop-step l = length l.log
