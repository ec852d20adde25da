use Rattle.std.proofs.Common.{◌≡◌}
use Rattle.star_machine.specs.Turns.{next, turns, value_of}
use Rattle.star_machine.specs.Weights.{Weighed}
use Rattle.star_machine.proofs.machine.step.Given as goal

abbrev pub invariant-items : goal.invariant-items
invariant-items l = record {
  same : next l.token l.machine.pending (value_of l.machine) ≡ next l.token l.fn.machine.pending (value_of l.fn.machine);
  weighed : Weighed l.weight l.machine.pending l.machine.shapes;
}

abbrev pub decreases-items : goal.decreases-items
decreases-items l = turns l.machine.pending
