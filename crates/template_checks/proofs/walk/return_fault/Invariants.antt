use Rattle.std.proofs.Common.{◌≡◌, take}
use Rattle.template_spec.specs.Misplaced.{earliest}
use Rattle.template_checks.specs.Held.{returned_of, wrong_of}
use Rattle.template_checks.specs.Walk.{flagged_faults}
use Rattle.template_checks.proofs.walk.return_fault.Given as goal

abbrev pub invariant-loop-one : goal.invariant-loop-one
invariant-loop-one l = wrong_of l.wrong ≡ earliest (flagged_faults l.flags (returned_of (take l.one-index l.returned)))
