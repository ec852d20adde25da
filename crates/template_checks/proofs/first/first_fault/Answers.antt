use Rattle.template_checks.proofs.Rowwise.{fault_is, levels_are}
use Rattle.template_checks.proofs.first.first_fault.Goals as goal

pub returns-clause-fault : goal.returns-clause-fault
returns-clause-fault c =
    fault_is c.args.file _ _ _ _ _ _ _ _ _ _ _ c.in_ok-flags.ensures c.in_ok-nexts.ensures.notes (rw c.as_slice.ensures at c.return_fault-returning.ensures) c.earlier.ensures c.earlier-2.ensures c.first_of-wrong.ensures

pub returns-clause-levels : goal.returns-clause-levels
returns-clause-levels c = levels_are c.args.file _ _ _ _ _ _ _ _ _ c.in_ok-flags.ensures c.earlier-2.ensures c.first_of-wrong.ensures
