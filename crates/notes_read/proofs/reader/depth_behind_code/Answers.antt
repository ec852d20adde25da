use Rattle.notes_read.proofs.Longer.{uncounted}
use Rattle.notes_read.proofs.reader.depth_behind_code.Goals as goal

pub returns-in-Err-Fault : goal.returns-in-Err-Fault
returns-in-Err-Fault c = record { depth = uncounted 1 1 c.args.before c.args.code.now c.in-Err-Fault.field-0-0 (rw c.in-Err-Fault.field-0-is at c.in-Err-Fault.ensures.cut) }
