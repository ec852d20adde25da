use Rattle.yaml_lines.proofs.Breaks.{lines-split}
use Rattle.yaml_lines.proofs.ends.split_line.Goals as goal

pub returns-then-byte-eq10-clause-lines : goal.returns-then-byte-eq10-clause-lines
returns-then-byte-eq10-clause-lines c = rw c.without_return.ensures.line (lines-split _ _ c.loop-end-test.true c.loop-end.invariant c.if-byte-eq10.true)
