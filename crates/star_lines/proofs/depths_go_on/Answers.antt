use Rattle.std.proofs.Common.{arith}
use Rattle.star_lines.proofs.Going.{goes_on}
use Rattle.star_lines.proofs.Telling.{counts}
use Rattle.star_lines.proofs.depths_go_on.Goals as goal

pub returns : goal.returns
returns c = record {
  counts = counts;
  goes_on = λ text below d n h. goes_on 0 d n text below (omega arith) h;
}
