use Rattle.std.proofs.Common.{◌≡◌, length}
use Rattle.yaml_spec.specs.Held.{plain_lines}
use Rattle.yaml_read.specs.Lines.{FitLines}
use Rattle.yaml_read.specs.Passing.{pass_from}
use Rattle.yaml_read.proofs.pass.pass_each.Given as goal

abbrev pub invariant-lines : goal.invariant-lines
invariant-lines l = record {
  same : pass_from l.fn.stop (plain_lines l.fn.lines) l.fn.start ≡ pass_from l.fn.stop (plain_lines l.rest) l.state;
  fits : FitLines (plain_lines l.rest);
}

abbrev pub decreases-lines : goal.decreases-lines
decreases-lines l = length l.rest
