use Rattle.std.proofs.Common.{◌≤◌, IsUtf8, drop}
use Rattle.yaml_spec.specs.Held.{plain_lines}
use Rattle.yaml_text.specs.View.{cursor_of}
use Rattle.yaml_plain.proofs.FurtherLines.{IsGoing}
use Rattle.yaml_plain.proofs.lines.read_further.Given as goal

abbrev pub invariant-loop-at : goal.invariant-loop-at
invariant-loop-at l = record {
  utf8 : IsUtf8 l.last;
  few : l.empties ≤ l.at;
  going : IsGoing l.in_flow l.least l.first (cursor_of l.here) l.empties l.folded l.last (cursor_of l.end) (plain_lines (drop l.at l.here.below.now));
}
