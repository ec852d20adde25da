use Rattle.std.proofs.Common.{◌≡◌, ◌≤◌, IsUtf8, length, string_bytes}
use Rattle.yaml_spec.specs.Quotes.{prepend, scan}
use Rattle.yaml_quotes.proofs.scan.scan_line.Given as goal

abbrev pub invariant-pieces : goal.invariant-pieces
invariant-pieces l = record {
  same : prepend (string_bytes l.text) (scan l.is_double l.rest) ≡ scan l.is_double l.line;
  within : length l.rest ≤ length l.line;
  utf8 : IsUtf8 l.rest;
}

abbrev pub decreases-pieces : goal.decreases-pieces
decreases-pieces l = length l.rest
