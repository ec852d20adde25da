use Rattle.std.proofs.Common.{◌≡◌, ◌+◌, ◌≤◌, IsUtf8, length}
use Rattle.yaml_spec.specs.Rows as plain
use Rattle.yaml_rows.specs.Heads.{with_heads}
use Rattle.yaml_rows.specs.View.{heads_of}
use Rattle.yaml_rows.proofs.heads.read_heads.Given as goal

abbrev pub invariant-dashes : goal.invariant-dashes
invariant-dashes l = record {
  utf8 : IsUtf8 l.rest;
  within : l.here + length l.rest ≤ l.column + length l.text;
  same : with_heads (heads_of l.heads) (plain.heads_of (length l.rest) l.here l.tab l.rest) ≡ plain.heads_of (length l.text) l.column l.has_tab l.text;
}

abbrev pub decreases-dashes : goal.decreases-dashes
decreases-dashes l = length l.rest
