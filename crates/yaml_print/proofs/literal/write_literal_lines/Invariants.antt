use Rattle.std.proofs.Common.{length}
use denote.Text.{Utf8}
use denote.Shadow.{shadow}
use Rattle.yaml_print.specs.Indent.{width}
use Rattle.yaml_print.proofs.Literals.{Leads}
use Rattle.yaml_print.proofs.literal.write_literal_lines.Given as goal

abbrev pub invariant-loop-line : goal.invariant-loop-line
invariant-loop-line g l = shadow (Utf8 l.rest) × Leads g.W.Put.has l.initial.out l.out (width l.indent) l.text l.rest

abbrev pub decreases-loop-line : goal.decreases-loop-line
decreases-loop-line g l = length l.rest
