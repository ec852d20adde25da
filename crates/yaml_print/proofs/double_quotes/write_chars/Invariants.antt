use Rattle.yaml_print.specs.Puts.{Puts}
use Rattle.yaml_spec.specs.Text.{quoted_chars}
use Rattle.yaml_print.proofs.double_quotes.write_chars.Given as goal

abbrev pub invariant-loop-c : goal.invariant-loop-c
invariant-loop-c g l = Puts g.W.Put.has l.initial.out l.out (quoted_chars l.yielded)
